-- The height, and where that has not passed the time.
use Rattle.wire.proofs.Prelude.{◌≡◌, ap}
use Rattle.wire.specs.Choice.{◌or◌}
use Rattle.slots.specs.declared.OtherHeight.{OtherHeight}
use Rattle.slots.specs.declared.OtherTime.{OtherTime}
use Rattle.slots.specs.Height.{is_past}
use Rattle.slots.proofs.FieldLaws.{past-default}
use Rattle.heights.proofs.has_passed_at.Goals as goal

pub returns-then-is_past : goal.returns-then-is_past
unfolding ◌or◌
returns-then-is_past c =
    let d = ap (λ (h : OtherHeight). h.0) c.height_at_sender.ensures in
    let past = c.is_past.ensures in
    let h : c.is_past.result ≡ is_past c.args.t.height c.args.block.height.0 =
    past-default _ _ _ _ _ d past.1 past.2 in
    rw (← h, c.if-is_past.true)

pub returns-else-is_past : goal.returns-else-is_past
unfolding ◌or◌
returns-else-is_past c =
    let d = ap (λ (h : OtherHeight). h.0) c.height_at_sender.ensures in
    let past = c.is_past.ensures in
    let h : c.is_past.result ≡ is_past c.args.t.height c.args.block.height.0 =
    past-default _ _ _ _ _ d past.1 past.2 in
    let e = ap (λ (h : OtherTime). h.0) c.time_at_sender.ensures in
    let past_time = c.is_past-else-is_past.ensures in
    rw (← h, c.if-is_past.false) (past-default _ _ _ _ _ e past_time.1 past_time.2)
