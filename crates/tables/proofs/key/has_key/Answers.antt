-- The key is read and compared, and then the slot is not free.
use Rattle.wire.proofs.Prelude.{◌≡◌, refl, sym, ap, ◌∙◌, Bool, true, false, eqb}
use mathlib.Core.Bool.{◌&&◌}
use borrow.Author.Tests.{ne_eqb}
use Rattle.wire.specs.Choice.{◌and◌}
use Rattle.wire.specs.Bytes.{part}
use Rattle.slots.specs.Table.{has_key}
use Rattle.slots.specs.Layout.{slot_size, record_in}
use Rattle.slots.proofs.FieldLaws.{has-equal-key}
use Rattle.slots.proofs.SlotTestLaws.{held}
use Rattle.tables.proofs.key.has_key.Goals as goal

last-fails : (a b : Bool) → (a && (b && false)) ≡ false
last-fails true true = refl
last-fails true false = refl
last-fails false b = refl

pub returns-then-own-k : goal.returns-then-own-k
unfolding ◌and◌
returns-then-own-k c =
    let p = part c.args.at slot_size c.args.s.now in
    let x = c.key_at-own.result in
    let k = c.args.k in
    let e : has_key k (record_in p) ≡ false =
    has-equal-key k x (record_in p) c.key_at-own.ensures ∙
    ap (λ (b : Bool). eqb x.channel k.channel && (eqb x.kind k.kind && b))
    (ne_eqb x.sequence k.sequence c.if-own-k.true) ∙ last-fails (eqb x.channel k.channel) (eqb x.kind k.kind) in
    rw (held record_in p (has_key k), e)

pub returns-then-eq : goal.returns-then-eq
unfolding ◌and◌
returns-then-eq c =
    let p = part c.args.at slot_size c.args.s.now in
    let e : has_key c.args.k (record_in p) ≡ true =
    has-equal-key c.args.k c.key_at-own.result (record_in p) c.key_at-own.ensures ∙ sym c.eq.ensures ∙ c.if-eq.true in
    rw (held record_in p (has_key c.args.k), e, ← c.are_zero.ensures)

pub returns-else-eq : goal.returns-else-eq
unfolding ◌and◌
returns-else-eq c =
    let p = part c.args.at slot_size c.args.s.now in
    let e : has_key c.args.k (record_in p) ≡ false =
    has-equal-key c.args.k c.key_at-own.result (record_in p) c.key_at-own.ensures ∙ sym c.eq.ensures ∙ c.if-eq.false in
    rw (held record_in p (has_key c.args.k), e, c.if-eq.false)
