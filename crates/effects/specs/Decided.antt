-- The effect that a decision tells, and what must be left for it.
use Rattle.std.specs.Prelude.{◌≡◌, false, ℕ}
use Rattle.std.proofs.Math.Option.{Option, some}
use Rattle.slots.specs.declared.Channel.{Channel}
use Rattle.datagram.specs.Kind.{Kind, send, receive, acknowledge, time_out, open_init, open_try, time_out_on_close}
use Rattle.datagram.specs.Datagram.{Datagram}
use Rattle.emit.specs.Output.{emitted_by}
use Rattle.rules.specs.Ordering.{is_send_at_top, is_receive_at_top, is_acknowledge_at_top, is_timeout_at_top}
use Rattle.rules.specs.Acceptance.{EndEdit, leaves, puts, adds, Effect, effect}
use Rattle.lifecycle.specs.Number.{NumberLeft}
use Rattle.records.specs.Edited.{edit_by}
use Rattle.effects.specs.declared.EndEdit.{EndEdit as DecidedEnds}
use Rattle.effects.specs.declared.EndEdit.TheVariants.{Leaves, Puts, Adds}
use Rattle.effects.specs.declared.Decision.{Decision}

abbrev pub ends_by : DecidedEnds → EndEdit
ends_by Leaves = leaves
ends_by (Puts c) = puts c
ends_by (Adds c) = adds c

abbrev pub effect_by : Decision → Effect
effect_by d = effect (ends_by d.ends) (edit_by d.edit) (emitted_by d.emission)

-- WHAT MUST BE LEFT, by kind: a counter that rises is below its top, and there is a number for a new end
pub record Left (k : Option Kind) (next : ℕ) (c : Channel) (d : Datagram) : Type 0 where
  pub sends : k ≡ some send → is_send_at_top c ≡ false
  pub receives : k ≡ some receive → is_receive_at_top c ≡ false
  pub acknowledges : k ≡ some acknowledge → is_acknowledge_at_top c ≡ false
  pub times_out : k ≡ some time_out → is_timeout_at_top c ≡ false
  pub times_out_on_close : k ≡ some time_out_on_close → is_timeout_at_top c ≡ false
  pub inits : k ≡ some open_init → NumberLeft next d
  pub tries : k ≡ some open_try → NumberLeft next d
