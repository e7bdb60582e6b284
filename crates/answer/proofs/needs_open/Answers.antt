use Rattle.std.proofs.Common.{rules, ◌≡◌, refl, false, [], ◌∷◌}
use Rattle.std.proofs.Math.Option.{some}
use Rattle.wire.specs.Choice.{◌or◌}
use Rattle.datagram.specs.declared.kind.Kind.{Kind}
use Rattle.datagram.specs.declared.kind.Kind.TheVariants.{Send, Receive, Write, Acknowledge, TimeOut}
use Rattle.datagram.specs.declared.kind.Kind.TheVariants.{OpenInit, OpenTry, OpenAcknowledge, OpenConfirm}
use Rattle.datagram.specs.declared.kind.Kind.TheVariants.{CloseInit, CloseConfirm, TimeOutOnClose}
use Rattle.datagram.specs.Kind.{send, receive, write, acknowledge, kind_by, only}
use Rattle.answer.proofs.needs_open.Goals as goal

other : (k : Kind) → (k ≡ Send → ⊥) → (k ≡ Receive → ⊥) → (k ≡ Write → ⊥) → (k ≡ Acknowledge → ⊥) →
    false ≡ only (send ∷ receive ∷ write ∷ acknowledge ∷ []) (some (kind_by k))
unfolding only ◌or◌
other Send p q r s = absurd (p refl)
other Receive p q r s = absurd (q refl)
other Write p q r s = absurd (r refl)
other Acknowledge p q r s = absurd (s refl)
other TimeOut p q r s = refl
other OpenInit p q r s = refl
other OpenTry p q r s = refl
other OpenAcknowledge p q r s = refl
other OpenConfirm p q r s = refl
other CloseInit p q r s = refl
other CloseConfirm p q r s = refl
other TimeOutOnClose p q r s = refl

pub returns-in-Send : goal.returns-in-Send
unfolding only ◌or◌
returns-in-Send c = search rules

pub returns-in_default : goal.returns-in_default
returns-in_default c =
    let n = c.in_default in
    other c.args.kind n.not-Send n.not-Receive n.not-Write n.not-Acknowledge
