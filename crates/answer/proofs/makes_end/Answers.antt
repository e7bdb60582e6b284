use Rattle.std.proofs.Common.{rules, ◌≡◌, refl, false}
use Rattle.std.proofs.Math.Option.{some}
use Rattle.wire.specs.Choice.{◌or◌}
use Rattle.datagram.specs.declared.kind.Kind.{Kind}
use Rattle.datagram.specs.declared.kind.Kind.TheVariants.{Send, Receive, Write, Acknowledge, TimeOut}
use Rattle.datagram.specs.declared.kind.Kind.TheVariants.{OpenInit, OpenTry, OpenAcknowledge, OpenConfirm}
use Rattle.datagram.specs.declared.kind.Kind.TheVariants.{CloseInit, CloseConfirm, TimeOutOnClose}
use Rattle.datagram.specs.Kind.{kind_by, only}
use Rattle.rules.specs.Refusals.{makes_end}
use Rattle.answer.proofs.makes_end.Goals as goal

other : (k : Kind) → (k ≡ OpenInit → ⊥) → (k ≡ OpenTry → ⊥) → false ≡ makes_end (some (kind_by k))
unfolding only ◌or◌
other OpenInit p q = absurd (p refl)
other OpenTry p q = absurd (q refl)
other Send p q = refl
other Receive p q = refl
other Write p q = refl
other Acknowledge p q = refl
other TimeOut p q = refl
other OpenAcknowledge p q = refl
other OpenConfirm p q = refl
other CloseInit p q = refl
other CloseConfirm p q = refl
other TimeOutOnClose p q = refl

pub returns-in-OpenInit : goal.returns-in-OpenInit
unfolding only ◌or◌
returns-in-OpenInit c = search rules

pub returns-in_default : goal.returns-in_default
returns-in_default c = search (rules, other c.args.kind)
