use Rattle.std.proofs.Common.{◌≡◌, refl, ◌+◌}
use Rattle.std.proofs.Math.Option.{some}
use Rattle.wire.specs.Choice.{◌or◌}
use Rattle.datagram.specs.declared.kind.Kind.TheVariants.{Acknowledge, TimeOutOnClose}
use Rattle.datagram.specs.Kind.{kind_by, body_from, packet_size, verdict_part, body, has_part, size_before, place_of}
use Rattle.datagram.proofs.MatchLaws.{by_part}
use Rattle.datagram.proofs.place.verdict_place.Goals as goal

-- of the kinds that have a verdict, two have it right behind the packet
pub returns-in_default : goal.returns-in_default
unfolding body has_part size_before ◌or◌
returns-in_default c =
    by_part verdict_part
    (λ k. (k ≡ Acknowledge → ⊥) → (k ≡ TimeOutOnClose → ⊥) →
    body_from + packet_size ≡ place_of verdict_part (some (kind_by k)))
    (λ e0 e1. refl, (λ e0 e1. absurd (e0 refl), (λ e0 e1. refl, (λ e0 e1. absurd (e1 refl), tt))))
    c.args.kind c.requires c.in_default.not-Acknowledge c.in_default.not-TimeOutOnClose
