use Rattle.std.proofs.Common.{◌≡◌, refl, ◌+◌}
use Rattle.std.proofs.Math.Option.{some}
use Rattle.wire.specs.Choice.{◌or◌}
use Rattle.datagram.specs.declared.kind.Kind.TheVariants.{OpenInit}
use Rattle.datagram.specs.Kind.{kind_by, body_from, end_verdict_size, version_part, body, has_part, size_before}
use Rattle.datagram.specs.Kind.{place_of}
use Rattle.datagram.proofs.MatchLaws.{by_part}
use Rattle.datagram.proofs.place.version_place.Goals as goal

-- of the kinds that have a version, one is not an open init
pub returns-in_default : goal.returns-in_default
unfolding body has_part size_before ◌or◌
returns-in_default c =
    by_part version_part
    (λ k. (k ≡ OpenInit → ⊥) → body_from + 7 + end_verdict_size ≡ place_of version_part (some (kind_by k)))
    (λ e0. absurd (e0 refl), (λ e0. refl, tt))
    c.args.kind c.requires c.in_default.not-OpenInit
