use Rattle.std.proofs.Common.{◌≡◌, refl, ◌+◌}
use Rattle.std.proofs.Math.Option.{some}
use Rattle.wire.specs.Choice.{◌or◌}
use Rattle.datagram.specs.declared.kind.Kind.TheVariants.{OpenTry, OpenAcknowledge, TimeOutOnClose}
use Rattle.datagram.specs.Kind.{kind_by, body_from, end_verdict_part, body, has_part, size_before, place_of}
use Rattle.datagram.proofs.MatchLaws.{by_part}
use Rattle.datagram.proofs.place.end_verdict_place.Goals as goal

-- of the kinds that have an end verdict, two have it right behind the channel
pub returns-in_default : goal.returns-in_default
unfolding body has_part size_before ◌or◌
returns-in_default c =
    by_part end_verdict_part
    (λ k. (k ≡ OpenTry → ⊥) → (k ≡ OpenAcknowledge → ⊥) → (k ≡ TimeOutOnClose → ⊥) →
    body_from + 4 ≡ place_of end_verdict_part (some (kind_by k))) (
      λ p q r. absurd (p refl),
      (λ p q r. absurd (q refl), (λ p q r. refl, (λ p q r. refl, (λ p q r. absurd (r refl), tt)))),
    )
    c.args.kind c.requires c.in_default.not-OpenTry c.in_default.not-OpenAcknowledge c.in_default.not-TimeOutOnClose
