-- The timeouts are zero, and then the digest where it equals an array of zeros. Assumes nothing.
use Rattle.std.proofs.Common.{◌≡◌, ◌∙◌, sym, true, rules, length}
use Rattle.wire.specs.Choice.{◌and◌}
use Rattle.wire.proofs.ZeroLaws.{pointwise-zeros}
use Rattle.slots.specs.Height.{no_timeout, same_timeout}
use Rattle.slots.specs.Fit.{has_zero_timeouts_and_digest}
use Rattle.slots.proofs.FieldLaws.{same-timeout}
use Rattle.entries.proofs.has_zero_timeouts_and_digest.Goals as goal

pub returns-then-eq : goal.returns-then-eq
unfolding has_zero_timeouts_and_digest ◌and◌
returns-then-eq c =
    let r = c.args.r in
    let full : length r.digest ≡ 32 = search rules in
    let none : same_timeout r.timeout no_timeout ≡ true =
    same-timeout r.timeout no_timeout ∙ sym c.eq.ensures ∙ c.if-eq.true in
    rw none (c.eq-then-eq.ensures ∙ pointwise-zeros 32 r.digest full)
