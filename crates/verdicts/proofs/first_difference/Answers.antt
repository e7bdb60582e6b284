-- The digest, and no part: the equality of digests is that of the definitions. Assumes nothing.
use Rattle.std.proofs.Common.{arith}
use Rattle.std.proofs.lemmas.Bool.Decides.{nat_tests}
use Rattle.slots.proofs.FieldLaws.{by_fields}
use Rattle.rules.specs.Verdict.{first_difference}
use Rattle.verdicts.proofs.first_difference.Goals as goal

pub returns-then-ne : goal.returns-then-ne
unfolding first_difference
returns-then-ne c = grind (arith, nat_tests, by_fields)

pub returns : goal.returns
unfolding first_difference
returns c = grind (arith, nat_tests, by_fields)
