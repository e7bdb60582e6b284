-- A digest of zeros is equal to as many zeros. Assumes nothing.
use Rattle.std.proofs.Common.{◌≡◌, ◌∙◌, rules, length}
use Rattle.wire.proofs.ZeroLaws.{pointwise-zeros}
use Rattle.rows.proofs.is_empty.Goals as goal

pub returns : goal.returns
returns c =
    let full : length c.args.digest ≡ 32 = search rules in
    c.eq.ensures ∙ pointwise-zeros 32 c.args.digest full
