-- Each index is asked.
use Rattle.std.proofs.Common.{ℕ, ◌∙◌, eqb, refl, rules, tests}
use Rattle.std.proofs.lemmas.Iterator.{YieldsList-from_range}
use Rattle.std.proofs.lemmas.Iterator.Search.{any_from_yields_List}
use Rattle.openings.proofs.TestLaws.{number_in, number-any}
use Rattle.openings.proofs.has_number.Goals as goal

pub returns : goal.returns
returns c =
    let bs = c.args.openings.now in
    any_from_yields_List (λ (k : ℕ). eqb (number_in bs k) c.args.channel) _ _ c.any.result c.any.ensures.ran
    (YieldsList-from_range _ _ _ refl refl) (λ x b q k. search (rules, tests))
    ∙ number-any bs c.args.channel c.args.from
