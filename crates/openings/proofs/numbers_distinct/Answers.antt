-- Each index is asked.
use Rattle.std.proofs.Common.{◌∙◌, refl, rules, tests}
use native.Mathlib.Nat.{sub-zero}
use Rattle.std.proofs.lemmas.Iterator.{YieldsList-from_range}
use Rattle.std.proofs.lemmas.Iterator.Search.{all_from_yields_List}
use Rattle.openings.proofs.TestLaws.{is_lone, distinct-all}
use Rattle.openings.proofs.numbers_distinct.Goals as goal

pub returns : goal.returns
returns c =
    let bs = c.args.openings.now in
    all_from_yields_List (is_lone bs) _ _ c.all.result c.all.ensures.ran
    (YieldsList-from_range _ _ _ refl (sub-zero _)) (λ x b q k. search (rules, tests)) ∙ distinct-all bs
