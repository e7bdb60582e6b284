-- Whole openings; then each is asked.
use Rattle.std.proofs.Common.{◌≡◌, ℕ, ◌%◌, ◌∙◌, length, refl, rules, tests, eq-eqb, ne_eqb}
use native.Mathlib.Nat.{sub-zero}
use Rattle.std.proofs.lemmas.Iterator.{YieldsList-from_range}
use Rattle.std.proofs.lemmas.Iterator.Search.{all_from_yields_List}
use Rattle.wire.specs.Choice.{◌and◌}
use Rattle.openings.specs.Opening.{opening_size, opening_fits, openings_in, all_openings_fit}
use Rattle.openings.proofs.OpeningLaws.{opening_at}
use Rattle.openings.proofs.TestLaws.{fit-all}
use Rattle.openings.proofs.openings_fit.Goals as goal

pub returns-then-openings-eq0 : goal.returns-then-openings-eq0
unfolding ◌and◌
returns-then-openings-eq0 c =
    let bs = c.args.openings.now in
    let all : c.all.result ≡ all_openings_fit (openings_in bs) =
    all_from_yields_List (λ (k : ℕ). opening_fits (opening_at bs k)) _ _ c.all.result c.all.ensures.ran
    (YieldsList-from_range _ _ _ refl (sub-zero _)) (λ x b q k. search (rules, tests)) ∙ fit-all bs in
    rw (eq-eqb (length bs % opening_size) 0 c.if-openings-eq0.true, all)

pub returns-else-openings-eq0 : goal.returns-else-openings-eq0
unfolding ◌and◌
returns-else-openings-eq0 c = rw (ne_eqb (length c.args.openings.now % opening_size) 0 c.if-openings-eq0.false)
