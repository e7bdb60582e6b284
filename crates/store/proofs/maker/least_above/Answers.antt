-- Each turn takes the opening before.
use Rattle.std.proofs.Common.{◌≡◌, ℕ, ◌+◌, ◌/◌, length, max, sym, ◌∙◌, arith, ltb, ltb-true, ltb-false}
use native.Mathlib.Nat.{sub-zero}
use Rattle.std.proofs.lemmas.Grind.{common_steps}
use Rattle.wire.proofs.ChoiceLaws.{of-pick}
use Rattle.openings.specs.Opening.{opening_size, ends_of}
use Rattle.openings.specs.Maker.{least_above}
use Rattle.openings.proofs.OpeningLaws.{openings-over}
use Rattle.openings.proofs.LeastLaws.{least-turn}
use Rattle.store.proofs.maker.least_above.Goals as goal

pub loop-i-init : goal.loop-i-init
unfolding least_above
loop-i-init c =
    let bs = c.args.openings.now in
    rw (openings-over bs (length bs / opening_size) (omega arith))

pub loop-i-preserved : goal.loop-i-preserved
loop-i-preserved c =
    let a = c.u32_at.result in
    let n = c.loop-i.next in
    let from = least-turn c.args.openings.now c.loop-i.i (omega arith) (omega arith) in
    let turn = rw (← c.u32_at.ensures, ← c.loop-i.invariant) at from in
    let most = of-pick (λ (k : ℕ). max n (a + 1) ≡ k) (ltb a n) n (a + 1)
    (λ e. omega (arith, ltb-true a n e)) (λ e. omega (arith, ltb-false a n e)) in
    let next : c.max-next.result ≡ max n (a + 1) = grind (arith, common_steps) in
    next ∙ most ∙ sym turn

pub returns : goal.returns
unfolding ends_of
returns c =
    let end : c.loop-i.i ≡ 0 = omega arith in
    c.loop-i.invariant ∙ rw (ends_of, end, sub-zero)
