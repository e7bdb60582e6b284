-- At each record the companions up to the slot that was reached are below it. Assumes nothing.
use Rattle.std.proofs.Common.{◌≡◌, refl, sym, ap, ◌∙◌, ℕ, Bool, not, true, false, arith}
use mathlib.Core.Bool.{beq}
use lib.Dec.{ltb, eqb}
use borrow.Author.Tests.{not-true, not-false, ltb-true, ltb-false}
use Rattle.wire.specs.Choice.{◌and◌, pick}
use Rattle.wire.proofs.ChoiceLaws.{cases}
use Rattle.runs.specs.Run.{key_at, Reached}
use Rattle.runs.proofs.RunLaws.{sequence-at}
use Rattle.runs.proofs.BesideLaws.{companion-there, passed-next}
use Rattle.runs.proofs.EachLaws.{up_more, up-all, up-fails}
use Rattle.runs.proofs.are_beside.Invariants.{test}
use Rattle.runs.proofs.are_beside.Goals as goal
use Rattle.runs.proofs.are_beside.Goals.{After-is_there}

-- two answers are alike
alike : (a b : Bool) → beq a b ≡ pick b a (not a)
alike true true = refl
alike true false = refl
alike false true = refl
alike false false = refl

sequence : (c : After-is_there) → c.u64_at-sequence.result ≡ (key_at c.args.s.now c.loop-k.k).sequence
sequence c = c.u64_at-sequence.ensures ∙ sym (sequence-at c.args.s.now c.loop-k.k)

reached : (c : After-is_there) →
    Reached c.args.s.now c.args.q c.args.i (key_at c.args.s.now c.loop-k.k).sequence c.pass_below-m.result
reached c =
    let r = c.pass_below-m.ensures in
    let inv = c.loop-k.invariant in
    let e = sequence c in
    record {
      low = omega (arith, inv.low, r.low);
      high = r.high;
      below = λ x m n.
          cases (ltb x c.loop-k.m) (λ f. inv.below (omega arith) x m (ltb-true x c.loop-k.m f))
          (λ f. omega (arith, r.below x (ltb-false x c.loop-k.m f) n, e));
      stopped = λ m. omega (arith, r.stopped m, e);
    }

tested : (c : After-is_there) → let a = c.args in
    beq c.is_there.result a.wanted ≡ test a.s.now a.kind a.wanted c.loop-k.k
tested c =
    let a = c.args in
    let s = a.s.now in
    let m = c.pass_below-m.result in
    let there = companion-there s a.kind a.q a.i a.e c.requires.1 c.loop-k.k c.loop-k.invariant.passed.0 (omega arith)
    m (reached c) in
    let found = c.is_there.ensures ∙ ap (λ (n : ℕ). ltb m a.i and eqb (key_at s m).sequence n) (sequence c) ∙ sym there in
    alike c.is_there.result a.wanted ∙ ap (λ (b : Bool). pick a.wanted b (not b)) found

pub returns-then-is_there-wanted : goal.returns-then-is_there-wanted
returns-then-is_there-wanted c =
    let a = c.args in
    let t = (goal.at.returns-then-is_there-wanted c).After-is_there in
    up-fails (test a.s.now a.kind a.wanted) a.i a.e c.loop-k.k c.loop-k.invariant.passed (omega arith)
    (sym (tested t) ∙ not-true (beq c.is_there.result a.wanted) c.if-is_there-wanted.true)

pub loop-k-preserved : goal.loop-k-preserved
loop-k-preserved c =
    let a = c.args in
    let t = (goal.at.loop-k-preserved c).After-is_there in
    let s = a.s.now in
    let k = c.loop-k.k in
    let r = reached t in
    let inv = c.loop-k.invariant.passed in
    record {
      passed = up_more (test s a.kind a.wanted) a.i k inv
          (sym (tested t) ∙ not-false (beq c.is_there.result a.wanted) c.if-is_there-wanted.false);
      low = r.low;
      high = r.high;
      below = passed-next s a.kind a.q a.i a.e c.requires.1 k inv.0 (omega arith) c.pass_below-m.result r;
    }

pub returns : goal.returns
returns c =
    let a = c.args in
    up-all (test a.s.now a.kind a.wanted) a.i a.e c.loop-k.k c.loop-k.invariant.passed (omega arith)
    (omega (arith, c.requires.1.run.low))
