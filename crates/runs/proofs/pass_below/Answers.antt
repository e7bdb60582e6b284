-- At each slot its sequence is compared. Assumes nothing.
use Rattle.std.proofs.Common.{ℕ, ◌<◌, arith}
use mathlib.Core.Path.{subst}
use lib.Dec.{eqb}
use borrow.Author.Tests.{eqb-true, eqb-false}
use Rattle.wire.proofs.ChoiceLaws.{cases}
use Rattle.runs.specs.Run.{key_at}
use Rattle.runs.proofs.RunLaws.{sequence-at}
use Rattle.runs.proofs.pass_below.Goals as goal

pub returns-then-sequence-u64_at : goal.returns-then-sequence-u64_at
returns-then-sequence-u64_at c =
    let k = c.loop-k.k in
    record {
      low = omega (arith, c.loop-k.auto.k);
      high = omega arith;
      below = c.loop-k.invariant;
      stopped = λ h. omega (arith, c.if-sequence-u64_at.true, c.u64_at.ensures, sequence-at c.args.s.now k);
    }

pub loop-k-preserved : goal.loop-k-preserved
loop-k-preserved c =
    let s = c.args.s.now in
    let k = c.loop-k.k in
    let own : (key_at s k).sequence < c.args.sequence =
    omega (arith, c.if-sequence-u64_at.false, c.u64_at.ensures, sequence-at s k) in
    λ m p n.
    cases (eqb k m)
    (λ e. subst (λ (x : ℕ). (key_at s x).sequence < c.args.sequence) (eqb-true k m e) own)
    (λ e. c.loop-k.invariant m p (omega (arith, eqb-false k m e)))
