-- Before each turn the records before it passed, and the companions that were passed are below the next one. Assumes
-- nothing.
use Rattle.std.proofs.Common.{ℕ, ◌≤◌, ◌<◌, Bool, not, List}
use Rattle.wire.specs.Choice.{pick}
use Rattle.runs.specs.Run.{key_at, has_before}
use Rattle.runs.proofs.EachLaws.{Up}
use Rattle.runs.proofs.are_beside.Given as goal

abbrev pub test : List ℕ → (kind : ℕ) → (wanted : Bool) → (k : ℕ) → Bool
test s kind wanted k = pick wanted (has_before s kind k) (not (has_before s kind k))

abbrev pub invariant-loop-k : goal.invariant-loop-k
invariant-loop-k l =
    record {
      passed : Up (test l.s l.kind l.wanted) l.fn.i l.k;
      low : l.fn.q ≤ l.m;
      high : l.m ≤ l.fn.i;
      below : l.k < l.e → (x : ℕ) → l.fn.q ≤ x → x < l.m → (key_at l.s x).sequence < (key_at l.s l.k).sequence;
    }
