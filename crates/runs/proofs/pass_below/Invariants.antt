-- What was passed is below the sequence. Assumes nothing.
use Rattle.std.proofs.Common.{ℕ, ◌≤◌, ◌<◌}
use Rattle.runs.specs.Run.{key_at}
use Rattle.runs.proofs.pass_below.Given as goal

abbrev pub invariant-loop-k : goal.invariant-loop-k
invariant-loop-k l = (m : ℕ) → l.q ≤ m → m < l.k → (key_at l.s m).sequence < l.sequence
