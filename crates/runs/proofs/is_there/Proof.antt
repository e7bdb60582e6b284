-- The sequence in the bytes. Assumes nothing.
use native.Mathlib.Omega.{arith}
use borrow.Author.Tests.{lt-ltb, le-ltb}
use Rattle.wire.specs.Choice.{◌and◌}
use Rattle.runs.proofs.RunLaws.{sequence-at}
use Rattle.runs.proofs.is_there.Statement.{statement}
use Rattle.runs.proofs.is_there.Tie as tie

returns : tie.Need-returns-then-m-i
unfolding ◌and◌
returns c =
    let a = c.args in
    rw (lt-ltb a.m a.i (omega arith), sequence-at a.s.now a.m, ← c.u64_at.ensures)

returns-2 : tie.Need-returns
unfolding ◌and◌
returns-2 c = let a = c.args in rw (le-ltb a.m a.i (omega arith))

pub is_there_spec : {M : Type 1} → statement M
is_there_spec =
    tie.close
    (tie.spec (λ c. omega arith) (λ c. omega arith) (λ c. omega arith) (λ c κs. omega arith) returns returns-2)
