-- The tests of `starts_run`, in the bytes. Assumes nothing.
use native.Mathlib.Omega.{arith}
use Rattle.wire.specs.Choice.{◌or◌, ◌and◌}
use Rattle.fit.proofs.starts_run.Statement.{statement}
use Rattle.fit.proofs.starts_run.Tie as tie

returns : tie.Need-returns
unfolding ◌and◌ ◌or◌
returns c =
    rw (← c.u16_at.ensures, ← c.is_ahead.ensures)

pub starts_run_spec : {M : Type 1} → statement M
starts_run_spec =
    tie.close
    (tie.spec
    (λ c. omega arith) (λ c. omega arith) (λ c. omega arith) (λ c κs. omega arith) (λ c κs. (omega arith, omega arith))
    returns)
