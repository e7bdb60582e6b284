-- The first of the three verdicts that refuses. Assumes nothing.
use Rattle.std.proofs.Common.{◌≡◌, ℕ, true, arith}
use Rattle.slots.specs.Codes.{state_closed}
use Rattle.rules.specs.Verdict.{first_end_difference, block_difference}
use Rattle.rules.specs.Handshake.{needed_peer}
use Rattle.rules.specs.Refusals.{absence_difference}
use Rattle.refusal.proofs.NumberLaws.{number_above}
use Rattle.verdicts.proofs.RowLines.{closed_lines}
use Rattle.closing.proofs.closed_row.Goals as goal

pub returns-in_err-absence_difference : goal.returns-in_err-absence_difference
returns-in_err-absence_difference c s d p v w =
    let end : first_end_difference d.end_verdict (needed_peer state_closed c.args.c) ≡ 0 = grind arith in
    rw (closed_lines s d c.args.c, end) (grind (arith, number_above))

pub returns-in_err-block_difference : goal.returns-in_err-block_difference
returns-in_err-block_difference c s d p v w =
    let end : first_end_difference d.end_verdict (needed_peer state_closed c.args.c) ≡ 0 = grind arith in
    let absence : absence_difference true c.args.c d.packet d.verdict ≡ 0 = grind arith in
    rw (closed_lines s d c.args.c, end, absence) (grind (arith, number_above))
