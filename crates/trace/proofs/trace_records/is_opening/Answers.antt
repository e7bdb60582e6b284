-- By the tests that led to each answer.
use Rattle.std.proofs.Common.{length, arith, le-leb}
use borrow.Author.Tests.{lt-leb}
use Rattle.wire.specs.Choice.{◌and◌}
use Rattle.trace.specs.Trace.{is_opening}
use Rattle.trace.proofs.trace_records.is_opening.Goals as goal

pub returns-then-bytes-ge8 : goal.returns-then-bytes-ge8
unfolding is_opening ◌and◌
returns-then-bytes-ge8 c = rw (c.u16_at.ensures, le-leb 8 (length c.args.bytes.now) (omega arith))

pub returns-else-bytes-ge8 : goal.returns-else-bytes-ge8
unfolding is_opening ◌and◌
returns-else-bytes-ge8 c = rw (lt-leb 8 (length c.args.bytes.now) (omega arith))
