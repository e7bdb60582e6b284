-- Some of a range are copied within it: `put_mid-copied`. Assumes nothing.
use Rattle.std.proofs.Common.{◌+◌, arith}
use Rattle.wire.proofs.ArrayLaws.{put_mid-copied}
use Rattle.changes.proofs.shift.shift_up.Goals as goal

pub returns : goal.returns
returns c =
    let from = c.args.from in
    let size = c.args.size in
    rw c.copy_within.ensures.after
    (put_mid-copied from (from + 64 + size) 0 size 64 c.args.s.now (omega arith) (omega arith))
