-- Some of a range are copied within it, up to its end: `put_mid-copied`. Assumes nothing.
use Rattle.std.proofs.Common.{◌≡◌, ◌+◌, ◌-◌, arith, length, take, drop}
use Rattle.wire.proofs.BytesLaws.{length_part}
use Rattle.wire.specs.Bytes.{part}
use Rattle.wire.proofs.ArrayLaws.{put_mid-copied}
use Rattle.changes.proofs.shift.shift_down.Goals as goal

pub returns : goal.returns
unfolding part
returns c =
    let to = c.args.to in
    let e = to + 64 + c.args.size in
    let s = c.args.s.now in
    let end : length (take (e - to) (drop to s)) ≡ e - to = length_part to (e - to) s (omega arith) in
    rw (c.copy_within.ensures.after, end) (put_mid-copied to e 64 (e - to) 0 s (omega arith) (omega arith))
