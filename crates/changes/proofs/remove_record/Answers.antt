-- Slots move down, and zeros are stored over the one behind them: `exact-removed`. Assumes nothing.
use Rattle.std.proofs.Common.{rules}
use Rattle.wire.proofs.PartLaws.{bytes-array}
use Rattle.changes.proofs.ShiftLaws.{exact-removed}
use Rattle.changes.proofs.remove_record.Goals as goal

pub returns : goal.returns
returns c =
    let s = c.args.s.now in
    rw (c.put_zeros.ensures, c.shift_down.ensures)
    (exact-removed s c.requires.0 (bytes-array s (search rules)) c.args.i c.args.m c.requires.1)
