-- Slots move up, and the record is stored over the first of them: `exact-inserted`. Assumes nothing.
use Rattle.std.proofs.Common.{◌≡◌, rules, length}
use Rattle.wire.proofs.PartLaws.{bytes-array}
use Rattle.slots.proofs.LayoutLaws.{length-record}
use Rattle.changes.proofs.ShiftLaws.{exact-inserted}
use Rattle.changes.proofs.insert_record.Goals as goal

pub returns : goal.returns
returns c =
    let s = c.args.s.now in
    let r = c.args.r in
    let full : length r.digest ≡ 32 = search rules in
    rw (c.put_record.ensures, c.shift_up.ensures)
    (exact-inserted s c.requires.0 (bytes-array s (search rules)) c.args.i c.args.m r (length-record r full) c.requires.1)
