-- The digits are made apart, and stored.
use Rattle.std.proofs.Common.{length, ap, ◌∙◌, arith}
use Rattle.text.proofs.LineLaws.{length-decimal, fewest-room, fewest-decimal}
use Rattle.text.proofs.Lines.put_number.Goals as goal

pub put_bytes-requires : goal.put_bytes-requires
put_bytes-requires c =
    let d = c.decimal-size in
    let n = c.args.number in
    let room = fewest-room n d.result c.ranges.number.fits d.ensures.len in
    let made = d.ensures.digits ∙ fewest-decimal n d.result room d.ensures.len in
    omega (arith, ap length made, length-decimal 20 n)

pub returns : goal.returns
returns c =
    let d = c.decimal-size in
    let n = c.args.number in
    let room = fewest-room n d.result c.ranges.number.fits d.ensures.len in
    let made = d.ensures.digits ∙ fewest-decimal n d.result room d.ensures.len in
    rw made at c.put_bytes.ensures
