use Rattle.std.proofs.Common.{arith}
use Rattle.text.proofs.LineLaws.{length-decimal}
use Rattle.text.proofs.StoreLaws.{length-stored, stores-both}
use Rattle.text.proofs.Lines.put_tail.Goals as goal

pub put_number-requires : goal.put_number-requires
put_number-requires c = omega (arith, c.put_bytes.ensures.place, length-stored c.put_bytes.ensures)

pub put_bytes-requires-2 : goal.put_bytes-requires-2
put_bytes-requires-2 c =
    omega (
      arith,
      c.put_bytes.ensures.place,
      length-stored c.put_bytes.ensures,
      c.put_number.ensures.place,
      length-stored c.put_number.ensures,
      length-decimal 20 c.args.number,
    )

pub returns : goal.returns
returns c = stores-both c.put_bytes.ensures (stores-both c.put_number.ensures c.put_bytes-2.ensures)
