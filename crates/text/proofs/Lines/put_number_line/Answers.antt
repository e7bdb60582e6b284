use Rattle.std.proofs.Common.{arith}
use Rattle.text.proofs.LineLaws.{length-decimal}
use Rattle.text.proofs.StoreLaws.{length-stored, stores-both}
use Rattle.text.proofs.Lines.put_number_line.Goals as goal

pub put_tail-requires : goal.put_tail-requires
put_tail-requires c =
    omega (arith, c.put_number.ensures.place, length-stored c.put_number.ensures, length-decimal 20 c.args.first)

pub returns : goal.returns
returns c = stores-both c.put_number.ensures c.put_tail.ensures
