use Rattle.std.proofs.Common.{arith}
use Rattle.text.proofs.StoreLaws.{length-stored, stores-both}
use Rattle.text.proofs.Lines.put_word_line.Goals as goal

pub put_tail-requires : goal.put_tail-requires
put_tail-requires c = omega (arith, c.put_bytes.ensures.place, length-stored c.put_bytes.ensures)

pub returns : goal.returns
returns c = stores-both c.put_bytes.ensures c.put_tail.ensures
