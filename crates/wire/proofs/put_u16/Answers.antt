use Rattle.wire.proofs.ArrayLaws.{little-array}
use Rattle.wire.proofs.put_u16.Goals as goal

pub returns : goal.returns
returns c = rw (c.put_array.ensures, c.to_le_bytes.ensures, little-array 2 c.args.v)
