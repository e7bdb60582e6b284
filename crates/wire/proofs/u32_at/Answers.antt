use Rattle.std.proofs.Common.{arith}
use Rattle.wire.proofs.ArrayLaws.{read-array}
use Rattle.wire.proofs.u32_at.Goals as goal

pub returns : goal.returns
returns c = read-array 3 c.args.at c.args.s.now (omega arith) c.array_at.ensures c.from_le_bytes.ensures
