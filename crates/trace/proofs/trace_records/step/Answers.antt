-- Nothing more is read.
use Rattle.std.proofs.Common.{refl}
use Rattle.text.proofs.StoreLaws.{stores-nothing}
use Rattle.trace.proofs.trace_records.step.Goals as goal

pub returns-in-Over : goal.returns-in-Over
returns-in-Over c = rw c.in-Over.is (refl, (refl, stores-nothing c.args.lines.now))
