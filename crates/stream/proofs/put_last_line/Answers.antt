-- Where the replay is over, nothing is stored.
use Rattle.text.proofs.StoreLaws.{stores-nothing}
use Rattle.stream.proofs.put_last_line.Goals as goal

pub returns-in-Over : goal.returns-in-Over
returns-in-Over c = rw c.in-Over.is (stores-nothing c.args.lines.now)
