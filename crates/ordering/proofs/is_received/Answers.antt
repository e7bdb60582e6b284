-- What the closure tells of a key is what the table holds. Assumes nothing.
use Rattle.std.proofs.Common.{rules, tests}
use Rattle.slots.specs.Layout.{store_in}
use Rattle.ordering.proofs.is_received.Goals as goal

pub returns : goal.returns
returns c = c.is_received.ensures (store_in c.args.store.now).records (λ kind b l p. search (rules, tests))
