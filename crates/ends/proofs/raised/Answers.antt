-- A counter that rises is not at its top. Assumes nothing.
use Rattle.std.proofs.Common.{arith}
use borrow.Author.Tests.{eqb-false}
use Rattle.wire.specs.Choice.{◌and◌}
use Rattle.slots.specs.Limits.{top}
use Rattle.ends.proofs.raised.Goals as goal

pub overflow_add-result : goal.overflow_add-result
unfolding ◌and◌
overflow_add-result c =
    let below = rw c.if-rises.true at c.requires in
    let z = eqb-false c.args.counter top below in
    omega arith
