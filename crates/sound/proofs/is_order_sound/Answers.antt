use Rattle.std.proofs.Common.{rules}
use Rattle.wire.specs.Choice.{◌and◌}
use Rattle.sound.proofs.is_order_sound.Goals as goal

pub returns : goal.returns
unfolding ◌and◌
returns c = rw (← c.order_in-order.ensures)
