use Rattle.std.proofs.Common.{rules}
use Rattle.wire.specs.Choice.{◌or◌}
use Rattle.datagram.specs.Kind.{body, has_part, parts_size, size_before}
use Rattle.datagram.specs.Datagram.{counterparty_from}
use Rattle.lifecycle.proofs.init_end.Goals as goal

pub counterparty_port_in-requires : goal.counterparty_port_in-requires
unfolding body parts_size
counterparty_port_in-requires c = search rules

pub end_made-requires : goal.end_made-requires
unfolding body has_part ◌or◌
end_made-requires c = search rules

pub returns : goal.returns
unfolding counterparty_from body size_before
returns c = search rules
