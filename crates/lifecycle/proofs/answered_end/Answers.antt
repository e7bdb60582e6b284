use Rattle.std.proofs.Common.{rules}
use Rattle.wire.specs.Choice.{◌or◌}
use Rattle.datagram.specs.Kind.{body, has_part}
use Rattle.rules.specs.Handshake.{answering}
use Rattle.lifecycle.proofs.answered_end.Goals as goal

pub counterparty_channel_in-requires : goal.counterparty_channel_in-requires
unfolding body has_part ◌or◌
counterparty_channel_in-requires c = search rules

pub returns : goal.returns
unfolding answering
returns c = search rules
