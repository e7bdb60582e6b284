use Rattle.std.proofs.Common.{rules}
use Rattle.datagram.specs.Kind.{body, parts_size, size_before}
use Rattle.datagram.specs.Datagram.{packet_in, packet_from, channel_from}
use Rattle.datagram.proofs.read.channel_in.Goals as goal

pub u32_at-requires : goal.u32_at-requires
unfolding body parts_size
u32_at-requires c = search rules

pub u32_at-requires-in-Acknowledge : goal.u32_at-requires-in-Acknowledge
unfolding body parts_size
u32_at-requires-in-Acknowledge c = search rules

pub u32_at-requires-in-Send : goal.u32_at-requires-in-Send
unfolding body parts_size
u32_at-requires-in-Send c = search rules

pub returns-in-Receive : goal.returns-in-Receive
unfolding body size_before channel_from packet_from packet_in
returns-in-Receive c = search rules

pub returns-in-Acknowledge : goal.returns-in-Acknowledge
unfolding body size_before channel_from packet_from packet_in
returns-in-Acknowledge c = search rules

pub returns-in-OpenInit : goal.returns-in-OpenInit
unfolding body size_before channel_from packet_from packet_in
returns-in-OpenInit c = search rules

pub returns-in-Send : goal.returns-in-Send
unfolding body size_before channel_from packet_from packet_in
returns-in-Send c = search rules
