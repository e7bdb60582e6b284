use Rattle.std.proofs.Common.{rules}
use Rattle.datagram.specs.Kind.{body, parts_size, size_before}
use Rattle.datagram.specs.Datagram.{packet_from}
use Rattle.rules.specs.Acceptance.{effect_of, effect_for}
use Rattle.effects.proofs.decide.Goals as goal

-- both time-outs have the packet at the front of their body
pub decide_time_out-requires : goal.decide_time_out-requires
unfolding body parts_size
decide_time_out-requires c = search rules

pub returns-in-TimeOut : goal.returns-in-TimeOut
unfolding effect_for effect_of packet_from body size_before
returns-in-TimeOut c = search rules
