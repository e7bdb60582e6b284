-- The packet and whether it comes late; its record, and the end that counts it. Assumes nothing.
use Rattle.std.proofs.Common.{arith}
use Rattle.datagram.specs.Kind.{body, parts_size, size_before}
use Rattle.datagram.specs.Datagram.{packet_from}
use Rattle.rules.specs.Acceptance.{receives}
use Rattle.effects.proofs.decide_receive.Goals as goal

pub packet_in-packet-requires : goal.packet_in-packet-requires
unfolding body parts_size
packet_in-packet-requires c = omega (arith, c.requires.0)

pub returns : goal.returns
unfolding receives packet_from body size_before
returns c =
    rw (
      c.received_emission.ensures,
      c.received_end.ensures,
      c.received_edit.ensures,
      c.is_late_at_receiver-late.ensures,
      c.context_in.ensures,
      c.packet_in-packet.ensures,
    )
