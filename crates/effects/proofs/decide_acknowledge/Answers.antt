-- The packet and the digest, the commitment, and the end that counts it. Assumes nothing.
use Rattle.std.proofs.Common.{arith, refl}
use Rattle.wire.specs.Choice.{◌or◌, with_number}
use Rattle.datagram.specs.Kind.{body, has_part, parts_size, size_before}
use Rattle.datagram.specs.Datagram.{packet_from}
use Rattle.rules.specs.Acceptance.{acknowledges}
use Rattle.effects.proofs.decide_acknowledge.Goals as goal

pub packet_in-packet-requires : goal.packet_in-packet-requires
unfolding body parts_size
packet_in-packet-requires c = omega (arith, c.requires.0)

pub digest_in-requires : goal.digest_in-requires
unfolding with_number body has_part ◌or◌
digest_in-requires c = (refl, c.requires.0)

pub returns : goal.returns
unfolding acknowledges with_number packet_from body size_before
returns c =
    rw (
      c.acknowledged_end.ensures,
      c.freed_commitment.ensures,
      c.digest_in.ensures,
      c.packet_in-packet.ensures,
    )
