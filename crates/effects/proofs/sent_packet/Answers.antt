-- Field by field. Assumes nothing.
use Rattle.std.proofs.Common.{arith, refl}
use Rattle.wire.specs.Choice.{◌or◌, with_number}
use Rattle.datagram.specs.Kind.{body, has_part, parts_size, size_before}
use Rattle.datagram.specs.Datagram.{timeout_from}
use Rattle.rules.specs.Acceptance.{sent_packet}
use Rattle.effects.proofs.sent_packet.Goals as goal

pub timeout_in-requires : goal.timeout_in-requires
unfolding body parts_size
timeout_in-requires c = omega (arith, c.requires)

pub digest_in-requires : goal.digest_in-requires
unfolding with_number body has_part ◌or◌
digest_in-requires c = (refl, c.requires)

pub returns : goal.returns
unfolding with_number body size_before timeout_from sent_packet
returns c = rw (← c.digest_in.ensures, ← c.timeout_in.ensures)
