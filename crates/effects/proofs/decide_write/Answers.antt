-- The sequence, the digest and their record; the end stays. Assumes nothing.
use Rattle.std.proofs.Common.{arith, refl}
use Rattle.wire.specs.Choice.{◌or◌, with_number}
use Rattle.datagram.specs.Kind.{body, has_part, parts_size, size_before}
use Rattle.datagram.specs.Datagram.{sequence_from}
use Rattle.rules.specs.Acceptance.{writes_acknowledgement}
use Rattle.effects.proofs.decide_write.Goals as goal

pub sequence_in-sequence-requires : goal.sequence_in-sequence-requires
unfolding body parts_size
sequence_in-sequence-requires c = omega (arith, c.requires)

pub digest_in-digest-requires : goal.digest_in-digest-requires
unfolding with_number body has_part ◌or◌
digest_in-digest-requires c = (refl, c.requires)

pub returns : goal.returns
unfolding writes_acknowledgement with_number sequence_from body size_before
returns c = rw (c.plain_record.ensures, c.digest_in-digest.ensures, c.sequence_in-sequence.ensures)
