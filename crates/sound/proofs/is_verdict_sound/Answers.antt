use Rattle.std.proofs.Common.{rules, arith}
use Rattle.datagram.specs.Kind.{verdict_part}
use Rattle.datagram.specs.Datagram.{verdict_in, verdict_from}
use Rattle.datagram.proofs.KindLaws.{part_room}
use Rattle.sound.proofs.is_verdict_sound.Goals as goal

pub u16_at-requires : goal.u16_at-requires
u16_at-requires c = omega (arith, part_room verdict_part _ c.requires.0)

pub returns : goal.returns
unfolding verdict_in verdict_from
returns c = search rules
