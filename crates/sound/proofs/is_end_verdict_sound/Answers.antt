use Rattle.std.proofs.Common.{rules, arith}
use Rattle.datagram.specs.Kind.{end_verdict_part}
use Rattle.datagram.specs.Datagram.{end_verdict_in, end_verdict_from}
use Rattle.datagram.proofs.KindLaws.{part_room}
use Rattle.sound.proofs.is_end_verdict_sound.Goals as goal

pub u16_at-requires : goal.u16_at-requires
u16_at-requires c = omega (arith, part_room end_verdict_part _ c.requires.0)

pub returns : goal.returns
unfolding end_verdict_in end_verdict_from
returns c = search rules
