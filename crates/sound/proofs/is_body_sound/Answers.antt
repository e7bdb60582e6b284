use Rattle.std.proofs.Common.{rules, arith}
use Rattle.wire.specs.Choice.{◌and◌, ◌or◌}
use Rattle.wire.proofs.ChoiceLaws.{and-true, and_assoc}
use Rattle.datagram.specs.Kind.{body, has_part, parts_size, size_before}
use Rattle.datagram.specs.Datagram.{packet_from, sequence_from, are_parts_sound, is_part_sound}
use Rattle.sound.specs.Sound.{is_body_sound}
use Rattle.sound.proofs.is_body_sound.Goals as goal

pub is_packet_sound-requires : goal.is_packet_sound-requires
unfolding body parts_size
is_packet_sound-requires c = search rules

pub is_packet_sound-requires-in-TimeOutOnClose : goal.is_packet_sound-requires-in-TimeOutOnClose
unfolding body parts_size
is_packet_sound-requires-in-TimeOutOnClose c = search rules

pub sequence_in-requires : goal.sequence_in-requires
unfolding body parts_size
sequence_in-requires c = search rules

pub is_verdict_sound-requires : goal.is_verdict_sound-requires
unfolding body has_part ◌or◌
is_verdict_sound-requires c = search rules

pub is_verdict_sound-requires-in-TimeOutOnClose : goal.is_verdict_sound-requires-in-TimeOutOnClose
unfolding body has_part ◌or◌
is_verdict_sound-requires-in-TimeOutOnClose c = search rules

pub is_order_sound-requires : goal.is_order_sound-requires
unfolding body has_part ◌or◌
is_order_sound-requires c = search rules

pub is_order_sound-requires-in-OpenTry : goal.is_order_sound-requires-in-OpenTry
unfolding body has_part ◌or◌
is_order_sound-requires-in-OpenTry c = search rules

pub is_end_verdict_sound-requires : goal.is_end_verdict_sound-requires
unfolding body has_part ◌or◌
is_end_verdict_sound-requires c = search rules

pub is_end_verdict_sound-requires-in-OpenAcknowledge : goal.is_end_verdict_sound-requires-in-OpenAcknowledge
unfolding body has_part ◌or◌
is_end_verdict_sound-requires-in-OpenAcknowledge c = search rules

pub is_end_verdict_sound-requires-in-TimeOutOnClose : goal.is_end_verdict_sound-requires-in-TimeOutOnClose
unfolding body has_part ◌or◌
is_end_verdict_sound-requires-in-TimeOutOnClose c = search rules

pub returns-in-Send : goal.returns-in-Send
unfolding body packet_from sequence_from size_before is_body_sound are_parts_sound is_part_sound ◌and◌
returns-in-Send c = search (rules, and-true)

pub returns-in-Receive : goal.returns-in-Receive
unfolding body packet_from sequence_from size_before is_body_sound are_parts_sound is_part_sound ◌and◌
returns-in-Receive c = search (rules, and-true)

pub returns-in-Write : goal.returns-in-Write
unfolding body packet_from sequence_from size_before is_body_sound are_parts_sound is_part_sound ◌and◌
returns-in-Write c = search (rules, and-true)

pub returns-in-OpenInit : goal.returns-in-OpenInit
unfolding body packet_from sequence_from size_before is_body_sound are_parts_sound is_part_sound ◌and◌
returns-in-OpenInit c = search (rules, and-true)

pub returns-in-OpenTry : goal.returns-in-OpenTry
unfolding body packet_from sequence_from size_before is_body_sound are_parts_sound is_part_sound ◌and◌
returns-in-OpenTry c = search (rules, and-true)

pub returns-in-OpenAcknowledge : goal.returns-in-OpenAcknowledge
unfolding body packet_from sequence_from size_before is_body_sound are_parts_sound is_part_sound ◌and◌
returns-in-OpenAcknowledge c = search (rules, and-true)

pub returns-in-TimeOutOnClose : goal.returns-in-TimeOutOnClose
unfolding body packet_from sequence_from size_before is_body_sound are_parts_sound is_part_sound ◌and◌
returns-in-TimeOutOnClose c = search (rules, and-true)
