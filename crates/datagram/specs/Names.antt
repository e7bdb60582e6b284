-- All definitions of this crate under one name, for those who use them.
unfoldable pub use Rattle.datagram.specs.Kind.{only, body, has_part, parts_size, size_before, is_sized}
pub use Rattle.datagram.specs.Kind.{Kind, send, receive, write, acknowledge, time_out}
pub use Rattle.datagram.specs.Kind.{open_init, open_try, open_acknowledge, open_confirm}
pub use Rattle.datagram.specs.Kind.{close_init, close_confirm, time_out_on_close, kinds, kind_number, kind_of, kind_by}
pub use Rattle.wire.specs.Frame.{frame_size}
pub use Rattle.datagram.specs.Kind.{is_kind, is_of, context_size, packet_size, verdict_size}
pub use Rattle.datagram.specs.Kind.{end_verdict_size, body_from}
pub use Rattle.datagram.specs.Kind.{Part, channel_part, sequence_part, timeout_part, digest_part, packet_part}
pub use Rattle.datagram.specs.Kind.{port_part, counterparty_part, order_part, end_verdict_part, version_part}
pub use Rattle.datagram.specs.Kind.{verdict_part, part_size, body_of, part_number, is_part, place_of, size_of}
pub use Rattle.datagram.specs.Claim.{Claim, commitment_present, acknowledgement_present, receipt_absent}
pub use Rattle.datagram.specs.Claim.{next_receive_is, end_is, timeout_receipt_present, claims, claim_number, claim_of}
unfoldable pub use Rattle.datagram.specs.Datagram.{kind_in, context_in, packet_in, block_in, verdict_in, end_verdict_in}
unfoldable pub use Rattle.datagram.specs.Datagram.{packet_from, verdict_from, timeout_from, sequence_from, digest_from}
unfoldable pub use Rattle.datagram.specs.Datagram.{end_verdict_from, counterparty_from, order_from, version_from}
unfoldable pub use Rattle.datagram.specs.Datagram.{channel_from, datagram_in, is_part_sound, are_parts_sound}
unfoldable pub use Rattle.datagram.specs.Datagram.{verdicts_in, is_context_sound, is_sound}
pub use Rattle.datagram.specs.Datagram.{own_channel, Datagram, datagram_of, AnyVerdict, on_packet, on_end}
pub use Rattle.datagram.specs.Datagram.{block_height, block_time, verdicts_of}
unfoldable pub use Rattle.datagram.specs.Emitted.{framed, packet_bytes}
pub use Rattle.datagram.specs.Emitted.{sent_kind, delivered_kind, written_kind, acknowledged_kind, timed_out_kind}
pub use Rattle.datagram.specs.Emitted.{lapsed_kind, made_kind, emitted_packet}
