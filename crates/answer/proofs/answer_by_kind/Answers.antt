use Rattle.std.proofs.Common.{rules, ℕ, List, sym, ap, ◌∙◌, drop}
use Rattle.std.proofs.Math.Option.{some}
use Rattle.wire.specs.Choice.{◌or◌}
use Rattle.slots.specs.Version.{version_fits}
use Rattle.datagram.specs.Kind.{Kind, send, receive, write, acknowledge, time_out, open_init, time_out_on_close}
use Rattle.datagram.specs.Kind.{body, has_part, parts_size, size_before}
use Rattle.datagram.specs.Datagram.{packet_from, timeout_from, sequence_from, version_from, Datagram, datagram_of}
use Rattle.answer.proofs.answer_by_kind.Goals as goal

abbrev sent : Kind → List ℕ → Datagram
sent k d = datagram_of (some k) d

pub timeout_in-requires : goal.timeout_in-requires
unfolding body parts_size
timeout_in-requires c = search rules

pub packet_in-requires : goal.packet_in-requires
unfolding body parts_size
packet_in-requires c = search rules

pub sequence_in-requires : goal.sequence_in-requires
unfolding body parts_size
sequence_in-requires c = search rules

pub packet_in-p-requires : goal.packet_in-p-requires
unfolding body parts_size
packet_in-p-requires c = search rules

pub packet_in-requires-in-TimeOut : goal.packet_in-requires-in-TimeOut
unfolding body parts_size
packet_in-requires-in-TimeOut c = search rules

pub packet_in-p-requires-in-TimeOutOnClose : goal.packet_in-p-requires-in-TimeOutOnClose
unfolding body parts_size
packet_in-p-requires-in-TimeOutOnClose c = search rules

pub verdict_in-requires : goal.verdict_in-requires
unfolding body has_part ◌or◌
verdict_in-requires c = search rules

pub digest_in-requires : goal.digest_in-requires
unfolding body has_part ◌or◌
digest_in-requires c = search rules

pub digest_in-requires-in-Acknowledge : goal.digest_in-requires-in-Acknowledge
unfolding body has_part ◌or◌
digest_in-requires-in-Acknowledge c = search rules

pub verdict_in-requires-in-Acknowledge : goal.verdict_in-requires-in-Acknowledge
unfolding body has_part ◌or◌
verdict_in-requires-in-Acknowledge c = search rules

pub verdict_in-requires-in-TimeOut : goal.verdict_in-requires-in-TimeOut
unfolding body has_part ◌or◌
verdict_in-requires-in-TimeOut c = search rules

pub version_place-requires : goal.version_place-requires
unfolding body has_part ◌or◌
version_place-requires c = search rules

pub counterparty_channel_in-channel-requires : goal.counterparty_channel_in-channel-requires
unfolding body has_part ◌or◌
counterparty_channel_in-channel-requires c = search rules

pub end_verdict_in-requires : goal.end_verdict_in-requires
unfolding body has_part ◌or◌
end_verdict_in-requires c = search rules

pub end_verdict_in-requires-in-OpenConfirm : goal.end_verdict_in-requires-in-OpenConfirm
unfolding body has_part ◌or◌
end_verdict_in-requires-in-OpenConfirm c = search rules

pub end_verdict_in-requires-in-CloseConfirm : goal.end_verdict_in-requires-in-CloseConfirm
unfolding body has_part ◌or◌
end_verdict_in-requires-in-CloseConfirm c = search rules

pub end_verdict_in-requires-in-TimeOutOnClose : goal.end_verdict_in-requires-in-TimeOutOnClose
unfolding body has_part ◌or◌
end_verdict_in-requires-in-TimeOutOnClose c = search rules

pub verdict_in-requires-in-TimeOutOnClose : goal.verdict_in-requires-in-TimeOutOnClose
unfolding body has_part ◌or◌
verdict_in-requires-in-TimeOutOnClose c = search rules

pub version_fits-requires : goal.version_fits-requires
unfolding body size_before parts_size
version_fits-requires c = search rules

pub returns-in-Send : goal.returns-in-Send
unfolding body size_before timeout_from
returns-in-Send c =
    rw c.in-Send.is
    (c.send_row.ensures (sent send c.args.d.now) c.requires.context (sym c.timeout_in.ensures))

pub returns-in-Receive : goal.returns-in-Receive
unfolding body size_before packet_from
returns-in-Receive c =
    rw c.in-Receive.is
    (c.receive_row.ensures (sent receive c.args.d.now) c.requires.context (sym c.packet_in.ensures)
    (sym (rw c.in-Receive.is at c.verdict_in.ensures)))

pub returns-in-Write : goal.returns-in-Write
unfolding body size_before sequence_from
returns-in-Write c =
    rw c.in-Write.is
    (c.write_row.ensures (sent write c.args.d.now) (sym c.sequence_in.ensures)
    (sym (rw c.in-Write.is at c.digest_in.ensures)))

pub returns-in-Acknowledge : goal.returns-in-Acknowledge
unfolding body size_before packet_from
returns-in-Acknowledge c =
    rw c.in-Acknowledge.is
    (c.acknowledge_row.ensures (sent acknowledge c.args.d.now) c.requires.context (sym c.packet_in-p.ensures)
    (sym (rw c.in-Acknowledge.is at c.digest_in-in-Acknowledge.ensures))
    (sym (rw c.in-Acknowledge.is at c.verdict_in-in-Acknowledge.ensures)))

pub returns-in-TimeOut : goal.returns-in-TimeOut
unfolding body size_before packet_from
returns-in-TimeOut c =
    rw c.in-TimeOut.is
    (c.time_out_row.ensures (sent time_out c.args.d.now) (sym c.packet_in-in-TimeOut.ensures)
    (sym (rw c.in-TimeOut.is at c.verdict_in-in-TimeOut.ensures)))

pub returns-in-TimeOutOnClose : goal.returns-in-TimeOutOnClose
unfolding body size_before packet_from
returns-in-TimeOutOnClose c =
    rw c.in-TimeOutOnClose.is
    (c.time_out_on_close_row.ensures (sent time_out_on_close c.args.d.now) (sym c.packet_in-p-in-TimeOutOnClose.ensures)
    (sym (rw c.in-TimeOutOnClose.is at c.end_verdict_in-in-TimeOutOnClose.ensures))
    (sym (rw c.in-TimeOutOnClose.is at c.verdict_in-in-TimeOutOnClose.ensures)))

pub returns-in-OpenInit : goal.returns-in-OpenInit
unfolding version_from
returns-in-OpenInit c =
    let at = rw c.in-OpenInit.is at c.version_place.ensures in
    rw c.in-OpenInit.is
    (c.open_init_row.ensures (sent open_init c.args.d.now) c.args.c
    (sym (c.version_fits.ensures ∙ ap (λ (n : ℕ). version_fits (drop n c.args.d.now)) at)))
