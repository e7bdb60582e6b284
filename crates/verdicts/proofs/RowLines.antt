-- The lines of each kind of datagram in the table, as choices one inside another. Assumes nothing.
use Rattle.std.proofs.Common.{◌≡◌, ℕ, arith, Bool, true, false, not, eqb}
use Rattle.std.proofs.Math.Option.{some}
use Rattle.wire.specs.Choice.{◌and◌, ◌or◌, pick, is_some}
use Rattle.wire.specs.Bytes.{are_zero}
use Rattle.slots.specs.declared.Channel.{Channel}
use Rattle.slots.specs.Height.{no_timeout, same_timeout}
use Rattle.slots.specs.Codes.{state_init, state_try_open, state_open, state_closed}
use Rattle.slots.specs.Table.{has_free}
use Rattle.slots.specs.Layout.{Store}
use Rattle.slots.specs.Ordering.{is_received}
use Rattle.slots.specs.Version.{version_fits}
use Rattle.datagram.specs.Kind.{only, send, receive, write, acknowledge, time_out, open_init, open_try, open_acknowledge}
use Rattle.datagram.specs.Kind.{open_confirm, close_init, close_confirm, time_out_on_close}
use Rattle.datagram.specs.Datagram.{Datagram}
use Rattle.rules.specs.Verdict.{first_end_difference, block_difference, has_version}
use Rattle.rules.specs.Ordering.{receives_in_order, refuses_late, is_receipt_there, acknowledges_in_order}
use Rattle.rules.specs.Ordering.{times_out_in_order, is_send_at_top, is_receive_at_top, is_acknowledge_at_top}
use Rattle.rules.specs.Ordering.{is_timeout_at_top, needs_record}
use Rattle.rules.specs.Handshake.{is_full, needed_init, needed_try_open, needed_peer}
use Rattle.rules.specs.Refusals.{first_given, table, is_in_state, fits_destination, fits_source, is_late_at_sender, comes_late}
use Rattle.rules.specs.Refusals.{is_proved_late, is_committed, commitment_difference, acknowledgement_difference}
use Rattle.rules.specs.Refusals.{absence_difference, claims_taken, is_acknowledgement_there}
use Rattle.verdicts.specs.Lines.{behind, number_behind}

pub send_lines : (s : Store) (d : Datagram) (c : Channel) →
    number_behind 7 (some send) s d c ≡
    pick (same_timeout d.timeout no_timeout) 10 (pick (is_late_at_sender d.context d.timeout) 11
    (pick (is_send_at_top c) 19 (pick (not (has_free s.records)) 20 0)))
unfolding number_behind behind table first_given only ◌or◌
send_lines s d c = grind arith

-- of a receive, to its verdict, and behind it
pub receive_lines : (s : Store) (d : Datagram) (c : Channel) →
    number_behind 7 (some receive) s d c ≡
    pick (not d.context.connected) 8 (pick (not (fits_destination c d.packet)) 9
    (pick (refuses_late c (comes_late d)) 11
    (pick (eqb (commitment_difference d.packet d.verdict) 0) (number_behind 14 (some receive) s d c)
    (commitment_difference d.packet d.verdict))))
unfolding number_behind behind table first_given only ◌or◌
receive_lines s d c = grind arith

pub delivery_lines : (s : Store) (d : Datagram) (c : Channel) →
    number_behind 14 (some receive) s d c ≡
    pick (not (receives_in_order c d.packet.sequence)) 15 (pick (is_receipt_there s.records c d.packet.sequence) 16
    (pick (is_receive_at_top c) 19 (pick (needs_record c (comes_late d) and not (has_free s.records)) 20 0)))
unfolding number_behind behind table first_given only ◌or◌
delivery_lines s d c = grind arith

pub write_lines : (s : Store) (d : Datagram) (c : Channel) →
    number_behind 7 (some write) s d c ≡
    pick (is_acknowledgement_there s.records c d.sequence) 16 (pick (not (is_received s.records c d.sequence)) 17
    (pick (are_zero d.digest) 18 (pick (not (has_free s.records)) 20 0)))
unfolding number_behind behind table first_given only ◌or◌
write_lines s d c = grind arith

-- of an acknowledge, to its verdict, and behind it
pub acknowledge_lines : (s : Store) (d : Datagram) (c : Channel) →
    number_behind 7 (some acknowledge) s d c ≡
    pick (not d.context.connected) 8 (pick (not (fits_source c d.packet)) 9
    (pick (not (is_committed s.records d.packet)) 13
    (pick (eqb (acknowledgement_difference d.packet d.digest d.verdict) 0)
    (number_behind 14 (some acknowledge) s d c) (acknowledgement_difference d.packet d.digest d.verdict))))
unfolding number_behind behind table first_given only ◌or◌
acknowledge_lines s d c = grind arith

pub acknowledgement_lines : (s : Store) (d : Datagram) (c : Channel) →
    number_behind 14 (some acknowledge) s d c ≡
    pick (not (acknowledges_in_order c d.packet.sequence)) 15 (pick (is_acknowledge_at_top c) 19 0)
unfolding number_behind behind table first_given only ◌or◌
acknowledgement_lines s d c = grind arith

-- of a time-out, to its verdict, and behind it
pub time_out_lines : (s : Store) (d : Datagram) (c : Channel) →
    number_behind 7 (some time_out) s d c ≡
    pick (not (fits_source c d.packet)) 9 (pick (not (is_proved_late d.packet.timeout d.verdict)) 12
    (pick (not (is_committed s.records d.packet)) 13
    (pick (eqb (absence_difference false c d.packet d.verdict) 0) (number_behind 14 (some time_out) s d c)
    (absence_difference false c d.packet d.verdict))))
unfolding number_behind behind table first_given only ◌or◌
time_out_lines s d c = grind arith

pub timed_out_lines : (s : Store) (d : Datagram) (c : Channel) →
    number_behind 14 (some time_out) s d c ≡
    pick (claims_taken d.verdict d.packet.sequence) 15 (pick (not (times_out_in_order c d.packet.sequence)) 15
    (pick (is_timeout_at_top c) 19 0))
unfolding number_behind behind table first_given only ◌or◌
timed_out_lines s d c = grind arith

pub open_init_lines : (s : Store) (d : Datagram) (c : Channel) →
    number_behind 7 (some open_init) s d c ≡ pick (is_full s) 25 (pick (not (version_fits d.version)) 27 0)
unfolding number_behind behind table first_given only ◌or◌
open_init_lines s d c = grind arith

pub open_try_lines : (s : Store) (d : Datagram) (c : Channel) →
    number_behind 7 (some open_try) s d c ≡
    pick (not d.context.connected) 8
    (pick (eqb (first_end_difference d.end_verdict (needed_init d)) 0)
    (pick (is_full s) 25 (pick (not (version_fits d.version)) 27
    (pick (not (has_version d.end_verdict (needed_init d))) 27 0)))
    (first_end_difference d.end_verdict (needed_init d)))
unfolding number_behind behind table first_given only ◌or◌
open_try_lines s d c = grind arith

pub close_init_lines : (s : Store) (d : Datagram) (c : Channel) →
    number_behind 7 (some close_init) s d c ≡
    pick (not d.context.connected) 8 (pick (not (is_in_state state_open c)) 26 0)
unfolding number_behind behind table first_given only ◌or◌
close_init_lines s d c = grind arith

-- of a time-out on close, to its verdicts, and from them on. Those of a time-out stand before its last
pub on_close_lines : (s : Store) (d : Datagram) (c : Channel) →
    number_behind 7 (some time_out_on_close) s d c ≡
    pick (not (fits_source c d.packet)) 9 (pick (not (is_committed s.records d.packet)) 13
    (number_behind 13 (some time_out_on_close) s d c))
unfolding number_behind behind table first_given only ◌or◌
on_close_lines s d c = grind arith

abbrev end_number : Datagram → Channel → ℕ
end_number d c = first_end_difference d.end_verdict (needed_peer state_closed c)

abbrev absence_number : Datagram → Channel → ℕ
absence_number d c = absence_difference true c d.packet d.verdict

abbrev block_number : Datagram → ℕ
block_number d = block_difference d.end_verdict.block d.verdict.block

pub closed_lines : (s : Store) (d : Datagram) (c : Channel) →
    number_behind 13 (some time_out_on_close) s d c ≡
    pick (eqb (end_number d c) 0)
    (pick (eqb (absence_number d c) 0)
    (pick (eqb (block_number d) 0)
    (pick (eqb (number_behind 14 (some time_out) s d c) 0)
    (pick (not (has_version d.end_verdict (needed_peer state_closed c))) 27 0)
    (number_behind 14 (some time_out) s d c)) (block_number d)) (absence_number d c)) (end_number d c)
unfolding number_behind behind table first_given only ◌or◌
closed_lines s d c = grind arith
