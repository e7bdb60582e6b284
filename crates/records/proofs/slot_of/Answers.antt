-- The records of a fit store are in order. Assumes nothing.
use Rattle.std.proofs.Common.{arith}
use Rattle.slots.specs.Layout.{room_in}
use Rattle.slots.proofs.Laws.{fit-in-order}
use Rattle.records.proofs.slot_of.Goals as goal

pub overflow_sub-count : goal.overflow_sub-count
overflow_sub-count c = omega (arith, (fit-in-order c.args.store.now c.requires).size)

pub slot_for-requires : goal.slot_for-requires
unfolding room_in
slot_for-requires c = fit-in-order c.args.store.now c.requires

pub find_record-requires : goal.find_record-requires
unfolding room_in
find_record-requires c = fit-in-order c.args.store.now c.requires
