-- The place in order, if it is a slot of the table. Assumes nothing.
use Rattle.std.proofs.Common.{arith, ◌≡◌, sym, ℕ, List, Bool, ltb}
use borrow.Author.Tests.{lt-ltb, le-ltb}
use Rattle.std.specs.Prelude.{Some, None}
use Rattle.wire.specs.Choice.{pick}
use Rattle.slots.specs.declared.Key.{Key}
use Rattle.slots.specs.Layout.{records_from, record_in, store_in}
use Rattle.slots.specs.Scan.{table_from, place_of, RecordsInOrder}
use Rattle.slots.proofs.ScanLaws.{length-slots}
use Rattle.slots.proofs.TurnLaws.{records-from, order-from}
use Rattle.records.specs.Edited.{slot_for}
use Rattle.records.proofs.slot_for.Goals as goal

-- the answer by whether the place is below the number of slots
answer : (n : ℕ) (bs : List ℕ) → RecordsInOrder bs n → (k : Key) {i : ℕ} →
    i ≡ place_of k (table_from record_in records_from n bs 0) → {b : Bool} → ltb i n ≡ b →
    slot_for k (store_in bs).records ≡ pick b (Some i) None
unfolding slot_for
answer n bs h k e p = rw (records-from n bs h.size, length-slots record_in records_from n bs, ← e, p)

pub place_of-i-requires : goal.place_of-i-requires
place_of-i-requires c =
    (omega (arith, c.requires.size), order-from c.args.count c.args.store.now c.requires)

pub returns-then-i-count : goal.returns-then-i-count
returns-then-i-count c =
    sym (answer c.args.count c.args.store.now c.requires c.args.k c.place_of-i.ensures
    (lt-ltb c.place_of-i.result c.args.count (omega arith)))

pub returns-else-i-count : goal.returns-else-i-count
returns-else-i-count c =
    sym (answer c.args.count c.args.store.now c.requires c.args.k c.place_of-i.ensures
    (le-ltb c.place_of-i.result c.args.count (omega arith)))
