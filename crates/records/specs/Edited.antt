-- The edit that a value tells, the slot that an edit is on, and the store that it leaves.
use Rattle.std.specs.Prelude.{List, ℕ, ◌-◌, ltb, length}
use Rattle.std.proofs.Math.Option.{Option}
use Rattle.wire.specs.Choice.{pick}
use Rattle.slots.specs.declared.Key.{Key}
use Rattle.slots.specs.declared.Record.{Record}
use Rattle.std.specs.Prelude.{Option as Found, Some, None}
use Rattle.slots.specs.Table.{has_key, key_of}
use Rattle.slots.specs.Layout.{Store}
use Rattle.slots.specs.Scan.{first_that, place_of}
use Rattle.slots.specs.Effect.{with_records}
use Rattle.rules.specs.Ordering.{Edit, keeps, writes, frees}
use Rattle.rules.specs.Acceptance.{edited}
use Rattle.records.specs.declared.RecordEdit.{RecordEdit}
use Rattle.records.specs.declared.RecordEdit.TheVariants.{Keeps, Writes, Frees}

-- a record that is written, or one of a key that becomes free
abbrev pub edit_by : RecordEdit → Edit
edit_by Keeps = keeps
edit_by (Writes r) = writes r
edit_by (Frees k) = frees k

-- the place of a key in a table, if that is one of its slots
unfoldable pub slot_for : Key → List (Option Record) → Found ℕ
slot_for k rs = pick (ltb (place_of k rs) (length rs)) (Some (place_of k rs)) None

abbrev pub slot_of : Edit → List (Option Record) → Found ℕ
slot_of keeps rs = None
slot_of (writes r) rs = slot_for (key_of r) rs
slot_of (frees k) rs = first_that (has_key k) rs

-- where the slots end that move up in a table of so many, with so many in use: at the first free one, or the last one
abbrev pub spare_slot : (count used : ℕ) → ℕ
spare_slot n used = pick (ltb used n) used (n - 1)

-- a store whose packet records alone are others: those that an edit leaves
abbrev pub with_edit : Store → Edit → Store
with_edit s e = with_records s (edited e s.records)
