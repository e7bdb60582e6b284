-- The slot that the edit is on is written or becomes free; where it is on none, all stay. Assumes nothing.
use Rattle.std.proofs.Common.{arith, ◌≡◌, sym, ap, ◌∙◌, ℕ, suc, ◌+◌, ◌-◌, List, length}
use Rattle.std.proofs.Math.Option.{Option}
use Rattle.std.specs.Prelude.{Option as Found, Some}
use Rattle.slots.specs.declared.Record.{Record}
use Rattle.slots.specs.Layout.{bytes_of, store_in}
use Rattle.slots.specs.Scan.{used_slots}
use Rattle.slots.specs.Effect.{with_records}
use Rattle.slots.proofs.EffectLaws.{exact-room}
use Rattle.records.specs.declared.RecordEdit.{RecordEdit}
use Rattle.records.specs.Edited.{edit_by, slot_of, spare_slot, with_edit}
use Rattle.records.proofs.EditLaws.{slot-below, spare-counted, used-above, written, freed, unedited}
use Rattle.records.proofs.edit_records.Goals as goal

-- the slot of the edit that is carried out
found : (rs : List (Option Record)) {at : Found ℕ} {e x : RecordEdit} {i : ℕ} → at ≡ slot_of (edit_by e) rs → at ≡ Some i →
    e ≡ x → slot_of (edit_by x) rs ≡ Some i
found rs p q r = sym (ap (λ (y : RecordEdit). slot_of (edit_by y) rs) r) ∙ sym p ∙ q

pub returns-in_default : goal.returns-in_default
returns-in_default c =
    let s = store_in c.args.store.now in
    let none = unedited (edit_by c.args.e) s.records (sym c.requires.3 ∙ c.in_default.is) in
    sym (ap (λ (rs : List (Option Record)). bytes_of (with_records s rs)) none ∙ c.requires.0.laid)

pub overflow_sub-store : goal.overflow_sub-store
overflow_sub-store c = omega (arith, exact-room c.args.store.now c.requires.0)

pub spare_slot-spare-requires : goal.spare_slot-spare-requires
spare_slot-spare-requires c =
    let rs = (store_in c.args.store.now).records in
    let below = slot-below (edit_by c.args.e) rs c.in-Some.i (sym c.requires.3 ∙ c.in-Some.is) in
    omega (arith, below, exact-room c.args.store.now c.requires.0)

pub overflow_sub-spare : goal.overflow_sub-spare
overflow_sub-spare c =
    let bs = c.args.store.now in
    let at = found (store_in bs).records c.requires.3 c.in-Some.is c.in-Writes.is in
    let k = spare-counted bs c.in-Writes.record c.in-Some.i c.spare_slot-spare.result c.args.used c.requires.0 at
    c.requires.2 c.spare_slot-spare.ensures in
    k.1.0

pub insert_record-requires : goal.insert_record-requires
insert_record-requires c =
    let bs = c.args.store.now in
    let at = found (store_in bs).records c.requires.3 c.in-Some.is c.in-Writes.is in
    let k = spare-counted bs c.in-Writes.record c.in-Some.i c.spare_slot-spare.result c.args.used c.requires.0 at
    c.requires.2 c.spare_slot-spare.ensures in
    (c.requires.0, omega (arith, k.1.0, k.1.1))

pub overflow_sub-used : goal.overflow_sub-used
overflow_sub-used c =
    let rs = (store_in c.args.store.now).records in
    let at = found rs c.requires.3 c.in-Some.is c.in-Frees.is in
    let k = used-above rs c.in-Frees.field-0 c.in-Some.i c.args.used c.requires.1 at c.requires.2 in
    omega (arith, k.0)

pub overflow_sub-used-in-Frees : goal.overflow_sub-used-in-Frees
overflow_sub-used-in-Frees c =
    let rs = (store_in c.args.store.now).records in
    let at = found rs c.requires.3 c.in-Some.is c.in-Frees.is in
    let k = used-above rs c.in-Frees.field-0 c.in-Some.i c.args.used c.requires.1 at c.requires.2 in
    omega (arith, k.0)

pub remove_record-requires : goal.remove_record-requires
remove_record-requires c =
    let rs = (store_in c.args.store.now).records in
    let at = found rs c.requires.3 c.in-Some.is c.in-Frees.is in
    let k = used-above rs c.in-Frees.field-0 c.in-Some.i c.args.used c.requires.1 at c.requires.2 in
    (c.requires.0, omega (arith, k.0, k.1))

pub returns-in-Writes : goal.returns-in-Writes
returns-in-Writes c =
    let bs = c.args.store.now in
    let s = store_in bs in
    let n = c.spare_slot-spare.result in
    let i = c.in-Some.i in
    let at = found s.records c.requires.3 c.in-Some.is c.in-Writes.is in
    let k = spare-counted bs c.in-Writes.record i n c.args.used c.requires.0 at c.requires.2 c.spare_slot-spare.ensures in
    let ends : i + (n - i) ≡ spare_slot (length s.records) (used_slots s.records) = omega (arith, k.0, k.1.0) in
    c.insert_record.ensures ∙ written s i (n - i) c.in-Writes.record c.requires.1 at ends ∙
    ap (λ (e : RecordEdit). bytes_of (with_edit s (edit_by e))) (sym c.in-Writes.is)

pub returns-in-Frees : goal.returns-in-Frees
returns-in-Frees c =
    let s = store_in c.args.store.now in
    let i = c.in-Some.i in
    let at = found s.records c.requires.3 c.in-Some.is c.in-Frees.is in
    let k = used-above s.records c.in-Frees.field-0 i c.args.used c.requires.1 at c.requires.2 in
    let last : suc (i + (c.args.used - 1 - i)) ≡ used_slots s.records = omega (arith, k.0, c.requires.2) in
    c.remove_record.ensures ∙
    freed s i (c.args.used - 1 - i) c.in-Frees.field-0 c.requires.1 at last ∙
    ap (λ (e : RecordEdit). bytes_of (with_edit s (edit_by e))) (sym c.in-Frees.is)
