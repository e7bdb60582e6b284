-- The slot that a search found is the one that an edit is on; where none is found, none changes. Assumes nothing.
use Rattle.wire.proofs.Prelude.{◌≡◌, refl, sym, ap, subst, ◌∙◌, List, Option, ℕ, suc, ◌+◌, ◌-◌, ◌/◌, ◌≤◌, ◌<◌, arith}
use Rattle.std.proofs.Common.{ap₂}
use Rattle.wire.proofs.Prelude.{ltb, length, ltb-true, ltb-false}
use Rattle.wire.proofs.Laws.{cases}
use Rattle.slots.specs.declared.Key.{Key}
use Rattle.slots.specs.declared.Record.{Record}
use Rattle.std.specs.Prelude.{Some, None}
use Rattle.slots.specs.Table.{has_key, key_of}
use Rattle.slots.specs.Layout.{Store, slot_size, records_from, bytes_of, store_in}
use Rattle.slots.specs.Effect.{Exact, with_records, inserted_at, removed_at}
use Rattle.slots.specs.Scan.{holds, first_that, place_of, used_slots}
use Rattle.slots.proofs.Laws.{Ordered}
use Rattle.slots.proofs.ScanLaws.{found_below, take-out-found, take-out-nothing}
use Rattle.slots.proofs.EffectLaws.{exact-room}
use Rattle.slots.proofs.SearchLaws.{Spare, insert-place, insert-full, place-used, free-behind, used-length, found-used}
use Rattle.rules.specs.Ordering.{Edit, keeps, writes, frees}
use Rattle.rules.specs.Acceptance.{edited}
use Rattle.records.specs.Edited.{slot_for, slot_of, spare_slot, with_edit}

-- THE SLOT FOR A RECORD, where there is one
slot-for : (k : Key) (rs : List (Option Record)) (i : ℕ) → slot_for k rs ≡ Some i → (place_of k rs ≡ i) × (i < length rs)
unfolding slot_for
slot-for k rs i h =
    cases (ltb (place_of k rs) (length rs))
    (λ e. let z : place_of k rs ≡ i = cc in (z, omega (arith, ltb-true (place_of k rs) (length rs) e)))
    (λ e. let z : ◌≡◌ {A = ℕ} 0 1 = cc in absurd (omega arith))

no_slot : (k : Key) (rs : List (Option Record)) → slot_for k rs ≡ None → length rs ≤ place_of k rs
unfolding slot_for
no_slot k rs h =
    cases (ltb (place_of k rs) (length rs)) (λ e. let z : ◌≡◌ {A = ℕ} 0 1 = cc in absurd (omega arith))
    (λ e. ltb-false (place_of k rs) (length rs) e)

-- the slot is one of the table's
pub slot-below : (e : Edit) (rs : List (Option Record)) (i : ℕ) → slot_of e rs ≡ Some i → i < length rs
slot-below keeps rs i h = let z : ◌≡◌ {A = ℕ} 0 1 = cc in absurd (omega arith)
slot-below (writes r) rs i h = (slot-for (key_of r) rs i h).1
slot-below (frees k) rs i h = found_below (holds (has_key k)) i rs h

-- THE SLOTS THAT MOVE: from that of a new record up to one whose content can go
spare : (rs : List (Option Record)) → 1 ≤ length rs → Spare (spare_slot (length rs) (used_slots rs)) rs
spare rs low =
    cases (ltb (used_slots rs) (length rs))
    (λ e. rw e (ltb-true (used_slots rs) (length rs) e, λ h. omega arith))
    (λ e. rw e (omega arith, λ h. absurd (omega arith)))

pub spare-room : (k : Key) (rs : List (Option Record)) (i : ℕ) → slot_for k rs ≡ Some i →
    let n = spare_slot (length rs) (used_slots rs) in (i ≤ n) × (n < length rs)
spare-room k rs i h =
    let at = slot-for k rs i h in
    let low = place-used rs k in (
      cases (ltb (used_slots rs) (length rs)) (λ e. rw e (omega arith)) (λ e. rw e (omega (arith, at.1))),
      (spare rs (omega (arith, at.1))).0,
    )

-- n is where they end, in a store whose room gives the number of its slots
pub spare-counted : (bs : List ℕ) (r : Record) (i n u : ℕ) → Exact bs → slot_for (key_of r) (store_in bs).records ≡ Some i →
    u ≡ used_slots (store_in bs).records → n ≡ spare_slot ((length bs - records_from) / slot_size) u →
    (n ≡ spare_slot (length (store_in bs).records) (used_slots (store_in bs).records)) × ((i ≤ n) ×
    (n < length (store_in bs).records))
spare-counted bs r i n u exact h used e =
    let rs : List (Option Record) = (store_in bs).records in
    let count : (length bs - records_from) / slot_size ≡ length rs = omega (arith, exact-room bs exact) in
    let same : n ≡ spare_slot (length rs) (used_slots rs) = e ∙ ap₂ spare_slot count used in
    (same, rw same (spare-room (key_of r) rs i h))

-- the slot of a record that becomes free is in use
pub used-above : (rs : List (Option Record)) (k : Key) (i u : ℕ) → Ordered rs → first_that (has_key k) rs ≡ Some i →
    u ≡ used_slots rs → (i < u) × (u ≤ length rs)
used-above rs k i u order h used =
    let below = found-used rs order (has_key k) i h in
    (omega (arith, below, used), omega (arith, used-length rs, used))

pub written : (s : Store) (i m : ℕ) (r : Record) → Ordered s.records → slot_for (key_of r) s.records ≡ Some i →
    i + m ≡ spare_slot (length s.records) (used_slots s.records) →
    bytes_of (with_records s (inserted_at i m r s.records)) ≡ bytes_of (with_edit s (writes r))
unfolding edited
written s i m r order h l =
    let at = slot-for (key_of r) s.records i h in
    let ends : Spare (place_of (key_of r) s.records + m) s.records =
    subst (λ (n : ℕ). Spare n s.records) (sym l ∙ ap (λ (k : ℕ). k + m) (sym at.0))
    (spare s.records (omega (arith, at.1))) in
    let e = insert-place r s.records order m ends in
    rw (e, at.0)

-- those behind a record that becomes free, up to the last in use
pub freed : (s : Store) (i m : ℕ) (k : Key) → Ordered s.records → first_that (has_key k) s.records ≡ Some i →
    suc (i + m) ≡ used_slots s.records →
    bytes_of (with_records s (removed_at i m s.records)) ≡ bytes_of (with_edit s (frees k))
unfolding edited
freed s i m k order h l =
    ap (λ (rs : List (Option Record)). bytes_of (with_records s rs)) (sym (take-out-found (has_key k) i m s.records h
    (free-behind s.records order (suc (i + m)) (omega arith))))

pub unedited : (e : Edit) (rs : List (Option Record)) → slot_of e rs ≡ None → edited e rs ≡ rs
unfolding edited
unedited keeps rs h = refl
unedited (writes r) rs h = insert-full r rs (no_slot (key_of r) rs h)
unedited (frees k) rs h = take-out-nothing (has_key k) 0 rs h
