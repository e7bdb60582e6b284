-- The store in which records move by a slot. Assumes nothing.
use mathlib.Core.Path.{◌≡◌, sym, ap, ◌∙◌}
use mathlib.Core.List.{List, [], ◌∷◌, ◌++◌, append_assoc}
use mathlib.Core.Option.{Option, none, some}
use Prim.Native.Nat.{ℕ, suc, ◌+◌, ◌*◌, ◌≤◌, ◌<◌}
use native.Mathlib.Omega.{arith}
use lib.ListN.{length, take, drop, replicate, length-drop, length-append}
use lib.Seq.{length-take-le, sets-eq}
use Rattle.wire.specs.Bytes.{Bytes, part, patch}
use Rattle.wire.proofs.PatchLaws.{patch-then, patch-apart}
use Rattle.slots.specs.declared.Record.{Record}
use Rattle.slots.specs.Layout.{slot_size, records_from, record_bytes, slot_bytes, table_bytes, bytes_of, store_in}
use Rattle.slots.specs.Effect.{Exact, with_records, inserted_at, removed_at}
use Rattle.slots.proofs.LayoutLaws.{length-table}
use Rattle.slots.proofs.PlaceLaws.{each-end}
use Rattle.slots.proofs.TableBytesLaws.{each_take, each-drop, SlotsSized, table-append}
use Rattle.slots.proofs.EffectLaws.{exact-records, exact-part, exact-sized}

-- a store of n bytes right before another
patch-before : (i n : ℕ) (xs ys bs : List ℕ) → length xs ≡ n →
    patch i xs (patch (i + n) ys bs) ≡ patch i (xs ++ ys) bs
patch-before i n xs ys bs l = patch-apart i (i + n) xs ys bs (omega arith) ∙ patch-then i n xs ys bs l

-- THE STORE in which a record is put in, or one is taken out
module _ (bs : List ℕ) (exact : Exact bs) (bytes : Bytes bs) (i m : ℕ) where
  abbrev records : List (Option Record)
  records = (store_in bs).records

  abbrev at : ℕ
  at = records_from + slot_size * i

  abbrev Sized : Record → Type 0
  Sized r = length (record_bytes r) ≡ slot_size

  stored : (rs : List (Option Record)) → SlotsSized record_bytes rs → i + length rs ≤ length records →
      patch at (table_bytes record_bytes rs) bs ≡
      bytes_of (with_records (store_in bs) (take i records ++ rs ++ drop (i + length rs) records))
  stored rs l h =
      exact-records bs exact bytes i rs l h ∙
      ap (λ (q : List (Option Record)). bytes_of (with_records (store_in bs) q)) (sets-eq rs records i h)

  pub exact-inserted : (r : Record) → Sized r → i + m < length records →
      patch at (record_bytes r) (patch (at + slot_size) (part at (slot_size * m) bs) bs) ≡
      bytes_of (with_records (store_in bs) (inserted_at i m r records))
  unfolding table_bytes slot_bytes
  exact-inserted r l h =
      let moved : List (Option Record) = take m (drop i records) in
      let new : List (Option Record) = some r ∷ moved in
      let n : length moved ≡ m = length-take-le m (drop i records) (omega (arith, length-drop i records)) in
      let sized : SlotsSized record_bytes moved =
      each_take Sized m (drop i records) (each-drop Sized i records (exact-sized bs exact bytes)) in
      let behind : i + length new ≡ suc (i + m) = omega arith in
      ap (λ (q : List ℕ). patch at (record_bytes r) (patch (at + slot_size) q bs)) (exact-part bs exact bytes i m) ∙
      patch-before at slot_size (record_bytes r) (table_bytes record_bytes moved) bs l ∙
      stored new (l, sized) (omega arith) ∙
      ap (λ (k : ℕ). bytes_of (with_records (store_in bs) (take i records ++ new ++ drop k records))) behind ∙
      ap (λ (q : List (Option Record)). bytes_of (with_records (store_in bs) q)) (simp append_assoc)

  pub exact-removed : i + m < length records →
      patch (at + slot_size * m) (replicate slot_size 0) (patch at (part (at + slot_size) (slot_size * m) bs) bs) ≡
      bytes_of (with_records (store_in bs) (removed_at i m records))
  unfolding table_bytes slot_bytes
  exact-removed h =
      let moved : List (Option Record) = take m (drop (suc i) records) in
      let new : List (Option Record) = moved ++ (none ∷ []) in
      let n : length moved ≡ m = length-take-le m (drop (suc i) records) (omega (arith, length-drop (suc i) records)) in
      let sized : SlotsSized record_bytes moved =
      each_take Sized m (drop (suc i) records) (each-drop Sized (suc i) records (exact-sized bs exact bytes)) in
      let behind : i + length new ≡ suc (i + m) = omega (arith, length-append moved (none ∷ [])) in
      let place : at + slot_size ≡ records_from + slot_size * suc i = omega arith in
      let read : part (at + slot_size) (slot_size * m) bs ≡ table_bytes record_bytes moved =
      ap (λ (k : ℕ). part k (slot_size * m) bs) place ∙ exact-part bs exact bytes (suc i) m in
      let l : length (table_bytes record_bytes moved) ≡ slot_size * m =
      length-table record_bytes moved sized ∙ omega arith in
      ap (λ (q : List ℕ). patch (at + slot_size * m) (replicate slot_size 0) (patch at q bs)) read ∙
      patch-then at (slot_size * m) (table_bytes record_bytes moved) (replicate slot_size 0) bs l ∙
      ap (λ (q : List ℕ). patch at q bs) (sym (table-append record_bytes moved (none ∷ []))) ∙
      stored new (each-end Sized moved sized) (omega arith) ∙
      ap (λ (k : ℕ). bytes_of (with_records (store_in bs) (take i records ++ new ++ drop k records))) behind ∙
      ap (λ (q : List (Option Record)). bytes_of (with_records (store_in bs) q)) (simp append_assoc)
