-- What a slot holds, tested on its bytes. Assumes nothing.
use mathlib.Core.Path.{◌≡◌, refl, ◌∙◌}
use mathlib.Core.Bool.{Bool, not}
use mathlib.Core.List.{List, [], ◌∷◌}
use mathlib.Core.Option.{Option, none, some}
use Prim.Native.Nat.{ℕ, suc, ◌+◌, ◌<◌}
use native.Mathlib.Omega.{arith}
use lib.Dec.{eqb}
use lib.ListN.{length, drop}
use Rattle.wire.specs.Choice.{◌and◌, is_some}
use Rattle.wire.specs.Bytes.{are_zero, part, field}
use Rattle.wire.proofs.ChoiceLaws.{cases, and-true, and-false}
use Rattle.wire.proofs.PartLaws.{field-part}
use Rattle.slots.specs.declared.Channel.{Channel}
use Rattle.slots.specs.declared.Record.{Record}
use Rattle.std.specs.Prelude.{Some, is_some as is_found}
use Rattle.slots.specs.Table.{find, is_numbered}
use Rattle.slots.specs.Limits.{channel_limit}
use Rattle.slots.specs.Layout.{header_size, slot_size, records_from, size_for, room_in}
use Rattle.slots.specs.Layout.{channel_in, record_in, slot_in, store_in}
use Rattle.slots.specs.Scan.{index_where, is_free, holds}
use Rattle.slots.proofs.FitLaws.{length-read}
use Rattle.slots.proofs.ScanLaws.{found_below}

module _ {A : Type 0} (g : List ℕ → A) (p : List ℕ) where
  -- it is free where its bytes are zero
  pub free-slot : is_free (slot_in g p) ≡ are_zero p
  unfolding slot_in
  free-slot = cases (are_zero p) (λ e. rw (slot_in, e)) (λ e. rw (slot_in, e))

  -- what it reads as passes, and it is not free
  pub held : (t : A → Bool) → holds t (slot_in g p) ≡ (t (g p) and not (are_zero p))
  unfolding slot_in
  held t = cases (are_zero p) (λ e. rw (slot_in, e, and-false)) (λ e. rw (slot_in, e, and-true))

module _ (at : ℕ) (bs : List ℕ) where
  pub number-held : (n : ℕ) → holds (is_numbered n) (slot_in channel_in (part at slot_size bs)) ≡
      (eqb (field (at + 4) 4 bs) n and not (are_zero (part at slot_size bs)))
  unfolding is_numbered channel_in
  number-held n = held channel_in (part at slot_size bs) (is_numbered n) ∙ rw (field-part 4 4 at slot_size bs (omega arith))

-- WHAT A SCAN FOUND
module _ {A : Type 0} where
  -- an entry passes where a scan from any index finds one
  pub find_at : (t : A → Bool) (n : ℕ) (xs : List (Option A)) → is_some (find t xs) ≡ is_found (index_where (holds t) n xs)
  unfolding find index_where
  find_at t n [] = refl
  find_at t n (none ∷ xs) = find_at t (suc n) xs
  find_at t n (some x ∷ xs) =
      cases (t x) (λ e. rw (find, e)) (λ e. rw (find, e) (find_at t (suc n) xs))

-- AN INDEX that a scan of a store's table found is one of the table's
module _ (i : ℕ) (bs : List ℕ) where
  pub channel-index : (t : Option Channel → Bool) → index_where t 0 (store_in bs).channels ≡ Some i → i < channel_limit
  unfolding store_in
  channel-index t h =
      let l = length-read channel_in channel_limit (drop header_size bs) in
      omega (arith, found_below t i (store_in bs).channels h)

  pub record-index : (t : Option Record → Bool) (n : ℕ) → length bs ≡ size_for n →
      index_where t 0 (store_in bs).records ≡ Some i → i < n
  unfolding store_in room_in
  record-index t n size h =
      let l = length-read record_in (room_in (length bs)) (drop records_from bs) in
      omega (arith, found_below t i (store_in bs).records h)
