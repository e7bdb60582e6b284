-- Slots of a table, whatever the entries are: put together, stored over others, and read, in bytes. Assumes nothing.
use mathlib.Core.Path.{◌≡◌, refl, sym, ◌∙◌}
use mathlib.Core.List.{List, [], ◌∷◌, ◌++◌, append_assoc}
use mathlib.Core.Option.{Option, none, some}
use Prim.Native.Nat.{ℕ, zero, suc, ◌+◌, ◌*◌, ◌≤◌, ◌<◌}
use native.Mathlib.Nat.{le_of_suc-le-suc, not-suc-le-zero}
use native.Mathlib.Omega.{arith}
use lib.ListN.{length, set, take, drop, length-set}
use lib.Seq.{sets, take-nil, drop-nil, take-append-add, drop-append-add}
use Rattle.wire.specs.Bytes.{patch}
use Rattle.wire.proofs.PatchLaws.{patch-append, patch-behind, patch-front}
use Rattle.slots.specs.Layout.{slot_size, slot_bytes, table_bytes}
use Rattle.slots.proofs.TableLaws.{Each}

-- EACH ENTRY of slots that are stored or read
module _ {A : Type 0} (P : A → Type 0) where
  pub each_set : (y : Option A) (i : ℕ) (xs : List (Option A)) → Each P (y ∷ []) → Each P xs → Each P (set xs i y)
  each_set y i [] p h = tt
  each_set none zero (none ∷ xs) p h = h
  each_set none zero (some x ∷ xs) p h = h.1
  each_set (some y) zero (none ∷ xs) p h = (p.0, h)
  each_set (some y) zero (some x ∷ xs) p h = (p.0, h.1)
  each_set y (suc i) (none ∷ xs) p h = each_set y i xs p h
  each_set y (suc i) (some x ∷ xs) p h = (h.0, each_set y i xs p h.1)

  pub each_take : (n : ℕ) (xs : List (Option A)) → Each P xs → Each P (take n xs)
  each_take zero xs h = tt
  each_take (suc n) [] h = tt
  each_take (suc n) (none ∷ xs) h = each_take n xs h
  each_take (suc n) (some x ∷ xs) h = (h.0, each_take n xs h.1)

  pub each-drop : (n : ℕ) (xs : List (Option A)) → Each P xs → Each P (drop n xs)
  each-drop zero xs h = h
  each-drop (suc n) [] h = tt
  each-drop (suc n) (none ∷ xs) h = each-drop n xs h
  each-drop (suc n) (some x ∷ xs) h = each-drop n xs h.1

-- THE BYTES OF SLOTS
module _ {A : Type 0} (f : A → List ℕ) where
  abbrev pub SlotsSized : List (Option A) → Type 0
  SlotsSized xs = Each (λ x. length (f x) ≡ slot_size) xs

  length-slot : (x : Option A) (xs : List (Option A)) → SlotsSized (x ∷ xs) → length (slot_bytes f x) ≡ slot_size
  unfolding slot_bytes
  length-slot none xs h = refl
  length-slot (some x) xs h = h.0

  sized-first : (x : Option A) (xs : List (Option A)) → SlotsSized (x ∷ xs) → SlotsSized (x ∷ [])
  sized-first none xs h = tt
  sized-first (some x) xs h = (h.0, tt)

  sized-rest : (x : Option A) (xs : List (Option A)) → SlotsSized (x ∷ xs) → SlotsSized xs
  sized-rest none xs h = h
  sized-rest (some x) xs h = h.1

  pub table-append : (xs ys : List (Option A)) → table_bytes f (xs ++ ys) ≡ table_bytes f xs ++ table_bytes f ys
  unfolding table_bytes
  table-append [] ys = refl
  table-append (x ∷ xs) ys =
      rw (table-append xs ys, append_assoc (slot_bytes f x) (table_bytes f xs) (table_bytes f ys))

  -- stored over one slot of a table, with any bytes behind the table
  pub patch-slot : (y : Option A) (i : ℕ) (xs : List (Option A)) (rest : List ℕ) → SlotsSized (y ∷ []) →
      SlotsSized xs → i < length xs →
      patch (slot_size * i) (slot_bytes f y) (table_bytes f xs ++ rest) ≡ table_bytes f (set xs i y) ++ rest
  unfolding table_bytes
  patch-slot y i [] rest l h b = absurd (not-suc-le-zero b)
  patch-slot y zero (x ∷ xs) rest l h b =
      let k = length-slot y [] l ∙ sym (length-slot x xs h) in
      rw (
        append_assoc (slot_bytes f x) (table_bytes f xs) rest,
        patch-front (slot_bytes f y) (slot_bytes f x) (table_bytes f xs ++ rest) k,
      )
      (sym (append_assoc (slot_bytes f y) (table_bytes f xs) rest))
  patch-slot y (suc i) (x ∷ xs) rest l h b =
      let k = length-slot x xs h in
      let z : slot_size * suc i ≡ length (slot_bytes f x) + slot_size * i = omega arith in
      let ih = patch-slot y i xs rest l (sized-rest x xs h) (le_of_suc-le-suc b) in
      rw (
        append_assoc (slot_bytes f x) (table_bytes f xs) rest,
        z,
        patch-behind (slot_bytes f x) (slot_size * i) (slot_bytes f y) (table_bytes f xs ++ rest),
        ih,
      )
      (sym (append_assoc (slot_bytes f x) (table_bytes f (set xs i y)) rest))

  -- and over some, one behind the other
  pub patch-slots : (ys : List (Option A)) (i : ℕ) (xs : List (Option A)) (rest : List ℕ) → SlotsSized ys →
      SlotsSized xs → i + length ys ≤ length xs →
      patch (slot_size * i) (table_bytes f ys) (table_bytes f xs ++ rest) ≡ table_bytes f (sets xs i ys) ++ rest
  unfolding table_bytes patch
  patch-slots [] i xs rest l h b = refl
  patch-slots (y ∷ ys) i xs rest l h b =
      let z : slot_size * i + length (slot_bytes f y) ≡ slot_size * suc i = omega (arith, length-slot y ys l) in
      let first = patch-slot y i xs rest (sized-first y ys l) h (omega arith) in
      let more = patch-slots ys (suc i) (set xs i y) rest (sized-rest y ys l)
      (each_set (λ x. length (f x) ≡ slot_size) y i xs (sized-first y ys l) h) (omega (arith, length-set xs i y)) in
      rw (patch-append (slot_size * i) (slot_bytes f y) (table_bytes f ys) (table_bytes f xs ++ rest), z, first) more

  -- slots read from a table
  pub drop-slots : (i : ℕ) (xs : List (Option A)) → SlotsSized xs →
      drop (slot_size * i) (table_bytes f xs) ≡ table_bytes f (drop i xs)
  unfolding table_bytes
  drop-slots zero xs h = refl
  drop-slots (suc i) [] h = drop-nil (slot_size * suc i)
  drop-slots (suc i) (x ∷ xs) h =
      let z : slot_size * suc i ≡ length (slot_bytes f x) + slot_size * i = omega (arith, length-slot x xs h) in
      rw (z, drop-append-add (slot_bytes f x) (table_bytes f xs) (slot_size * i)) (drop-slots i xs (sized-rest x xs h))

  pub take-slots : (n : ℕ) (xs : List (Option A)) → SlotsSized xs →
      take (slot_size * n) (table_bytes f xs) ≡ table_bytes f (take n xs)
  unfolding table_bytes
  take-slots zero xs h = refl
  take-slots (suc n) [] h = take-nil (slot_size * suc n)
  take-slots (suc n) (x ∷ xs) h =
      let z : slot_size * suc n ≡ length (slot_bytes f x) + slot_size * n = omega (arith, length-slot x xs h) in
      rw (z, take-append-add (slot_bytes f x) (table_bytes f xs) (slot_size * n), take-slots n xs (sized-rest x xs h))
