-- What a search of a table answers: the index of the first slot that passes a test, or the place for a key.
use Rattle.std.specs.Prelude.{◌≡◌, Bool, true, false, List, [], ◌∷◌, map, ℕ, suc, ◌+◌, ◌*◌, ◌-◌, ◌≤◌, length, drop}
use Rattle.std.proofs.Math.Option.{Option, none, some}
use Rattle.wire.specs.Choice.{pick}
use Rattle.wire.specs.Bytes.{part, pieces}
use Rattle.slots.specs.declared.Record.{Record}
use Rattle.std.specs.Prelude.{Option as Found, Some, None}
use Rattle.slots.specs.Table.{count, in_order, Key, key_of, is_before, precedes}
use Rattle.slots.specs.Layout.{slot_size, size_for, slot_in, store_in}

-- the first slot has the index `from`
unfoldable pub index_where : {A : Type 0} → (Option A → Bool) → (from : ℕ) → List (Option A) → Found ℕ
index_where t i [] = None
index_where t i (x ∷ xs) = pick (t x) (Some i) (index_where t (suc i) xs)

-- TESTS of a slot: it is free; it holds an entry that passes a test
abbrev pub is_free : {A : Type 0} → Option A → Bool
is_free none = true
is_free (some x) = false

abbrev pub holds : {A : Type 0} → (A → Bool) → Option A → Bool
holds t none = false
holds t (some x) = t x

-- THE TWO SCANS, from the start of a table
abbrev pub first_free : {A : Type 0} → List (Option A) → Found ℕ
first_free xs = index_where is_free 0 xs

abbrev pub first_that : {A : Type 0} → (A → Bool) → List (Option A) → Found ℕ
first_that t xs = index_where (holds t) 0 xs

-- THE SLOTS of a table of n that starts at a place: the i-th, and those from it on, as bytes and as they are read
abbrev pub slot_at : (start : ℕ) → List ℕ → (i : ℕ) → List ℕ
slot_at start bs i = part (start + slot_size * i) slot_size bs

abbrev pub slots_from : (start n : ℕ) → List ℕ → (i : ℕ) → List (List ℕ)
slots_from start n bs i = pieces slot_size (n - i) (drop (start + slot_size * i) bs)

abbrev pub table_from : {A : Type 0} → (List ℕ → A) → (start n : ℕ) → List ℕ → (i : ℕ) → List (Option A)
table_from g start n bs i = map (slot_in g) (slots_from start n bs i)

-- THE PLACE FOR A KEY: how many entries stand before it. In a table in order they are the first so many slots
abbrev pub place_of : Key → List (Option Record) → ℕ
place_of k rs = count (λ r. is_before (key_of r) k) rs

-- HOW MANY SLOTS hold an entry. In a table in order they are the first so many
abbrev pub used_slots : {A : Type 0} → List (Option A) → ℕ
used_slots xs = count (λ x. true) xs

-- bytes of so many packet records, at least one, which are in order
pub record RecordsInOrder (bs : List ℕ) (count : ℕ) : Type 0 where
  pub low : 1 ≤ count
  pub size : length bs ≡ size_for count
  pub order : in_order precedes (store_in bs).records ≡ true
