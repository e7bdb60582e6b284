-- What a scan's answer tells of the table, whatever the entries are: an operation on the first slot that passes a test
-- is one on the slot at the index found. Assumes nothing.
use mathlib.Core.Path.{◌≡◌, refl, sym, ap, ◌∙◌}
use mathlib.Core.Bool.{Bool, true, false}
use mathlib.Core.List.{List, [], ◌∷◌}
use mathlib.Core.Option.{Option, none, some}
use Prim.Native.Nat.{ℕ, zero, suc, ◌+◌, ◌*◌, ◌-◌, ◌≤◌, ◌<◌}
use native.Mathlib.Nat.{zero-add, add-suc, suc-add, le_of_suc-le-suc, not-suc-le-zero}
use native.Mathlib.Omega.{arith}
use lib.ListN.{length, get_or, set, drop}
use lib.Seq.{drop-drop}
use Rattle.wire.specs.Choice.{is_some}
use Rattle.wire.specs.Bytes.{are_zero, part, pieces}
use Rattle.wire.proofs.ChoiceLaws.{cases, clash}
use Rattle.slots.specs.declared.Channel.{Channel}
use Rattle.slots.specs.declared.Record.{Record}
use Rattle.std.specs.Prelude.{Some, None}
use Rattle.slots.specs.Table.{find, replace, place, take_out}
use Rattle.slots.specs.Limits.{channel_limit}
use Rattle.slots.specs.Layout.{header_size, slot_size, records_from, room_in}
use Rattle.slots.specs.Layout.{channel_in, record_in, slot_in, table_in, store_in}
use Rattle.slots.specs.Scan.{index_where, is_free, holds, first_free, first_that, slot_at, table_from}
use Rattle.slots.specs.Effect.{removed_at}
use Rattle.slots.proofs.OrderLaws.{Free, free-end-at}
use Rattle.slots.proofs.FitLaws.{length-read}

-- the slot at an index is the first that passes a test
abbrev pub First : {A : Type 0} → (Option A → Bool) → ℕ → List (Option A) → Type 0
First t i [] = ⊥
First t zero (x ∷ xs) = t x ≡ true
First t (suc i) (x ∷ xs) = (t x ≡ false) × First t i xs

module _ {A : Type 0} where
  -- an index that is found is at or behind the start
  index-from : (t : Option A → Bool) (n i : ℕ) (xs : List (Option A)) → index_where t n xs ≡ Some i → n ≤ i
  unfolding index_where
  index-from t n i [] h = let z : ◌≡◌ {A = ℕ} 0 1 = cc in absurd (omega arith)
  index-from t n i (x ∷ xs) h =
      let ih = index-from t (suc n) i xs in
      cases (t x) (λ e. let z : n ≡ i = cc in omega arith) (λ e. let k = ih (cc) in omega arith)

  first-from : (t : Option A → Bool) (n i : ℕ) (xs : List (Option A)) → index_where t n xs ≡ Some (n + i) → First t i xs
  unfolding index_where
  first-from t n i [] h = let z : ◌≡◌ {A = ℕ} 0 1 = cc in absurd (omega arith)
  first-from t n zero (x ∷ xs) h =
      let low = index-from t (suc n) (n + 0) xs in
      cases (t x) (λ e. e) (λ e. let k = low (cc) in absurd (omega arith))
  first-from t n (suc i) (x ∷ xs) h =
      let ih = first-from t (suc n) i xs in
      cases (t x) (λ e. let z : n ≡ n + suc i = cc in absurd (omega arith))
      (λ e. (e, ih (rw (suc-add n i, ← add-suc n i) (cc))))

  pub first_of : (t : Option A → Bool) (i : ℕ) (xs : List (Option A)) → index_where t 0 xs ≡ Some i → First t i xs
  first_of t i xs h = first-from t 0 i xs (rw zero-add h)

  pub first_below : (t : Option A → Bool) (i : ℕ) (xs : List (Option A)) → First t i xs → i < length xs
  first_below t i [] h = absurd h
  first_below t zero (x ∷ xs) h = omega arith
  first_below t (suc i) (x ∷ xs) h = let k = first_below t i xs h.1 in omega arith

  -- THE FIRST FREE SLOT takes an entry
  set_first : (y : A) (i : ℕ) (xs : List (Option A)) → First is_free i xs → set xs i (some y) ≡ place (λ x. false) y xs
  unfolding place
  set_first y i [] h = absurd h
  set_first y zero (none ∷ xs) h = refl
  set_first y zero (some x ∷ xs) h = clash {b = false} h refl
  set_first y (suc i) (none ∷ xs) h = clash {b = true} refl h.0
  set_first y (suc i) (some x ∷ xs) h = ap (λ (l : List (Option A)). some x ∷ l) (set_first y i xs h.1)

  pub set-insert : (y : A) (i : ℕ) (xs : List (Option A)) → first_free xs ≡ Some i →
      set xs i (some y) ≡ place (λ x. false) y xs
  set-insert y i xs h = set_first y i xs (first_of is_free i xs h)

  -- THE FIRST ENTRY THAT PASSES A TEST makes way for another slot
  module _ (t : A → Bool) where
    replace-first : (y : Option A) (i : ℕ) (xs : List (Option A)) → First (holds t) i xs → set xs i y ≡ replace t y xs
    unfolding replace
    replace-first y i [] h = absurd h
    replace-first y zero (none ∷ xs) h = clash {b = false} h refl
    replace-first y zero (some x ∷ xs) h = rw h
    replace-first y (suc i) (none ∷ xs) h = ap (λ (l : List (Option A)). none ∷ l) (replace-first y i xs h.1)
    replace-first y (suc i) (some x ∷ xs) h =
        rw h.0 (ap (λ (l : List (Option A)). some x ∷ l) (replace-first y i xs h.1))

    pub set-replace : (y : Option A) (i : ℕ) (xs : List (Option A)) → first_that t xs ≡ Some i →
        set xs i y ≡ replace t y xs
    set-replace y i xs h = replace-first y i xs (first_of (holds t) i xs h)

    -- or is taken out, where all behind those that move is free
    take-out-first : (i m : ℕ) (xs : List (Option A)) → First (holds t) i xs → Free (drop (suc (i + m)) xs) →
        take_out t xs ≡ removed_at i m xs
    unfolding take_out
    take-out-first i m [] h f = absurd h
    take-out-first zero m (none ∷ xs) h f = clash {b = false} h refl
    take-out-first zero m (some x ∷ xs) h f =
        let z = zero-add m in
        rw (h, z) (free-end-at m xs (rw z at f))
    take-out-first (suc i) m (none ∷ xs) h f =
        let z = suc-add i m in
        rw z (ap (λ (l : List (Option A)). none ∷ l) (take-out-first i m xs h.1 (rw z at f)))
    take-out-first (suc i) m (some x ∷ xs) h f =
        let z = suc-add i m in
        rw (h.0, z) (ap (λ (l : List (Option A)). some x ∷ l) (take-out-first i m xs h.1 (rw z at f)))

    pub take-out-found : (i m : ℕ) (xs : List (Option A)) → first_that t xs ≡ Some i → Free (drop (suc (i + m)) xs) →
        take_out t xs ≡ removed_at i m xs
    take-out-found i m xs h f = take-out-first i m xs (first_of (holds t) i xs h) f

    -- and is what the table is asked for by that test
    find_first : (i : ℕ) (xs : List (Option A)) → First (holds t) i xs →
        (find t xs ≡ get_or xs i none) × (is_some (find t xs) ≡ true)
    unfolding find
    find_first i [] h = absurd h
    find_first zero (none ∷ xs) h = clash {b = false} h refl
    find_first zero (some x ∷ xs) h = (rw h, rw h)
    find_first (suc i) (none ∷ xs) h = find_first i xs h.1
    find_first (suc i) (some x ∷ xs) h = let ih = find_first i xs h.1 in (rw h.0 ih.0, rw h.0 ih.1)

    pub find-found : (i : ℕ) (xs : List (Option A)) → first_that t xs ≡ Some i → find t xs ≡ get_or xs i none
    find-found i xs h = (find_first i xs (first_of (holds t) i xs h)).0

    pub some-found : (i : ℕ) (xs : List (Option A)) → first_that t xs ≡ Some i → is_some (find t xs) ≡ true
    some-found i xs h = (find_first i xs (first_of (holds t) i xs h)).1

  -- AN INDEX that is found is one of the table's
  pub found_below : (t : Option A → Bool) (i : ℕ) (xs : List (Option A)) → index_where t 0 xs ≡ Some i → i < length xs
  found_below t i xs h = first_below t i xs (first_of t i xs h)

  -- NOTHING FOUND: the table stays, and is asked in vain
  pub insert-nothing : (y : A) (n : ℕ) (xs : List (Option A)) → index_where is_free n xs ≡ None →
      place (λ x. false) y xs ≡ xs
  unfolding index_where place
  insert-nothing y n [] h = refl
  insert-nothing y n (none ∷ xs) h = let z : ◌≡◌ {A = ℕ} 0 1 = cc in absurd (omega arith)
  insert-nothing y n (some x ∷ xs) h =
      ap (λ (l : List (Option A)). some x ∷ l) (insert-nothing y (suc n) xs h)

  pub replace-nothing : (t : A → Bool) (y : Option A) (n : ℕ) (xs : List (Option A)) →
      index_where (holds t) n xs ≡ None →
      replace t y xs ≡ xs
  unfolding index_where replace
  replace-nothing t y n [] h = refl
  replace-nothing t y n (none ∷ xs) h =
      ap (λ (l : List (Option A)). none ∷ l) (replace-nothing t y (suc n) xs h)
  replace-nothing t y n (some x ∷ xs) h =
      let ih = replace-nothing t y (suc n) xs in
      cases (t x) (λ e. let z : ◌≡◌ {A = ℕ} 0 1 = cc in absurd (omega arith))
      (λ e. rw (replace, e) (ap (λ (l : List (Option A)). some x ∷ l) (ih (cc))))

  pub take-out-nothing : (t : A → Bool) (n : ℕ) (xs : List (Option A)) → index_where (holds t) n xs ≡ None →
      take_out t xs ≡ xs
  unfolding index_where take_out
  take-out-nothing t n [] h = refl
  take-out-nothing t n (none ∷ xs) h =
      ap (λ (l : List (Option A)). none ∷ l) (take-out-nothing t (suc n) xs h)
  take-out-nothing t n (some x ∷ xs) h =
      let ih = take-out-nothing t (suc n) xs in
      cases (t x) (λ e. let z : ◌≡◌ {A = ℕ} 0 1 = cc in absurd (omega arith))
      (λ e. rw (take_out, e) (ap (λ (l : List (Option A)). some x ∷ l) (ih (cc))))

  pub find-nothing : (t : A → Bool) (n : ℕ) (xs : List (Option A)) → index_where (holds t) n xs ≡ None →
      find t xs ≡ none
  unfolding index_where find
  find-nothing t n [] h = refl
  find-nothing t n (none ∷ xs) h = find-nothing t (suc n) xs h
  find-nothing t n (some x ∷ xs) h =
      let ih = find-nothing t (suc n) xs in
      cases (t x) (λ e. let z : ◌≡◌ {A = ℕ} 0 1 = cc in absurd (omega arith)) (λ e. let k = ih (cc) in cc)

  -- THE SLOT AT AN INDEX of a table that is read
  pub table_at : (f : List ℕ → A) (n i : ℕ) (bs : List ℕ) → i < n →
      get_or (table_in f n bs) i none ≡ slot_in f (part (slot_size * i) slot_size bs)
  unfolding pieces part
  table_at f zero i bs h = absurd (not-suc-le-zero h)
  table_at f (suc n) zero bs h = refl
  table_at f (suc n) (suc i) bs h =
      let k : slot_size * suc i ≡ slot_size + slot_size * i = omega arith in
      rw (k, ← drop-drop (slot_size * i) slot_size bs) (table_at f n i (drop slot_size bs) (le_of_suc-le-suc h))

  pub slot-at : (f : List ℕ → A) (start n i : ℕ) (bs : List ℕ) → i < n →
      get_or (table_from f start n bs 0) i none ≡ slot_in f (slot_at start bs i)
  unfolding part
  slot-at f start n i bs h =
      let m : n - 0 ≡ n = omega arith in
      let z : start + slot_size * 0 ≡ start = omega arith in
      rw (m, z, ← drop-drop (slot_size * i) start bs) (table_at f n i (drop start bs) h)

  pub length-slots : (f : List ℕ → A) (start n : ℕ) (bs : List ℕ) → length (table_from f start n bs 0) ≡ n
  length-slots f start n bs = length-read f (n - 0) (drop (start + slot_size * 0) bs) ∙ omega arith

  -- what a scan of such a table finds is what the bytes at that slot are read as
  pub table-found : (f : List ℕ → A) (t : A → Bool) (n i from : ℕ) (bs : List ℕ) →
      first_that t (table_in f n (drop from bs)) ≡ Some i →
      find t (table_in f n (drop from bs)) ≡ some (f (part (from + slot_size * i) slot_size bs))
  unfolding slot_in part
  table-found f t n i from bs h =
      let xs : List (Option A) = table_in f n (drop from bs) in
      let p : List ℕ = part (slot_size * i) slot_size (drop from bs) in
      let below : i < n = omega (arith, found_below (holds t) i xs h, length-read f n (drop from bs)) in
      let slot = find-found t i xs h ∙ table_at f n i (drop from bs) below in
      let there : is_some (slot_in f p) ≡ true = ap is_some (sym slot) ∙ some-found t i xs h in
      let place : p ≡ part (from + slot_size * i) slot_size bs = rw (drop-drop (slot_size * i) from bs) in
      let taken : slot_in f p ≡ some (f p) =
      cases (are_zero p) (λ e. clash {b = is_some (slot_in f p)} there (cc)) (λ e. cc) in
      slot ∙ taken ∙ ap (λ (q : List ℕ). some (f q)) place

-- THE TWO TABLES of a store that is read
pub channel-found : (t : Channel → Bool) (j : ℕ) (bs : List ℕ) → first_that t (store_in bs).channels ≡ Some j →
    find t (store_in bs).channels ≡ some (channel_in (part (header_size + slot_size * j) slot_size bs))
unfolding store_in
channel-found t j bs h = table-found channel_in t channel_limit j header_size bs h

pub record-found : (t : Record → Bool) (i : ℕ) (bs : List ℕ) → first_that t (store_in bs).records ≡ Some i →
    find t (store_in bs).records ≡ some (record_in (part (records_from + slot_size * i) slot_size bs))
unfolding store_in
record-found t i bs h = table-found record_in t (room_in (length bs)) i records_from bs h
