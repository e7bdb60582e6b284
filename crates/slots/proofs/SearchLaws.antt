-- What a search of a table in order tells of it: how many entries precede another one is its place, where it is found
-- and put in. Assumes nothing.
use Rattle.wire.proofs.Prelude.{◌≡◌, refl, sym, ap, ◌∙◌, Bool, true, false, not, List, [], ◌∷◌, ◌++◌}
use Rattle.wire.proofs.Prelude.{Option, none, some, ℕ, zero, suc, ◌+◌, ◌≤◌, ◌<◌, arith, ltb, length, take, drop, get_or}
use Rattle.wire.proofs.Prelude.{le-ltb, lt-ltb}
use native.Mathlib.Nat.{zero-add, add-zero, suc-add, add-suc}
use lib.Dec.{leb-suc-suc}
use Rattle.wire.specs.Names.{pick}
use Rattle.wire.proofs.Laws.{clash, cases}
use Rattle.slots.specs.declared.Record.{Record}
use Rattle.std.specs.Prelude.{Some, None}
use Rattle.slots.specs.Names.{push, place, has_free, count, Key, key_of, has_key, is_before, precedes, insert}
use Rattle.slots.specs.Names.{no_timeout}
use Rattle.slots.specs.Scan.{index_where, is_free, holds, first_that, place_of, used_slots}
use Rattle.slots.specs.Effect.{inserted_at}
use Rattle.slots.proofs.TableLaws.{Each, each_map}
use Rattle.slots.proofs.OrderLaws.{Free, each_free, Strict, Rising, rising}
use Rattle.slots.proofs.KeyLaws.{key-of, strict}
use Rattle.slots.proofs.RecordLaws.{Ordered}
use Rattle.slots.proofs.ScanLaws.{First, first_of}

used_all : {A : Type 0} (xs : List (Option A)) → used_slots xs ≤ length xs
unfolding count
used_all [] = omega arith
used_all (none ∷ xs) = let ih = used_all xs in omega arith
used_all (some x ∷ xs) = let ih = used_all xs in omega arith

module _ {A : Type 0} (t : A → Bool) where
  -- NONE PASSES
  abbrev Fails : List (Option A) → Type 0
  Fails xs = Each (λ x. t x ≡ false) xs

  count-fails : (xs : List (Option A)) → Fails xs → count t xs ≡ 0
  unfolding count
  count-fails [] h = refl
  count-fails (none ∷ xs) h = count-fails xs h
  count-fails (some x ∷ xs) h = let p = h.0 in let ih = count-fails xs h.1 in cc

  holds-fails : (i : ℕ) (xs : List (Option A)) → Fails xs → holds t (get_or xs i none) ≡ false
  holds-fails i [] h = refl
  holds-fails zero (none ∷ xs) h = refl
  holds-fails (suc i) (none ∷ xs) h = holds-fails i xs h
  holds-fails zero (some x ∷ xs) h = h.0
  holds-fails (suc i) (some x ∷ xs) h = holds-fails i xs h.1

  index-fails : (n : ℕ) (xs : List (Option A)) → Fails xs → index_where (holds t) n xs ≡ None
  unfolding index_where
  index-fails n [] h = refl
  index-fails n (none ∷ xs) h = index-fails (suc n) xs h
  index-fails n (some x ∷ xs) h = rw h.0 (index-fails (suc n) xs h.1)

  -- or some do, not more than there are
  count-used : (xs : List (Option A)) → count t xs ≤ used_slots xs
  unfolding count
  count-used [] = omega arith
  count-used (none ∷ xs) = count-used xs
  count-used (some x ∷ xs) =
      let ih = count-used xs in
      cases (t x) (λ e. let z : count t (some x ∷ xs) ≡ suc (count t xs) = cc in omega arith)
      (λ e. let z : count t (some x ∷ xs) ≡ count t xs = cc in omega arith)

  count-length : (xs : List (Option A)) → count t xs ≤ length xs
  count-length xs = omega (arith, count-used xs, used_all xs)

module _ {A : Type 0} where
  free-at : (i : ℕ) (xs : List (Option A)) → Free xs → is_free (get_or xs i none) ≡ true
  free-at i [] h = refl
  free-at zero (none ∷ xs) h = refl
  free-at (suc i) (none ∷ xs) h = free-at i xs h
  free-at i (some x ∷ xs) h = absurd h

  free_moved : (m : ℕ) (xs : List (Option A)) → Free xs → m ≤ length xs → xs ≡ take m (none ∷ xs) ++ drop m xs
  free_moved zero xs h l = refl
  free_moved (suc m) [] h l = absurd (omega arith)
  free_moved (suc m) (none ∷ xs) h l = ap (λ (l : List (Option A)). none ∷ l) (free_moved m xs h (omega arith))
  free_moved (suc m) (some x ∷ xs) h l = absurd h

  free-drop : (n : ℕ) (xs : List (Option A)) → Free xs → Free (drop n xs)
  free-drop zero xs h = h
  free-drop (suc n) [] h = tt
  free-drop (suc n) (none ∷ xs) h = free-drop n xs h
  free-drop (suc n) (some x ∷ xs) h = absurd h

  -- SLOTS IN USE: behind them all are free, and an entry that is found is one of them
  used-rising : (u : A → A → Bool) (n : ℕ) (xs : List (Option A)) → Rising u xs → used_slots xs ≤ n → Free (drop n xs)
  unfolding count
  used-rising u zero [] h l = tt
  used-rising u (suc n) [] h l = tt
  used-rising u n (none ∷ xs) h l = free-drop n (none ∷ xs) h
  used-rising u zero (some x ∷ xs) h l = absurd (omega arith)
  used-rising u (suc n) (some x ∷ xs) h l = used-rising u n xs h.1 (omega arith)

  first-not-free : (t : A → Bool) (i : ℕ) (xs : List (Option A)) → Free xs → First (holds t) i xs → ⊥
  first-not-free t i [] h f = f
  first-not-free t zero (none ∷ xs) h f = clash {b = false} f refl
  first-not-free t (suc i) (none ∷ xs) h f = first-not-free t i xs h f.1
  first-not-free t i (some x ∷ xs) h f = h

  first-used : (u : A → A → Bool) (t : A → Bool) (i : ℕ) (xs : List (Option A)) → Rising u xs → First (holds t) i xs →
      i < used_slots xs
  unfolding count
  first-used u t i [] h f = absurd f
  first-used u t i (none ∷ xs) h f = absurd (first-not-free t i (none ∷ xs) h f)
  first-used u t zero (some x ∷ xs) h f = omega arith
  first-used u t (suc i) (some x ∷ xs) h f = let k = first-used u t i xs h.1 f.1 in omega arith

  -- what stands at an index can go: it is the table's last slot, or all in use stand before it
  abbrev pub Spare : (index : ℕ) → List (Option A) → Type 0
  Spare n xs = (n < length xs) × (suc n < length xs → used_slots xs ≤ n)

  -- ROOM is where the last slot is free
  rising-last : (u : A → A → Bool) (i : ℕ) (xs : List (Option A)) → Rising u xs → suc i ≡ length xs →
      has_free xs ≡ is_free (get_or xs i none)
  unfolding has_free
  rising-last u i [] h l = absurd (omega arith)
  rising-last u i (none ∷ xs) h l = sym (free-at i (none ∷ xs) h)
  rising-last u zero (some x ∷ []) h l = refl
  rising-last u zero (some x ∷ (z ∷ xs)) h l = absurd (omega arith)
  rising-last u (suc i) (some x ∷ xs) h l = rising-last u i xs h.1 (omega arith)

module _ {A : Type 0} (u : A → A → Bool) (strict : Strict u) (y : A) where
  -- an entry precedes y
  abbrev ahead : A → Bool
  ahead x = u x y

  -- behind one that does not precede y, none does
  behind : (x : A) (xs : List (Option A)) → u x y ≡ false → Each (λ z. u x z ≡ true) xs → Fails ahead xs
  behind x xs n h =
      each_map (λ z q. cases (u z y) (λ e. clash (strict.onward x z y q e) n) (λ e. e)) xs h

  fails-count : (i : ℕ) (xs : List (Option A)) → Fails ahead xs →
      holds ahead (get_or xs i none) ≡ ltb i (count ahead xs)
  fails-count i xs h =
      holds-fails ahead i xs h ∙ sym (le-ltb i (count ahead xs) (omega (arith, count-fails ahead xs h)))

  -- so the slots with one that does are those of an index below their number
  holds-count : (i : ℕ) (xs : List (Option A)) → Rising u xs → holds ahead (get_or xs i none) ≡ ltb i (count ahead xs)
  unfolding count
  holds-count i [] h = fails-count i [] tt
  holds-count i (none ∷ xs) h = fails-count i (none ∷ xs) (each_free (λ x. u x y ≡ false) xs h)
  holds-count zero (some x ∷ xs) h =
      cases (u x y) (λ e. rw e (sym (lt-ltb 0 (suc (count ahead xs)) (omega arith))))
      (λ e. fails-count 0 (some x ∷ xs) (e, behind x xs e h.0))
  holds-count (suc i) (some x ∷ xs) h =
      cases (u x y) (λ e. rw e (holds-count i xs h.1 ∙ sym (leb-suc-suc (suc i) (count ahead xs))))
      (λ e. fails-count (suc i) (some x ∷ xs) (e, behind x xs e h.0))

  -- FOUND there or nowhere, by a test that only one with the place of y passes
  module _ (v : A → Bool) (same : (x z : A) → v z ≡ true → u x z ≡ u x y) where
    first_count : (n : ℕ) (xs : List (Option A)) → Rising u xs →
        index_where (holds v) n xs ≡
        pick (holds v (get_or xs (count ahead xs) none)) (Some (n + count ahead xs)) None
    unfolding count index_where
    first_count n [] h = refl
    first_count n (none ∷ xs) h =
        rw (count-fails ahead xs (each_free _ xs h)) (index-fails v (suc n) xs (each_free _ xs h))
    first_count n (some x ∷ xs) h =
        let ih = first_count (suc n) xs h.1 in
        let c : ℕ = count ahead xs in
        cases (u x y)
        (λ e. let f : v x ≡ false = cases (v x) (λ q. clash e (sym (same x x q) ∙ strict.not_own x)) (λ q. q) in
        rw (e, f, ih, suc-add n c, add-suc n c))
        (λ e. let z = count-fails ahead xs (behind x xs e h.0) in
        let f = index-fails v (suc n) xs (each_map (λ a q. cases (v a) (λ w. clash q (same x a w ∙ e)) (λ w. w)) xs
        h.0) in
        rw (e, z, f, add-zero n))

  -- PUT IN: those from its place on move up by one, as far as a slot whose content can go
  push-inserted : (x : A) (m : ℕ) (xs : List (Option A)) → Rising u xs → Spare m xs → push x xs ≡ inserted_at 0 m x xs
  unfolding push count
  push-inserted x m [] h s = absurd (omega (arith, s.0))
  push-inserted x m (none ∷ xs) h s =
      rw (zero-add m) (ap (λ (l : List (Option A)). some x ∷ l) (free_moved m xs h (omega (arith, s.0))))
  push-inserted x zero (some z ∷ []) h s = refl
  push-inserted x zero (some z ∷ (w ∷ xs)) h s = let k = s.1 (omega arith) in absurd (omega arith)
  push-inserted x (suc m) (some z ∷ xs) h s =
      let ih = push-inserted z m xs h.1 (omega (arith, s.0), λ k. omega (arith, s.1 (omega arith))) in
      rw (zero-add (suc m), ih, zero-add m)

  place-inserted : (m : ℕ) (xs : List (Option A)) → Rising u xs → Spare (count ahead xs + m) xs →
      place (λ x. not (u x y)) y xs ≡ inserted_at (count ahead xs) m y xs
  unfolding count place push
  place-inserted m [] h s = absurd (omega (arith, s.0))
  place-inserted m (none ∷ xs) h s =
      let z = count-fails ahead xs (each_free _ xs h) in
      rw z (push-inserted y m (none ∷ xs) h (omega (arith, s.0), λ k. omega (arith, s.1 (omega arith))))
  place-inserted m (some x ∷ xs) h s =
      let ih = place-inserted m xs h.1 in
      cases (u x y)
      (λ e. let z : count ahead (some x ∷ xs) ≡ suc (count ahead xs) = cc in
      let tail : Spare (count ahead xs + m) xs = (omega (arith, s.0), λ k. omega (arith, s.1 (omega arith))) in
      rw (e, ih tail, ← suc-add (count ahead xs) m))
      (λ e. let z = count-fails ahead (some x ∷ xs) (e, behind x xs e h.0) in
      let here : Spare m (some x ∷ xs) = (omega (arith, s.0), λ k. omega (arith, s.1 (omega arith))) in
      rw (z, e) (push-inserted y m (some x ∷ xs) h here))

  place-full : (xs : List (Option A)) → length xs ≤ count ahead xs → place (λ x. not (u x y)) y xs ≡ xs
  unfolding count place
  place-full [] l = refl
  place-full (none ∷ xs) l = absurd (omega (arith, count-length ahead xs))
  place-full (some x ∷ xs) l =
      let ih = place-full xs in
      cases (u x y)
      (λ e. let z : count ahead (some x ∷ xs) ≡ suc (count ahead xs) = cc in rw (e, ih (omega arith)))
      (λ e. let z : count ahead (some x ∷ xs) ≡ count ahead xs = cc in absurd (omega (arith, count-length ahead xs)))

-- PACKET RECORDS, by a key: it stands where a record of that key would
abbrev keyed : Key → Record
keyed k =
    record { kind = k.kind; channel = k.channel; sequence = k.sequence; timeout = no_timeout; digest = [] }

module _ (k : Key) (rs : List (Option Record)) where
  pub place-length : place_of k rs ≤ length rs
  place-length = count-length (λ r. is_before (key_of r) k) rs

  module _ (order : Ordered rs) where
    pub holds-place : (i : ℕ) → holds (λ r. is_before (key_of r) k) (get_or rs i none) ≡ ltb i (place_of k rs)
    holds-place i = holds-count precedes strict (keyed k) i rs (rising precedes strict rs order)

    pub first-place : first_that (has_key k) rs ≡
        pick (holds (has_key k) (get_or rs (place_of k rs) none)) (Some (place_of k rs)) None
    first-place =
        first_count precedes strict (keyed k) (has_key k) (λ x z e. ap (is_before (key_of x)) (key-of k z e)) 0 rs
        (rising precedes strict rs order) ∙ rw (zero-add (place_of k rs))

module _ (r : Record) (rs : List (Option Record)) where
  pub insert-place : Ordered rs → (m : ℕ) → Spare (place_of (key_of r) rs + m) rs →
      insert r rs ≡ inserted_at (place_of (key_of r) rs) m r rs
  insert-place order m s = place-inserted precedes strict r m rs (rising precedes strict rs order) s

  -- one that would stand behind all of a full table is not put in
  pub insert-full : length rs ≤ place_of (key_of r) rs → insert r rs ≡ rs
  insert-full l = place-full precedes strict r rs l

pub free-last : (rs : List (Option Record)) → Ordered rs → (i : ℕ) → suc i ≡ length rs →
    has_free rs ≡ is_free (get_or rs i none)
free-last rs order i l = rising-last precedes i rs (rising precedes strict rs order) l

-- SLOTS IN USE of packet records in order
module _ (rs : List (Option Record)) where
  pub place-used : (k : Key) → place_of k rs ≤ used_slots rs
  place-used k = count-used (λ r. is_before (key_of r) k) rs

  pub used-length : used_slots rs ≤ length rs
  used-length = used_all rs

  module _ (order : Ordered rs) where
    pub free-behind : (n : ℕ) → used_slots rs ≤ n → Free (drop n rs)
    free-behind n l = used-rising precedes n rs (rising precedes strict rs order) l

    pub found-used : (t : Record → Bool) (i : ℕ) → first_that t rs ≡ Some i → i < used_slots rs
    found-used t i h = first-used precedes t i rs (rising precedes strict rs order) (first_of (holds t) i rs h)
