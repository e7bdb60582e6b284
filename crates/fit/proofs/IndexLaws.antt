-- Laws of a table by the indices of its slots: in order up to one and free from there on. Assumes nothing.
use mathlib.Core.Path.{◌≡◌, refl, sym, ap, subst, ◌∙◌}
use mathlib.Core.Bool.{Bool, true}
use mathlib.Core.List.{List, [], ◌∷◌}
use mathlib.Core.Option.{Option, none, some}
use Prim.Native.Nat.{ℕ, zero, suc, ◌≤◌, ◌<◌}
use native.Mathlib.Omega.{arith}
use lib.Dec.{ltb}
use lib.ListN.{length, get_or}
use borrow.Author.Tests.{ltb-true, ltb-false}
use Rattle.wire.proofs.ChoiceLaws.{cases, some_is}
use Rattle.slots.specs.Table.{count}
use Rattle.slots.specs.Scan.{used_slots}
use Rattle.slots.proofs.TableLaws.{Each}
use Rattle.slots.proofs.OrderLaws.{Free, Rising}
use Rattle.front.proofs.IndexLaws.{not_none}

module _ {A : Type 0} where
  -- EACH ENTRY, by its index
  each_index : (P : A → Type 0) (xs : List (Option A)) → ((k : ℕ) (y : A) → get_or xs k none ≡ some y → P y) → Each P xs
  each_index P [] h = tt
  each_index P (none ∷ xs) h = each_index P xs (λ k y e. h (suc k) y e)
  each_index P (some x ∷ xs) h = (h 0 x refl, each_index P xs (λ k y e. h (suc k) y e))

  index-each : (P : A → Type 0) (xs : List (Option A)) → Each P xs → (k : ℕ) (y : A) → get_or xs k none ≡ some y → P y
  index-each P [] h k y e = not_none (sym e)
  index-each P (none ∷ xs) h zero y e = not_none (sym e)
  index-each P (none ∷ xs) h (suc k) y e = index-each P xs h k y e
  index-each P (some x ∷ xs) h zero y e = subst P (some_is e) h.0
  index-each P (some x ∷ xs) h (suc k) y e = index-each P xs h.1 k y e

  -- IN ORDER: before an entry stand entries that precede it
  free-index : (xs : List (Option A)) → Free xs → (k : ℕ) → get_or xs k none ≡ none
  free-index [] h k = refl
  free-index (none ∷ xs) h zero = refl
  free-index (none ∷ xs) h (suc k) = free-index xs h k
  free-index (some x ∷ xs) h k = absurd h

  pub rising-index : (u : A → A → Bool) (xs : List (Option A)) → Rising u xs → (m k : ℕ) (y : A) → m < k →
      get_or xs k none ≡ some y → (x : A) × (get_or xs m none ≡ some x) × (u x y ≡ true)
  rising-index u [] h m k y l e = not_none (sym e)
  rising-index u (none ∷ xs) h m zero y l e = absurd (omega arith)
  rising-index u (none ∷ xs) h m (suc k) y l e = not_none (sym e ∙ free-index xs h k)
  rising-index u (some x ∷ xs) h m zero y l e = absurd (omega arith)
  rising-index u (some x ∷ xs) h zero (suc k) y l e = (x, refl, index-each (λ z. u x z ≡ true) xs h.0 k y e)
  rising-index u (some x ∷ xs) h (suc m) (suc k) y l e = rising-index u xs h.1 m k y (omega arith) e

  -- the first i slots hold entries in order, and the others are free
  abbrev pub Upto : (A → A → Bool) → ℕ → List (Option A) → Type 0
  Upto u i xs =
      ((k : ℕ) → k < i → (x : A) × (get_or xs k none ≡ some x)) × ((k : ℕ) → i ≤ k → get_or xs k none ≡ none) ×
      ((m k : ℕ) (x y : A) → m < k → k < i → get_or xs m none ≡ some x → get_or xs k none ≡ some y → u x y ≡ true)

  free_all : (xs : List (Option A)) → ((k : ℕ) → get_or xs k none ≡ none) → Free xs
  free_all [] h = tt
  free_all (none ∷ xs) h = free_all xs (λ k. h (suc k))
  free_all (some x ∷ xs) h = not_none (h 0)

  upto_next : (u : A → A → Bool) (i : ℕ) (x : Option A) (xs : List (Option A)) → Upto u (suc i) (x ∷ xs) → Upto u i xs
  upto_next u i x xs (t, f, o) = (
    λ k l. t (suc k) (omega arith),
    λ k l. f (suc k) (omega arith),
    λ m k y z l n. o (suc m) (suc k) y z (omega arith) (omega arith),
  )

  pub upto-rising : (u : A → A → Bool) (i : ℕ) (xs : List (Option A)) → Upto u i xs → Rising u xs
  upto-rising u i [] h = tt
  upto-rising u zero (none ∷ xs) h = free_all xs (λ k. h.1 (suc k) (omega arith))
  upto-rising u zero (some x ∷ xs) h = not_none (h.1 0 (omega arith))
  upto-rising u (suc i) (none ∷ xs) h = not_none (sym (h.0 0 (omega arith)).1)
  upto-rising u (suc i) (some x ∷ xs) h = (
    each_index (λ y. u x y ≡ true) xs
        (λ k y e.
        cases (ltb k i) (λ l. let m = ltb-true k i l in h.2 0 (suc k) x y (omega arith) (omega arith) refl e)
        (λ l. let m = ltb-false k i l in not_none (sym e ∙ h.1 (suc k) (omega arith)))),
    upto-rising u i xs (upto_next u i (some x) xs h),
  )

  used-free : (xs : List (Option A)) → Free xs → used_slots xs ≡ 0
  unfolding count
  used-free [] h = refl
  used-free (none ∷ xs) h = used-free xs h
  used-free (some x ∷ xs) h = absurd h

  pub upto-used : (u : A → A → Bool) (i : ℕ) (xs : List (Option A)) → Upto u i xs → used_slots xs ≡ i
  unfolding count
  upto-used u zero xs h = used-free xs (free_all xs (λ k. h.1 k (omega arith)))
  upto-used u (suc i) [] h = not_none (sym (h.0 0 (omega arith)).1)
  upto-used u (suc i) (none ∷ xs) h = not_none (sym (h.0 0 (omega arith)).1)
  upto-used u (suc i) (some x ∷ xs) h = ap suc (upto-used u i xs (upto_next u i (some x) xs h))

  pub behind-index : (xs : List (Option A)) (k : ℕ) → length xs ≤ k → get_or xs k none ≡ none
  behind-index [] k l = refl
  behind-index (x ∷ xs) zero l = absurd (omega arith)
  behind-index (x ∷ xs) (suc k) l = behind-index xs k (omega arith)
