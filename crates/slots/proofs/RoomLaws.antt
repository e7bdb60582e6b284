-- Laws of the free slots of a table: there is one less after an entry is placed. Assumes nothing.
use Rattle.wire.proofs.Prelude.{◌≡◌, refl, Bool, true, false, List, [], ◌∷◌, ◌++◌, Option, none, some, suc, ◌≤◌, arith}
use Rattle.wire.proofs.Laws.{clash, of-pick}
use Rattle.slots.specs.Names.{push, place, has_free, free_slots}

module _ {A : Type 0} where
  pub has-free : (xs : List (Option A)) → 1 ≤ free_slots xs → has_free xs ≡ true
  unfolding free_slots has_free
  has-free [] h = absurd (omega arith)
  has-free (none ∷ xs) h = refl
  has-free (some x ∷ xs) h = has-free xs h

  free-push : (y : A) (xs : List (Option A)) → has_free xs ≡ true → suc (free_slots (push y xs)) ≡ free_slots xs
  unfolding push free_slots has_free
  free-push y [] f = clash {b = false} f refl
  free-push y (none ∷ xs) f = refl
  free-push y (some x ∷ xs) f = free-push x xs f

  pub free-place : (q : A → Bool) (y : A) (xs : List (Option A)) → has_free xs ≡ true →
      suc (free_slots (place q y xs)) ≡ free_slots xs
  unfolding place free_slots has_free
  free-place q y [] f = clash {b = false} f refl
  free-place q y (none ∷ xs) f = refl
  free-place q y (some x ∷ xs) f =
      of-pick (λ (l : List (Option A)). suc (free_slots l) ≡ free_slots xs) (q x) (push y (some x ∷ xs))
      (some x ∷ place q y xs) (λ e. free-push y (some x ∷ xs) f) (λ e. free-place q y xs f)

  pub has-free-end : (xs : List (Option A)) → has_free (xs ++ (none ∷ [])) ≡ true
  unfolding has_free
  has-free-end [] = refl
  has-free-end (none ∷ xs) = refl
  has-free-end (some x ∷ xs) = has-free-end xs
