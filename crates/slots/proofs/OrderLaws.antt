-- Laws of tables in order, whatever the entries are and whatever order they have. Assumes nothing.
use Rattle.wire.proofs.Prelude.{◌≡◌, refl, ap, Bool, true, false, not, List, [], ◌∷◌, ◌++◌, Option, none, some, ℕ, zero}
use Rattle.wire.proofs.Prelude.{suc, take, drop, replicate, not-true, not-false}
use Rattle.wire.specs.Names.{is_some}
use Rattle.wire.proofs.Laws.{and_both, both-and, clash, of-pick, none-if}
use Rattle.slots.specs.Names.{find, push, place, take_out, distinct, may_lead, in_order}
use Rattle.slots.proofs.TableLaws.{Each, each_map, find-passes, each-find}
use Rattle.slots.proofs.PlaceLaws.{each-push, each-place, each-end, each-take-out}

-- no slot holds an entry
abbrev pub Free : {A : Type 0} → List (Option A) → Type 0
Free [] = Unit {0}
Free (none ∷ xs) = Free xs
Free (some x ∷ xs) = ⊥

module _ {A : Type 0} where
  pub each_free : (P : A → Type 0) (xs : List (Option A)) → Free xs → Each P xs
  each_free P [] h = tt
  each_free P (none ∷ xs) h = each_free P xs h
  each_free P (some x ∷ xs) h = absurd h

  pub find-free : (t : A → Bool) (xs : List (Option A)) → Free xs → find t xs ≡ none
  unfolding find
  find-free t [] h = refl
  find-free t (none ∷ xs) h = find-free t xs h
  find-free t (some x ∷ xs) h = absurd h

  free-end : (xs : List (Option A)) → Free xs → Free (xs ++ (none ∷ []))
  free-end [] h = tt
  free-end (none ∷ xs) h = free-end xs h
  free-end (some x ∷ xs) h = absurd h

  -- a free slot more, at the end or before those that are free
  pub free-end-at : (m : ℕ) (xs : List (Option A)) → Free (drop m xs) →
      xs ++ (none ∷ []) ≡ take m xs ++ (none ∷ drop m xs)
  free-end-at zero [] h = refl
  free-end-at zero (none ∷ xs) h = ap (λ (l : List (Option A)). none ∷ l) (free-end-at zero xs h)
  free-end-at zero (some x ∷ xs) h = absurd h
  free-end-at (suc m) [] h = refl
  free-end-at (suc m) (x ∷ xs) h = ap (λ (l : List (Option A)). x ∷ l) (free-end-at m xs h)

  free-take-out : (t : A → Bool) (xs : List (Option A)) → Free xs → Free (take_out t xs)
  unfolding take_out
  free-take-out t [] h = tt
  free-take-out t (none ∷ xs) h = free-take-out t xs h
  free-take-out t (some x ∷ xs) h = absurd h

-- A STRICT ORDER: no entry precedes itself, and what precedes one precedes what that one precedes
pub record Strict {A : Type 0} (u : A → A → Bool) : Type 0 where
  pub not_own : (x : A) → u x x ≡ false
  pub onward : (x y z : A) → u x y ≡ true → u y z ≡ true → u x z ≡ true

module _ {A : Type 0} (u : A → A → Bool) where
  -- each entry precedes every one behind it, and behind a free slot all are free
  abbrev pub Rising : List (Option A) → Type 0
  Rising [] = Unit {0}
  Rising (none ∷ xs) = Free xs
  Rising (some x ∷ xs) = Each (λ y. u x y ≡ true) xs × Rising xs

  rising-free : (xs : List (Option A)) → Free xs → Rising xs
  rising-free [] h = tt
  rising-free (none ∷ xs) h = h
  rising-free (some x ∷ xs) h = absurd h

  pub rising_none : (n : ℕ) → Rising (replicate n none)
  rising_none zero = tt
  rising_none (suc n) = free-none n
    where
      free-none : (m : ℕ) → Free {A = A} (replicate m none)
      free-none zero = tt
      free-none (suc m) = free-none m

  free-order : (xs : List (Option A)) → may_lead u none xs ≡ true → in_order u xs ≡ true → Free xs
  unfolding may_lead in_order
  free-order [] l h = tt
  free-order (none ∷ xs) l h = free-order xs (and_both h).0 (and_both h).1
  free-order (some x ∷ xs) l h = clash {b = false} l refl

  order-free : (xs : List (Option A)) → Free xs → (may_lead u none xs ≡ true) × (in_order u xs ≡ true)
  unfolding may_lead in_order
  order-free [] h = (refl, refl)
  order-free (none ∷ xs) h = let k = order-free xs h in (refl, both-and k.0 k.1)
  order-free (some x ∷ xs) h = absurd h

  pub in-order : (xs : List (Option A)) → Rising xs → in_order u xs ≡ true
  unfolding may_lead in_order
  in-order [] h = refl
  in-order (none ∷ xs) h = let k = order-free xs h in both-and k.0 k.1
  in-order (some x ∷ xs) h = both-and (leads xs h.0) (in-order xs h.1)
    where
      leads : (ys : List (Option A)) → Each (λ y. u x y ≡ true) ys → may_lead u (some x) ys ≡ true
      leads [] k = refl
      leads (none ∷ ys) k = refl
      leads (some y ∷ ys) k = k.0

  module _ (strict : Strict u) where
    pub rising : (xs : List (Option A)) → in_order u xs ≡ true → Rising xs
    unfolding may_lead in_order
    rising [] h = tt
    rising (none ∷ xs) h = free-order xs (and_both h).0 (and_both h).1
    rising (some x ∷ xs) h = (above xs (and_both h).0 (rising xs (and_both h).1), rising xs (and_both h).1)
      where
        above : (ys : List (Option A)) → may_lead u (some x) ys ≡ true → Rising ys → Each (λ y. u x y ≡ true) ys
        above [] l k = tt
        above (none ∷ ys) l k = each_free (λ y. u x y ≡ true) ys k
        above (some y ∷ ys) l k = (l, each_map (λ z q. strict.onward x y z l q) ys k.0)

    -- NO ENTRY STANDS TWICE, where two of one name do not precede each other
    pub rising-distinct : (v : A → A → Bool) → ((x y : A) → v x y ≡ true → u x y ≡ false) →
        (xs : List (Option A)) → Rising xs → distinct v xs ≡ true
    unfolding distinct
    rising-distinct v apart [] h = refl
    rising-distinct v apart (none ∷ xs) h = rising-distinct v apart xs (rising-free xs h)
    rising-distinct v apart (some x ∷ xs) h =
        let n = none-if (find (v x) xs) (λ y e. clash (each-find (λ y. u x y ≡ true) (v x) xs y h.0 e)
        (apart x y (find-passes (v x) xs y e))) in
        both-and (ap (λ (z : Option A). not (is_some z)) n) (rising-distinct v apart xs h.1)

    -- PLACED
    rising-push : (y : A) (xs : List (Option A)) → Each (λ x. u y x ≡ true) xs → Rising xs → Rising (push y xs)
    unfolding push
    rising-push y [] a h = tt
    rising-push y (none ∷ xs) a h = (each_free (λ x. u y x ≡ true) xs h, rising-free xs h)
    rising-push y (some x ∷ xs) a h =
        (each-push (λ z. u y z ≡ true) x xs a.0 a.1, rising-push x xs h.0 h.1)

    pub rising-place : (y : A) (xs : List (Option A)) → Each (λ x. u x y ≡ false → u y x ≡ true) xs → Rising xs →
        Rising (place (λ x. not (u x y)) y xs)
    unfolding place
    rising-place y [] a h = tt
    rising-place y (none ∷ xs) a h = (each_free (λ x. u y x ≡ true) xs h, rising-free xs h)
    rising-place y (some x ∷ xs) a h =
        of-pick Rising (not (u x y)) (push y (some x ∷ xs)) (some x ∷ place (λ x. not (u x y)) y xs)
        (λ e. let l = a.0 (not-true (u x y) e) in
        rising-push y (some x ∷ xs) (l, each_map (λ z q. strict.onward y x z l q) xs h.0) h)
        (λ e. (
          each-place (λ x. not (u x y)) (λ z. u x z ≡ true) y xs (not-false (u x y) e) h.0,
          rising-place y xs a.1 h.1,
        ))

    -- TAKEN OUT
    pub rising-end : (xs : List (Option A)) → Rising xs → Rising (xs ++ (none ∷ []))
    rising-end [] h = tt
    rising-end (none ∷ xs) h = free-end xs h
    rising-end (some x ∷ xs) h = (each-end (λ y. u x y ≡ true) xs h.0, rising-end xs h.1)

    pub rising-take-out : (t : A → Bool) (xs : List (Option A)) → Rising xs → Rising (take_out t xs)
    unfolding take_out
    rising-take-out t [] h = tt
    rising-take-out t (none ∷ xs) h = free-take-out t xs h
    rising-take-out t (some x ∷ xs) h =
        of-pick Rising (t x) (xs ++ (none ∷ [])) (some x ∷ take_out t xs) (λ e. rising-end xs h.1)
        (λ e. (each-take-out t (λ y. u x y ≡ true) xs h.0, rising-take-out t xs h.1))
