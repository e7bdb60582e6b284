-- Laws of tables of slots, whatever the entries and the tests are. Assumes nothing.
use Rattle.wire.proofs.Prelude.{◌≡◌, refl, sym, ap, subst, ◌∙◌, Bool, true, false, not, List, [], ◌∷◌, Option, none}
use Rattle.wire.proofs.Prelude.{some, ℕ, suc, arith, length}
use Rattle.wire.specs.Names.{is_some}
use Rattle.wire.proofs.Laws.{and_both, both-and, cases, of-pick, not_some}
use Rattle.slots.specs.Names.{find, replace, all, distinct}

-- every entry has a property
abbrev pub Each : {A : Type 0} → (A → Type 0) → List (Option A) → Type 0
Each P [] = Unit {0}
Each P (none ∷ xs) = Each P xs
Each P (some x ∷ xs) = P x × Each P xs

module _ {A : Type 0} where
  pub all-each : (t : A → Bool) (xs : List (Option A)) → all t xs ≡ true → Each (λ x. t x ≡ true) xs
  unfolding all
  all-each t [] h = tt
  all-each t (none ∷ xs) h = all-each t xs h
  all-each t (some x ∷ xs) h = ((and_both h).0, all-each t xs (and_both h).1)

  pub each_all : (t : A → Bool) (xs : List (Option A)) → Each (λ x. t x ≡ true) xs → all t xs ≡ true
  unfolding all
  each_all t [] h = refl
  each_all t (none ∷ xs) h = each_all t xs h
  each_all t (some x ∷ xs) h = both-and h.0 (each_all t xs h.1)

  pub each_map : {P Q : A → Type 0} → ((x : A) → P x → Q x) → (xs : List (Option A)) → Each P xs → Each Q xs
  each_map f [] h = tt
  each_map f (none ∷ xs) h = each_map f xs h
  each_map f (some x ∷ xs) h = (f x h.0, each_map f xs h.1)

  -- FIND
  pub find-passes : (t : A → Bool) (xs : List (Option A)) (x : A) → find t xs ≡ some x → t x ≡ true
  unfolding find
  find-passes t [] x h = cc
  find-passes t (none ∷ xs) x h = find-passes t xs x h
  find-passes t (some y ∷ xs) x h =
      let ih = find-passes t xs x in
      cases (t y) (λ e. let z : y ≡ x = cc in cc) (λ e. ih (cc))

  pub each-find : (P : A → Type 0) (t : A → Bool) (xs : List (Option A)) (x : A) → Each P xs → find t xs ≡ some x → P x
  unfolding find
  each-find P t [] x h e = let z : ◌≡◌ {A = ℕ} 0 1 = cc in absurd (omega arith)
  each-find P t (none ∷ xs) x h e = each-find P t xs x h e
  each-find P t (some y ∷ xs) x h e =
      let ih = each-find P t xs x h.1 in
      cases (t y) (λ q. let z : y ≡ x = cc in subst P z h.0) (λ q. ih (cc))

  -- what no entry passes, no entry passes that asks for more
  pub find_none : (t u : A → Bool) (xs : List (Option A)) → ((x : A) → t x ≡ true → u x ≡ true) → find u xs ≡ none →
      find t xs ≡ none
  unfolding find
  find_none t u [] h e = refl
  find_none t u (none ∷ xs) h e = find_none t u xs h e
  find_none t u (some x ∷ xs) h e =
      let ih = find_none t u xs h in
      cases (t x) (λ q. let z = h x q in cc) (λ q. cases (u x) (λ w. cc) (λ w. let k = ih (cc) in cc))

  pub find-cons-none : (t : A → Bool) (x : A) (xs : List (Option A)) → find t (some x ∷ xs) ≡ none →
      (t x ≡ false) × (find t xs ≡ none)
  unfolding find
  find-cons-none t x xs h = (cases (t x) (λ e. cc) (λ e. e), cases (t x) (λ e. cc) (λ e. cc))

  -- REPLACE
  pub find-replace : (t : A → Bool) (y : A) (xs : List (Option A)) → t y ≡ true → is_some (find t xs) ≡ true →
      find t (replace t (some y) xs) ≡ some y
  unfolding find replace
  find-replace t y [] p h = cc
  find-replace t y (none ∷ xs) p h = find-replace t y xs p h
  find-replace t y (some x ∷ xs) p h =
      let ih = find-replace t y xs p in
      cases (t x) (λ e. cc) (λ e. let k = ih (cc) in cc)

  pub find-replace-other : (t u : A → Bool) (y : Option A) (xs : List (Option A)) →
      ((x : A) → t x ≡ true → u x ≡ true → ⊥) → find u (y ∷ []) ≡ none → find u (replace t y xs) ≡ find u xs
  unfolding find replace
  find-replace-other t u y [] h n = refl
  find-replace-other t u y (none ∷ xs) h n = find-replace-other t u y xs h n
  find-replace-other t u y (some x ∷ xs) h n =
      let ih = find-replace-other t u y xs h n in
      cases (t x) (λ e. let f : u x ≡ false = cases (u x) (λ q. absurd (h x e q)) (λ q. q) in let k = skip y n in cc)
      (λ e. cc)
    where
      skip : (z : Option A) → find u (z ∷ []) ≡ none → find u (z ∷ xs) ≡ find u xs
      skip none k = refl
      skip (some w) k = let q = (find-cons-none u w [] k).0 in cc

  pub each-replace : (P : A → Type 0) (t : A → Bool) (y : Option A) (xs : List (Option A)) → Each P (y ∷ []) →
      Each P xs → Each P (replace t y xs)
  unfolding replace
  each-replace P t y [] p h = tt
  each-replace P t y (none ∷ xs) p h = each-replace P t y xs p h
  each-replace P t y (some x ∷ xs) p h =
      of-pick (Each P) (t x) (y ∷ xs) (some x ∷ replace t y xs) (λ e. put y p)
      (λ e. (h.0, each-replace P t y xs p h.1))
    where
      put : (z : Option A) → Each P (z ∷ []) → Each P (z ∷ xs)
      put none q = h.1
      put (some w) q = (q.0, h.1)

  pub length-replace : (t : A → Bool) (y : Option A) (xs : List (Option A)) → length (replace t y xs) ≡ length xs
  unfolding replace
  length-replace t y [] = refl
  length-replace t y (none ∷ xs) = ap suc (length-replace t y xs)
  length-replace t y (some x ∷ xs) =
      of-pick (λ (l : List (Option A)). length l ≡ suc (length xs)) (t x) (y ∷ xs) (some x ∷ replace t y xs) (λ e. refl)
      (λ e. ap suc (length-replace t y xs))

  -- DISTINCT
  find-replace-none : (t v : A → Bool) (y : Option A) (xs : List (Option A)) →
      ((x : A) → t x ≡ true → v x ≡ false → find v (y ∷ []) ≡ none) → find v xs ≡ none → find v (replace t y xs) ≡ none
  unfolding find replace
  find-replace-none t v y [] h n = refl
  find-replace-none t v y (none ∷ xs) h n = find-replace-none t v y xs h n
  find-replace-none t v y (some x ∷ xs) h n =
      let k = find-cons-none v x xs n in
      let ih = find-replace-none t v y xs h k.1 in
      of-pick (λ (l : List (Option A)). find v l ≡ none) (t x) (y ∷ xs) (some x ∷ replace t y xs)
      (λ e. put y (h x e k.0) k.1) (λ e. let q = k.0 in cc)
    where
      put : (z : Option A) → find v (z ∷ []) ≡ none → find v xs ≡ none → find v (z ∷ xs) ≡ none
      put none p q = q
      put (some w) p q = let f = (find-cons-none v w [] p).0 in cc

  -- a slot that is free, or has the name of what it takes the place of
  abbrev pub Heir : (A → A → Bool) → A → Option A → Type 0
  Heir u x none = Unit {0}
  Heir u x (some w) = (a : A) → (u w a ≡ u x a) × (u a w ≡ u a x)

  pub distinct-replace : (u : A → A → Bool) (t : A → Bool) (y : Option A) (xs : List (Option A)) →
      ((x : A) → t x ≡ true → Heir u x y) → distinct u xs ≡ true → distinct u (replace t y xs) ≡ true
  unfolding distinct replace find
  distinct-replace u t y [] h d = refl
  distinct-replace u t y (none ∷ xs) h d = distinct-replace u t y xs h d
  distinct-replace u t y (some x ∷ xs) h d =
      let n = not_some (find (u x) xs) (and_both d).0 in
      of-pick (λ (l : List (Option A)). distinct u l ≡ true) (t x) (y ∷ xs) (some x ∷ replace t y xs)
      (λ e. put y (h x e) n) (λ e. both-and (ap (λ (z : Option A). not (is_some z))
      (find-replace-none t (u x) y xs (λ w q f. pass y w (h w q) f) n)) (distinct-replace u t y xs h (and_both d).1))
    where
      put : (z : Option A) → Heir u x z → find (u x) xs ≡ none → distinct u (z ∷ xs) ≡ true
      put none k n = (and_both d).1
      put (some w) k n =
          both-and (ap (λ (z : Option A). not (is_some z)) (find_none (u w) (u x) xs (λ a q. sym (k a).0 ∙ q) n))
          (and_both d).1

      pass : (z : Option A) (w : A) → Heir u w z → u x w ≡ false → find (u x) (z ∷ []) ≡ none
      pass none w k f = refl
      pass (some v) w k f = let q = (k x).1 in cc
