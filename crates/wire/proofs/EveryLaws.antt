-- Laws of `Every`, whatever the elements and the property are. Assumes nothing.
use Rattle.wire.proofs.Prelude.{List, [], ◌∷◌, ◌++◌, ℕ, zero, suc, get_or, take, drop, replicate}
use Rattle.wire.specs.Names.{Every}

module _ {A : Type 0} where
  pub every_map : {P Q : A → Type 0} → ((x : A) → P x → Q x) → (xs : List A) → Every P xs → Every Q xs
  every_map f [] h = tt
  every_map f (x ∷ xs) h = (f x h.0, every_map f xs h.1)

  module _ (P : A → Type 0) where
    pub every_of : ((x : A) → P x) → (xs : List A) → Every P xs
    every_of f [] = tt
    every_of f (x ∷ xs) = (f x, every_of f xs)

    pub every_append : (xs ys : List A) → Every P xs → Every P ys → Every P (xs ++ ys)
    every_append [] ys h k = k
    every_append (x ∷ xs) ys h k = (h.0, every_append xs ys h.1 k)

    pub every_take : (n : ℕ) (xs : List A) → Every P xs → Every P (take n xs)
    every_take zero xs h = tt
    every_take (suc n) [] h = tt
    every_take (suc n) (x ∷ xs) h = (h.0, every_take n xs h.1)

    pub every_drop : (n : ℕ) (xs : List A) → Every P xs → Every P (drop n xs)
    every_drop zero xs h = h
    every_drop (suc n) [] h = h
    every_drop (suc n) (x ∷ xs) h = every_drop n xs h.1

    pub every-replicate : (n : ℕ) (x : A) → P x → Every P (replicate n x)
    every-replicate zero x h = tt
    every-replicate (suc n) x h = (h, every-replicate n x h)

    pub every-get_or : (xs : List A) (i : ℕ) (d : A) → P d → Every P xs → P (get_or xs i d)
    every-get_or [] i d p h = p
    every-get_or (x ∷ xs) zero d p h = h.0
    every-get_or (x ∷ xs) (suc i) d p h = every-get_or xs i d p h.1
