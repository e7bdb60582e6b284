-- Tests and choices that every layer uses. `_and_` and `_or_` stay shut, so that a law finds their arguments.
use Rattle.std.specs.Prelude.{Bool, true, false, List, [], ◌∷◌, ℕ, leb, eqb}
use Rattle.std.proofs.Math.Option.{Option, none, some}

infixl 30 ◌or◌
infixl 35 ◌and◌
unfoldable pub ◌and◌ : Bool → Bool → Bool
true and b = b
false and b = false

unfoldable pub ◌or◌ : Bool → Bool → Bool
true or b = true
false or b = b

abbrev pub pick : {A : Type 0} → Bool → A → A → A
pick true x y = x
pick false x y = y

abbrev pub is_some : {A : Type 0} → Option A → Bool
is_some none = false
is_some (some x) = true

abbrev pub is_in : (low high x : ℕ) → Bool
is_in a b x = leb a x and leb x b

-- the first of a list that has a number, by a numbering; none where no one has it
unfoldable pub with_number : {A : Type 0} → (A → ℕ) → (number : ℕ) → List A → Option A
with_number f n [] = none
with_number f n (x ∷ xs) = pick (eqb n (f x)) (some x) (with_number f n xs)
