-- Laws of bytes and of the numbers in them, for every width. Assumes nothing.
use Rattle.wire.proofs.Prelude.{◌≡◌, refl, ap, ◌∙◌, true, false, List, [], ◌∷◌, ℕ, zero, suc, ◌+◌, ◌*◌, ◌/◌, ◌^◌}
use Rattle.wire.proofs.Prelude.{◌-◌, ◌≤◌, ◌<◌, arith, length, take, drop, replicate, length-take, length-drop}
use Rattle.wire.proofs.Prelude.{eqb-true, eq-eqb}
use lib.Seq.{drop-drop}
use Rattle.wire.specs.Names.{Every, Bytes, same, little, number_of, part, field, pieces}
use Rattle.wire.proofs.ChoiceLaws.{and_both, both-and, clash}
use Rattle.wire.proofs.EveryLaws.{every_take, every_drop, every-replicate}

-- what each byte is, for the laws of `Every`
abbrev pub Byte : ℕ → Type 0
Byte b = b < 256

-- SAME
pub same-eq : (xs ys : List ℕ) → same xs ys ≡ true → xs ≡ ys
unfolding same
same-eq [] [] h = refl
same-eq [] (y ∷ ys) h = clash {b = false} h refl
same-eq (x ∷ xs) [] h = clash {b = false} h refl
same-eq (x ∷ xs) (y ∷ ys) h =
    let e = eqb-true x y (and_both h).0 in
    let ih = same-eq xs ys (and_both h).1 in
    cc

pub eq-same : (xs : List ℕ) → same xs xs ≡ true
unfolding same
eq-same [] = refl
eq-same (x ∷ xs) = both-and (eq-eqb x x refl) (eq-same xs)

-- NUMBERS
pub read-little : (n x : ℕ) → x < 256 ^ n → number_of (little n x) ≡ x
unfolding little number_of
read-little zero x h = let z : x < 1 = h in omega arith
read-little (suc n) x h =
    let z : x / 256 < 256 ^ n = omega arith in
    let q = read-little n (x / 256) z in
    omega arith

pub length-little : (n x : ℕ) → length (little n x) ≡ n
unfolding little
length-little zero x = refl
length-little (suc n) x = ap suc (length-little n (x / 256))

pub bytes-little : (n x : ℕ) → Bytes (little n x)
unfolding little
bytes-little zero x = tt
bytes-little (suc n) x = (omega arith, bytes-little n (x / 256))

pub bytes-zeros : (n : ℕ) → Bytes (replicate n 0)
bytes-zeros n = every-replicate Byte n 0 (omega arith)

take_below : (n : ℕ) (bs : List ℕ) → Bytes bs → number_of (take n bs) < 256 ^ n
unfolding number_of
take_below zero bs h = omega arith
take_below (suc n) [] h = let q = take_below n [] h in omega arith
take_below (suc n) (b ∷ bs) h =
    let q = take_below n bs h.1 in
    let p : b < 256 = h.0 in
    omega arith

-- PARTS
pub field_below : (i n : ℕ) (bs : List ℕ) → Bytes bs → field i n bs < 256 ^ n
unfolding field part
field_below i n bs h = take_below n (drop i bs) (every_drop Byte i bs h)

pub length_part : (i n : ℕ) (bs : List ℕ) → i + n ≤ length bs → length (part i n bs) ≡ n
unfolding part
length_part i n bs h = length-take n (drop i bs) ∙ omega (arith, length-drop i bs)

pub bytes-part : (i n : ℕ) (bs : List ℕ) → Bytes bs → Bytes (part i n bs)
unfolding part
bytes-part i n bs h = every_take Byte n (drop i bs) (every_drop Byte i bs h)

-- PIECES
pub length-pieces : (k n : ℕ) (bs : List ℕ) → length (pieces k n bs) ≡ n
unfolding pieces
length-pieces k zero bs = refl
length-pieces k (suc n) bs = ap suc (length-pieces k n (drop k bs))

pub every-pieces : (k n : ℕ) (bs : List ℕ) → k * n ≤ length bs → Bytes bs →
    Every (λ p. (length p ≡ k) × Bytes p) (pieces k n bs)
unfolding pieces
every-pieces k zero bs l h = tt
every-pieces k (suc n) bs l h =
    let a : k + k * n ≤ length bs = omega arith in
    let b : k * n ≤ length (drop k bs) = omega (arith, length-drop k bs) in
    let p : (length (take k bs) ≡ k) × Bytes (take k bs) = (length-take k bs ∙ omega arith, every_take Byte k bs h) in
    (p, every-pieces k n (drop k bs) b (every_drop Byte k bs h))

-- a turn of a loop over n pieces from a place on takes the next of those that are left
module _ (k start n : ℕ) (bs : List ℕ) (i : ℕ) where
  pub pieces-turn : i < n → pieces k (n - i) (drop (start + k * i) bs) ≡
      part (start + k * i) k bs ∷ pieces k (n - (i + 1)) (drop (start + k * (i + 1)) bs)
  unfolding pieces part
  pieces-turn h =
      let m : n - i ≡ suc (n - (i + 1)) = omega arith in
      let z : start + k * i + k ≡ start + k * (i + 1) = omega arith in
      rw (m, drop-drop k (start + k * i) bs, z)

  pub pieces_end : n ≤ i → pieces k (n - i) (drop (start + k * i) bs) ≡ []
  unfolding pieces
  pieces_end h = let z : n - i ≡ 0 = omega arith in rw z
