-- Laws of parts of bytes and of the numbers in them, over the width. Assumes nothing.
use mathlib.Core.Path.{◌≡◌, refl, sym, ap, ◌∙◌}
use mathlib.Core.Bool.{Bool, true, false}
use mathlib.Core.List.{List, [], ◌∷◌, ◌++◌}
use Prim.Native.Nat.{ℕ, zero, suc, ◌+◌, ◌*◌, ◌/◌, ◌%◌, ◌^◌, ◌-◌, ◌≤◌, ◌<◌}
use native.Mathlib.Nat.{zero-add, suc-add, suc_inj, suc-ne-zero}
use native.Mathlib.Nat.{mul_assoc, pow-succ', mod-add-div, mod-lt}
use native.Mathlib.Omega.{arith}
use lib.Dec.{eqb}
use lib.ListN.{length, get_or, drop, length-drop}
use lib.Seq.{take-add, take-take, drop-drop, drop-cons, take_all, get_or-take, get_or-drop}
use Rattle.std.proofs.lemmas.Slice.{between_is}
use mir.Syntax.{w8}
use mir.Val.{Fits}
use borrow.Author.Tests.{eq-eqb, ne_eqb, eqb-true, eqb-false}
use Rattle.wire.specs.Choice.{◌and◌}
use Rattle.wire.specs.Bytes.{Bytes, same, are_zero, little, number_of, part, field}
use Rattle.wire.proofs.ChoiceLaws.{and_assoc}
use Rattle.wire.proofs.BytesLaws.{length_part}

-- BYTES: what is known of a lent slice, element by element, says that all are bytes
pub bytes-get_or : (bs : List ℕ) → ((i : ℕ) → get_or bs i 0 < 256) → Bytes bs
bytes-get_or [] h = tt
bytes-get_or (b ∷ bs) h = (h 0, bytes-get_or bs (λ i. h (suc i)))

-- and of an array
pub bytes-array : (bs : List ℕ) → ((i : ℕ) → Fits w8 (get_or bs i 0)) → Bytes bs
bytes-array bs h = bytes-get_or bs (λ i. (h i).fits)

-- PARTS
pub part-all : (n : ℕ) (bs : List ℕ) → length bs ≡ n → part 0 n bs ≡ bs
unfolding part
part-all n bs l = take_all n bs (omega arith)

pub part-split : (n m i : ℕ) (bs : List ℕ) → part i (n + m) bs ≡ part i n bs ++ part (i + n) m bs
unfolding part
part-split n m i bs = rw (take-add n m (drop i bs), drop-drop n i bs)

pub part-one : (i : ℕ) (bs : List ℕ) → i < length bs → part i 1 bs ≡ get_or bs i 0 ∷ []
unfolding part
part-one i bs h = rw (drop-cons bs i 0)

-- all from a place on
pub part-drop : (i : ℕ) (bs : List ℕ) → part i (length bs - i) bs ≡ drop i bs
unfolding part
part-drop i bs = take_all (length bs - i) (drop i bs) (omega (arith, length-drop i bs))

-- NUMBERS
pub number_of-append : (xs ys : List ℕ) → number_of (xs ++ ys) ≡ number_of xs + 256 ^ length xs * number_of ys
unfolding number_of
number_of-append [] ys = omega arith
number_of-append (x ∷ xs) ys =
    rw (number_of-append xs ys, pow-succ' 256 (length xs), mul_assoc 256 (256 ^ length xs) (number_of ys)) (omega arith)

-- a number of n + m bytes is read as its low n and then its high m
pub field-split : (n m i : ℕ) (bs : List ℕ) → i + n ≤ length bs
    → field i (n + m) bs ≡ field i n bs + 256 ^ n * field (i + n) m bs
unfolding field
field-split n m i bs h = rw (part-split n m i bs, number_of-append (part i n bs), length_part i n bs h)

pub field-one : (i : ℕ) (bs : List ℕ) → i < length bs → field i 1 bs ≡ get_or bs i 0
unfolding field number_of
field-one i bs h = rw (part-one i bs h) (omega arith)

pub ruleset one_byte = (field-one)

little-join : (n m a b : ℕ) → a < 256 ^ n → little (n + m) (a + 256 ^ n * b) ≡ little n a ++ little m b
unfolding little
little-join zero m a b h =
    let z : a + 1 * b ≡ b = omega arith in
    rw (zero-add m, z)
little-join (suc n) m a b h =
    let k : ℕ = 256 ^ n * b in
    let low : (a + 256 * k) % 256 ≡ a % 256 = omega arith in
    let high : (a + 256 * k) / 256 ≡ a / 256 + k = omega arith in
    let rest = little-join n m (a / 256) b (omega (arith, pow-succ' 256 n)) in
    rw (suc-add n m, pow-succ' 256 n, mul_assoc 256 (256 ^ n) b, low, high, rest)

pow_pos : (n : ℕ) → 0 < 256 ^ n
pow_pos zero = omega arith
pow_pos (suc n) =
    let h : 0 < 256 ^ n = pow_pos n in
    omega (arith, pow-succ' 256 n)

-- and stored as its low n and then its high m
pub little-split : (n m x : ℕ) → little (n + m) x ≡ little n (x % 256 ^ n) ++ little m (x / 256 ^ n)
little-split n m x =
    ap (little (n + m)) (sym (mod-add-div x (256 ^ n)))
    ∙ little-join n m (x % 256 ^ n) (x / 256 ^ n) (mod-lt x (pow_pos n))

-- A PART OF A PART, for a number and for a byte in it
pub part-part : (i n at m : ℕ) (bs : List ℕ) → i + n ≤ m → part i n (part at m bs) ≡ part (at + i) n bs
unfolding part
part-part i n at m bs h =
    rw (← between_is (drop at bs) i m, take-take n (m - i) (drop i (drop at bs)) (omega arith), drop-drop i at bs)

pub drop-part : (i at m : ℕ) (bs : List ℕ) → drop i (part at m bs) ≡ part (at + i) (m - i) bs
unfolding part
drop-part i at m bs = rw (← between_is (drop at bs) i m, drop-drop i at bs)

pub field-part : (i n at m : ℕ) (bs : List ℕ) → i + n ≤ m → field i n (part at m bs) ≡ field (at + i) n bs
unfolding field
field-part i n at m bs h = rw (part-part i n at m bs h)

pub byte-part : (i at m : ℕ) (bs : List ℕ) → i < m → get_or (part at m bs) i 0 ≡ get_or bs (at + i) 0
unfolding part
byte-part i at m bs h = rw (get_or-take m (drop at bs) i 0 h, get_or-drop at bs i 0)

-- TESTS
pub are_zero-append : (xs ys : List ℕ) → are_zero (xs ++ ys) ≡ (are_zero xs and are_zero ys)
unfolding are_zero ◌and◌
are_zero-append [] ys = refl
are_zero-append (x ∷ xs) ys = rw (are_zero-append xs ys, and_assoc (eqb x 0) (are_zero xs) (are_zero ys))

pub same-append : (xs ys us vs : List ℕ) → length xs ≡ length ys
    → same (xs ++ us) (ys ++ vs) ≡ (same xs ys and same us vs)
unfolding same ◌and◌
same-append [] [] us vs h = refl
same-append [] (y ∷ ys) us vs h = absurd (suc-ne-zero _ (sym h))
same-append (x ∷ xs) [] us vs h = absurd (suc-ne-zero _ h)
same-append (x ∷ xs) (y ∷ ys) us vs h =
    rw (same-append xs ys us vs (suc_inj h), and_assoc (eqb x y) (same xs ys) (same us vs))

-- bytes are the same, or zero, where the numbers in them are
eqb-digits : (x y m n : ℕ) → x < 256 → y < 256 → eqb (x + 256 * m) (y + 256 * n) ≡ (eqb x y and eqb m n)
unfolding ◌and◌
eqb-digits x y m n hx hy = by_cases (eqb x y) refl (eqb m n) refl where
  by_cases : (p : Bool) → eqb x y ≡ p → (q : Bool) → eqb m n ≡ q → eqb (x + 256 * m) (y + 256 * n) ≡ (p and q)
  by_cases true e true f = eq-eqb (x + 256 * m) (y + 256 * n) (omega (arith, eqb-true x y e, eqb-true m n f))
  by_cases true e false f = ne_eqb (x + 256 * m) (y + 256 * n) (λ g. eqb-false m n f (omega arith))
  by_cases false e q f = ne_eqb (x + 256 * m) (y + 256 * n) (λ g. eqb-false x y e (omega arith))

pub same-number : (xs ys : List ℕ) → length xs ≡ length ys → Bytes xs → Bytes ys
    → same xs ys ≡ eqb (number_of xs) (number_of ys)
unfolding same number_of
same-number [] [] l h k = refl
same-number [] (y ∷ ys) l h k = absurd (suc-ne-zero _ (sym l))
same-number (x ∷ xs) [] l h k = absurd (suc-ne-zero _ l)
same-number (x ∷ xs) (y ∷ ys) l h k =
    let t : same xs ys ≡ eqb (number_of xs) (number_of ys) = same-number xs ys (suc_inj l) h.1 k.1 in
    rw t (sym (eqb-digits x y (number_of xs) (number_of ys) h.0 k.0))

pub are_zero-number : (xs : List ℕ) → Bytes xs → are_zero xs ≡ eqb (number_of xs) 0
unfolding are_zero number_of
are_zero-number [] h = refl
are_zero-number (x ∷ xs) h =
    let t : are_zero xs ≡ eqb (number_of xs) 0 = are_zero-number xs h.1 in
    rw t (sym (eqb-digits x 0 (number_of xs) 0 h.0 (omega arith)))
