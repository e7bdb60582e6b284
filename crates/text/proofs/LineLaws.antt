-- Laws of lines: how long they are, and what the digits of a number are. Assumes nothing.
use mathlib.Core.Path.{◌≡◌, refl, ap, subst}
use mathlib.Core.Bool.{Bool, true, false}
use mathlib.Core.List.{List, [], ◌∷◌, ◌++◌}
use Prim.Native.Nat.{ℕ, zero, suc, ◌+◌, ◌*◌, ◌-◌, ◌/◌, ◌%◌, ◌^◌, ◌≤◌, ◌<◌}
use native.Mathlib.Nat.{pow-succ'}
use native.Mathlib.Omega.{arith}
use lib.Dec.{ltb, leb, lit≤}
use lib.ListN.{length, length-append}
use borrow.Author.Tests.{lt-ltb, le-ltb, leb-true, leb-false}
use Rattle.io.specs.Digits.{last_digits, IsDigitCount}
use Rattle.wire.proofs.ChoiceLaws.{of-pick}
use Rattle.text.specs.Line.{decimal, decimal_of, tail_of, line_of}

-- NUMBERS
pub length-decimal : (k n : ℕ) → length (decimal k n) ≤ k
unfolding decimal
length-decimal zero n = omega arith
length-decimal (suc k) n =
    let last : List ℕ = (48 + n % 10) ∷ [] in
    let l = length-append (decimal k (n / 10)) last in
    let h = length-decimal k (n / 10) in
    of-pick (λ (ds : List ℕ). length (ds ++ last) ≤ suc k) (ltb n 10) [] (decimal k (n / 10)) (λ _. omega arith)
    (λ _. omega arith)

pub length-tail : (n : ℕ) → length (tail_of n) ≤ 22
length-tail n =
    let l = length-append (decimal_of n) (10 ∷ []) in
    let h = length-decimal 20 n in
    omega arith

pow_pos : (k : ℕ) → 1 ≤ 10 ^ k
pow_pos zero = omega arith
pow_pos (suc k) =
    let h = pow_pos k in
    omega (arith, pow-succ' 10 k)

-- the fewest digits that hold a number are its decimal ones
pub digits_decimal : (k j n : ℕ) → k ≤ j → n < 10 ^ suc k → (1 ≤ k → 10 ^ k ≤ n)
    → last_digits 10 (suc k) n ≡ decimal (suc j) n
unfolding decimal
digits_decimal zero j n room below least =
    let one : n < 10 = omega arith in
    let g = lt-ltb n 10 one in
    let d = lt-ltb (n % 10) 10 (omega arith) in
    rw (g, d)
digits_decimal (suc k) zero n room below least = absurd (omega arith)
digits_decimal (suc k) (suc j) n room below least =
    let more : 10 * 10 ^ k ≤ n = rw (← pow-succ' 10 k) (least (omega arith)) in
    let p = pow_pos k in
    let g = le-ltb n 10 (omega arith) in
    let d = lt-ltb (n % 10) 10 (omega arith) in
    let up : n < 10 * 10 ^ suc k = rw (← pow-succ' 10 (suc k)) below in
    let ih = digits_decimal k j (n / 10) (omega arith) (omega arith) (λ h. omega arith) in
    rw (g, d, ih)

-- a number of 64 bits has at most 20
above : (k : ℕ) → 2 ^ 64 ≤ 10 ^ (k + 20)
above zero = lit≤ tt
above (suc k) =
    let h = above k in
    let e : suc k + 20 ≡ suc (k + 20) = omega arith in
    rw (e, pow-succ' 10 (k + 20)) (omega arith)

pub fewest-room : (n k : ℕ) → n < 2 ^ 64 → IsDigitCount 10 1 n k → k ≤ 20
fewest-room n k h f = by-test (leb k 20) refl where
  by-test : (b : Bool) → leb k 20 ≡ b → k ≤ 20
  by-test true e = leb-true k 20 e
  by-test false e =
      let more : 20 < k = omega (arith, leb-false k 20 e) in
      let up : 10 ^ (k - 1) ≤ n = f.2 (omega arith) in
      let split : k - 1 ≡ (k - 21) + 20 = omega arith in
      let wide = above (k - 21) in
      absurd (omega (arith, ap (λ (m : ℕ). 10 ^ m) split))

pub fewest-decimal : (n k : ℕ) → k ≤ 20 → IsDigitCount 10 1 n k → last_digits 10 k n ≡ decimal_of n
fewest-decimal n zero room f = absurd (omega (arith, f.0))
fewest-decimal n (suc k) room f =
    let e : suc k - 1 ≡ k = omega arith in
    digits_decimal k 19 n (omega arith) f.1 (λ h. subst (λ (m : ℕ). 10 ^ m ≤ n) e (f.2 (omega arith)))

pub length-line : (w : List ℕ) (n : ℕ) → length (line_of w n) ≤ length w + 22
length-line w n =
    let l = length-append w (tail_of n) in
    let h = length-tail n in
    omega arith
