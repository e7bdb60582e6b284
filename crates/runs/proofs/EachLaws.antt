-- Laws of tests of indices. Assumes nothing.
use mathlib.Core.Path.{◌≡◌, refl, sym, ap, ◌∙◌}
use mathlib.Core.Bool.{Bool, true, false}
use Prim.Native.Nat.{ℕ, zero, suc, ◌+◌, ◌-◌, ◌≤◌, ◌<◌}
use native.Mathlib.Omega.{arith}
use lib.Dec.{eqb}
use borrow.Author.Tests.{eqb-true, eqb-false}
use Rattle.wire.specs.Choice.{◌and◌, ◌or◌}
use Rattle.wire.proofs.ChoiceLaws.{cases, clash, and_both, both-and, and-swap, and-true}
use Rattle.runs.specs.Each.{each, any}

-- EACH
pub each_all : (t : ℕ → Bool) (i n : ℕ) → ((k : ℕ) → i ≤ k → k < i + n → t k ≡ true) → each t i n ≡ true
unfolding each
each_all t i zero h = refl
each_all t i (suc n) h =
    both-and (h i (omega arith) (omega arith)) (each_all t (suc i) n (λ k l m. h k (omega arith) (omega arith)))

pub each_at : (t : ℕ → Bool) (i n : ℕ) → each t i n ≡ true → (k : ℕ) → i ≤ k → k < i + n → t k ≡ true
unfolding each
each_at t i zero h k l m = absurd (omega arith)
each_at t i (suc n) h k l m =
    let ih = each_at t (suc i) n (and_both h).1 in
    cases (eqb i k) (λ e. ap t (sym (eqb-true i k e)) ∙ (and_both h).0)
    (λ e. ih k (omega (arith, eqb-false i k e)) (omega arith))

pub each-fails : (t : ℕ → Bool) (i n k : ℕ) → i ≤ k → k < i + n → t k ≡ false → each t i n ≡ false
each-fails t i n k l m h = cases (each t i n) (λ e. clash (each_at t i n e k l m) h) (λ e. e)

pub each-alike : (t u : ℕ → Bool) (i n : ℕ) → ((k : ℕ) → i ≤ k → k < i + n → t k ≡ u k) → each t i n ≡ each u i n
unfolding each
each-alike t u i zero h = refl
each-alike t u i (suc n) h =
    let ih = each-alike t u (suc i) n (λ k l m. h k (omega arith) (omega arith)) in
    rw (h i (omega arith) (omega arith), ih)

-- two tests
pub each_both : (t u : ℕ → Bool) (i n : ℕ) → each (λ k. t k and u k) i n ≡ (each t i n and each u i n)
unfolding each
each_both t u i zero = sym (and-true true)
each_both t u i (suc n) = rw (each_both t u (suc i) n) (and-swap (t i) (u i) (each t (suc i) n) (each u (suc i) n))

-- a test that does not look at the index
pub each_same : (b : Bool) (i n : ℕ) → 0 < n → each (λ k. b) i n ≡ b
each_same b i n l =
    cases b (λ e. each_all (λ k. b) i n (λ k a c. e) ∙ sym e)
    (λ e. each-fails (λ k. b) i n i (omega arith) (omega arith) e ∙ sym e)

-- ANY
pub any_at : (t : ℕ → Bool) (n m : ℕ) → m < n → t m ≡ true → any t n ≡ true
unfolding any ◌or◌
any_at t zero m l h = absurd (omega arith)
any_at t (suc n) m l h =
    let ih = any_at t n m in
    cases (t n) (λ e. rw e)
    (λ e. rw (
      e,
      ih (cases (eqb m n) (λ q. clash (ap t (sym (eqb-true m n q)) ∙ h) e)
          (λ q. omega (arith, eqb-false m n q))) h,
    ))

pub any_none : (t : ℕ → Bool) (n : ℕ) → ((m : ℕ) → m < n → t m ≡ false) → any t n ≡ false
unfolding any ◌or◌
any_none t zero h = refl
any_none t (suc n) h = rw (h n (omega arith), any_none t n (λ m l. h m (omega arith)))

or_right : {a b : Bool} → a ≡ false → (a or b) ≡ true → b ≡ true
unfolding ◌or◌
or_right e h = cc

pub any_some : (t : ℕ → Bool) (n : ℕ) → any t n ≡ true → (m : ℕ) × (m < n) × (t m ≡ true)
unfolding any
any_some t zero h = clash {b = false} h refl
any_some t (suc n) h =
    let ih = any_some t n in
    cases (t n) (λ e. (n, omega arith, e)) (λ e. let q = ih (or_right e h) in (q.0, omega (arith, q.1), q.2))

-- A LOOP over the indices from i up to e: those before k passed
module _ (t : ℕ → Bool) (i : ℕ) where
  abbrev pub Up : (k : ℕ) → Type 0
  Up k = (i ≤ k) × ((m : ℕ) → i ≤ m → m < k → t m ≡ true)

  pub up_none : Up i
  up_none = (omega arith, λ m l n. absurd (omega arith))

  pub up_more : (k : ℕ) → Up k → t k ≡ true → Up (k + 1)
  up_more k (l, h) p = (
    omega arith,
    λ m a b.
        cases (eqb m k) (λ e. ap t (eqb-true m k e) ∙ p) (λ e. h m a (omega (arith, eqb-false m k e))),
  )

  pub up-all : (e k : ℕ) → Up k → e ≤ k → i ≤ e → true ≡ each t i (e - i)
  up-all e k (l, h) r n = sym (each_all t i (e - i) (λ m a b. h m a (omega arith)))

  pub up-fails : (e k : ℕ) → Up k → k < e → t k ≡ false → false ≡ each t i (e - i)
  up-fails e k (l, h) r p = sym (each-fails t i (e - i) k l (omega arith) p)
