-- An iterator over a range of indices, asked whether all pass a test: said of the indices, and of no list of them.
-- Assumes nothing.
use mathlib.Core.Path.{◌≡◌, refl, subst, ◌∙◌}
use mathlib.Core.Bool.{Bool, true, false}
use mathlib.Core.List.{List}
use Prim.Native.Nat.{ℕ, ◌+◌, ◌-◌, ◌≤◌, ◌<◌}
use native.Mathlib.Omega.{arith}
use lib.ListN.{length, get_or}
use denote.Param.Members.{Mut}
use Rattle.std.specs.Prelude.{Option}
use Rattle.std.specs.Bool.{MatchBool}
use Rattle.std.specs.Fn.{Called}
use Rattle.std.specs.Iterator.{YieldsThen}
use Rattle.std.specs.List.{FoldsTo, range_with_len, AllWithin, HoldsAt}
use Rattle.std.specs.Option.{MatchOption}
use Rattle.std.specs.declared.ops.Range.{Range}
use Rattle.std.proofs.iter.Yields.{nat_range_steps}
use Rattle.std.proofs.lemmas.Iterator.{YieldsList-from_range, cases_from_all}
use Rattle.std.proofs.lemmas.List.FromFn.{length-range_with_len, get_or-range_with_len}

pub all_from_range : {F : Type 0} {g : Mut F (ℕ × Unit {0}) Bool} (s u : Range ℕ) (f : F) (r : Bool)
    (Yes No : ℕ → Type 0) →
    (xs : List ℕ) × (o : Option ℕ) × (j : F) × YieldsThen nat_range_steps s xs o u ×
    FoldsTo (λ p x q. Called g p (x, tt) true q) f xs j ×
    MatchOption o (r ≡ true) (λ x. (r ≡ false) × ((h : F) × Called g j (x, tt) false h)) →
    ((x : ℕ) (q : F) → Called g f (x, tt) true q → (q ≡ f) × Yes x) →
    ((x : ℕ) (q : F) → Called g f (x, tt) false q → No x) →
    MatchBool r ((k : ℕ) → s.start ≤ k → k < s.end → Yes k)
    ((k : ℕ) × (s.start ≤ k) × (k < s.end) × No k)
all_from_range s u f r Yes No d yes' no' =
    by r (cases_from_all u f r Yes No d (YieldsList-from_range s.start s.end _ refl refl) yes' no')
  where
    all : List ℕ
    all = range_with_len s.start (s.end - s.start)

    long : length all ≡ s.end - s.start
    long = length-range_with_len s.start (s.end - s.start)

    at : (k j : ℕ) → s.start + j ≡ k → j < length all → get_or all j 0 ≡ k
    at k j e l = get_or-range_with_len s.start (s.end - s.start) j 0 (omega (arith, long)) ∙ e

    by : (b : Bool) → MatchBool b (AllWithin Yes all 0 (length all)) ((k : ℕ) × (k < length all) × HoldsAt No all k) →
        MatchBool b ((k : ℕ) → s.start ≤ k → k < s.end → Yes k) ((k : ℕ) × (s.start ≤ k) × (k < s.end) × No k)
    by true h = λ k p q.
        subst Yes (at k (k - s.start) (omega arith) (omega (arith, long))) (h (k - s.start) 0 (omega arith) (omega (arith, long)))
    by false h =
        (s.start + h.0, omega arith, omega (arith, long, h.1), subst No (at (s.start + h.0) h.0 refl h.1) (h.2 0))
