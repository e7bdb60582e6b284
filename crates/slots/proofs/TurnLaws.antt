-- Laws of a scan of a table's slots, turn by turn. In each, after i turns the answer for all slots is the answer for
-- those that are left. Assumes nothing.
use mathlib.Core.Path.{◌≡◌, refl, sym, ap, ◌∙◌}
use mathlib.Core.Bool.{Bool, true, false}
use mathlib.Core.List.{List}
use mathlib.Core.Option.{Option}
use Prim.Native.Nat.{ℕ, zero, suc, ◌+◌, ◌-◌, ◌≤◌, ◌<◌}
use native.Mathlib.Nat.{add-zero}
use native.Mathlib.Numerals.{add-one}
use native.Mathlib.Omega.{arith}
use lib.Dec.{ltb}
use lib.ListN.{length}
use borrow.Author.Tests.{ltb-true, ltb-false}
use Rattle.wire.proofs.ChoiceLaws.{cases}
use Rattle.wire.proofs.BytesLaws.{pieces-turn, pieces_end}
use Rattle.std.specs.Prelude.{Option as Found, Some, None, MatchOption}
use Rattle.slots.specs.Limits.{channel_limit}
use Rattle.slots.specs.Table.{in_order, precedes}
use Rattle.slots.specs.Layout.{header_size, slot_size, records_from, size_for, room_in}
use Rattle.slots.specs.Layout.{channel_in, record_in, slot_in, store_in}
use Rattle.slots.specs.Scan.{index_where, slot_at, table_from, RecordsInOrder}

-- the tables of a store are all their slots
pub channels-from : (bs : List ℕ) →
    (store_in bs).channels ≡ table_from channel_in header_size channel_limit bs 0
unfolding store_in
channels-from bs = refl

pub records-from : (n : ℕ) (bs : List ℕ) → length bs ≡ size_for n →
    (store_in bs).records ≡ table_from record_in records_from n bs 0
unfolding store_in room_in
records-from n bs l = let r : room_in (length bs) ≡ n - 0 = omega arith in rw r

pub order-from : (n : ℕ) (bs : List ℕ) → RecordsInOrder bs n →
    in_order precedes (table_from record_in records_from n bs 0) ≡ true
order-from n bs h = ap (in_order precedes) (sym (records-from n bs h.size)) ∙ h.order

-- THE FIRST SLOT that passes a test, which came to r
module _ {A : Type 0} (g : List ℕ → A) (t : Option A → Bool) (start n : ℕ) (bs : List ℕ) where
  abbrev pub first_from : (i : ℕ) → Found ℕ
  first_from i = index_where t i (table_from g start n bs i)

  module _ (i : ℕ) {all : Found ℕ} (left : all ≡ first_from i) where
    module _ {r : Bool} (more : i < n) (tested : r ≡ t (slot_in g (slot_at start bs i))) where
      pub found : r ≡ true → Some i ≡ all
      unfolding index_where
      found h = let f = sym tested ∙ h in rw (left, pieces-turn slot_size start n bs i more, f)

      pub missed : r ≡ false → all ≡ first_from (i + 1)
      unfolding index_where
      missed h = let f = sym tested ∙ h in rw (left, pieces-turn slot_size start n bs i more, f, add-one i)

    pub nothing : n ≤ i → None ≡ all
    unfolding index_where
    nothing h = rw (left, pieces_end slot_size start n bs i h)

-- AN ITERATOR over the indices from one on finds the first that passes
module _ {A : Type 0} (g : List ℕ → A) (t : Option A → Bool) (start n : ℕ) (bs : List ℕ) (from : ℕ) where
  abbrev pub Tests : Bool → (i : ℕ) → Type 0
  Tests r i = t (slot_in g (slot_at start bs i)) ≡ r

  passed-over : (m : ℕ) → from + m ≤ n → ((k : ℕ) → from ≤ k → k < from + m → Tests false k) →
      first_from g t start n bs from ≡ first_from g t start n bs (from + m)
  passed-over zero l h = ap (first_from g t start n bs) (sym (add-zero from))
  passed-over (suc m) l h =
      let e : from + m + 1 ≡ from + suc m = omega arith in
      missed g t start n bs (from + m) (passed-over m (omega arith) (λ k p q. h k p (omega arith))) (omega arith) refl
      (h (from + m) (omega arith) (omega arith)) ∙ ap (first_from g t start n bs) e

  over : (i : ℕ) → from ≤ i → i ≤ n → ((k : ℕ) → from ≤ k → k < i → Tests false k) →
      first_from g t start n bs from ≡ first_from g t start n bs i
  over i p q h =
      let e : from + (i - from) ≡ i = omega arith in
      passed-over (i - from) (omega arith) (λ k a b. h k a (omega arith)) ∙ ap (first_from g t start n bs) e

  pub first-in : (r : Found ℕ) → MatchOption r ((k : ℕ) → from ≤ k → k < n → Tests false k)
      (λ i. (from ≤ i) × (i < n) × Tests true i × ((k : ℕ) → from ≤ k → k < i → Tests false k)) →
      r ≡ first_from g t start n bs from
  first-in (Some i) h = found g t start n bs i (over i h.0 (omega (arith, h.1)) h.3) h.1 refl h.2
  first-in None h =
      cases (ltb n from) (λ e. nothing g t start n bs from refl (omega (arith, ltb-true n from e)))
      (λ e. nothing g t start n bs n (over n (omega (arith, ltb-false n from e)) (omega arith) h) (omega arith))
