-- Laws of a table by the indices of its slots: what a look-up finds, and a test of every slot. Assumes nothing.
use mathlib.Core.Path.{◌≡◌, sym, ap, subst, ◌∙◌}
use mathlib.Core.Bool.{Bool, true, false}
use mathlib.Core.List.{List, [], ◌∷◌}
use mathlib.Core.Option.{Option, none, some}
use Prim.Native.Nat.{ℕ, zero, suc, ◌+◌, ◌≤◌, ◌<◌}
use native.Mathlib.Omega.{arith}
use lib.Dec.{ltb}
use lib.ListN.{length, get_or}
use borrow.Author.Tests.{ltb-true, ltb-false}
use Rattle.wire.specs.Choice.{is_some}
use Rattle.wire.specs.Bytes.{are_zero}
use Rattle.wire.proofs.ChoiceLaws.{cases, and_both, both-and, some_is}
use Rattle.wire.proofs.BytesLaws.{pieces-turn, pieces_end}
use Rattle.slots.specs.Table.{find}
use Rattle.slots.specs.Layout.{slot_size, slot_in}
use Rattle.slots.specs.Scan.{slot_at, slots_from}
use Rattle.front.specs.EverySlot.{every_slot}
use Rattle.front.proofs.EverySlotLaws.{every_from}

-- a slot in use, and one that is free
pub slot-some : {A : Type 0} (g : List ℕ → A) (p : List ℕ) → are_zero p ≡ false → slot_in g p ≡ some (g p)
unfolding slot_in
slot-some g p h = rw h

pub slot-none : {A : Type 0} (g : List ℕ → A) (p : List ℕ) → are_zero p ≡ true → slot_in g p ≡ none
unfolding slot_in
slot-none g p h = rw h

-- a slot does not both hold an entry and stand free
pub not_none : {A B : Type 0} {x : A} → some x ≡ none → B
not_none h = let z : ◌≡◌ {A = ℕ} 0 1 = cc in absurd (omega arith)

module _ {A : Type 0} where
  -- LOOKED UP
  pub index-find : (t : A → Bool) (xs : List (Option A)) (k : ℕ) (x : A) → get_or xs k none ≡ some x → t x ≡ true →
      is_some (find t xs) ≡ true
  unfolding find
  index-find t [] k x e h = not_none (sym e)
  index-find t (none ∷ xs) zero x e h = not_none (sym e)
  index-find t (none ∷ xs) (suc k) x e h = index-find t xs k x e h
  index-find t (some y ∷ xs) zero x e h = let z = ap t (some_is e) ∙ h in rw z
  index-find t (some y ∷ xs) (suc k) x e h =
      let ih = index-find t xs k x e h in
      cases (t y) (λ q. rw q) (λ q. rw q ih)

  pub find-index : (t : A → Bool) (xs : List (Option A)) (x : A) → find t xs ≡ some x →
      (k : ℕ) × (k < length xs) × (get_or xs k none ≡ some x)
  unfolding find
  find-index t [] x e = not_none (sym e)
  find-index t (none ∷ xs) x e = let q = find-index t xs x e in (suc q.0, omega (arith, q.1), q.2)
  find-index t (some y ∷ xs) x e =
      let ih = find-index t xs x in
      cases (t y) (λ q. (0, omega arith, cc))
      (λ q. let w = ih (cc) in (suc w.0, omega (arith, w.1), w.2))

-- EVERY SLOT of a table in the bytes
module _ (t : List ℕ → List (List ℕ) → Bool) (start n : ℕ) (bs : List ℕ) where
  every-from : (d i : ℕ) → i + d ≡ n → every_from t start n bs i ≡ true → (k : ℕ) → i ≤ k → k < n →
      t (slot_at start bs k) (slots_from start n bs (k + 1)) ≡ true
  unfolding every_slot
  every-from zero i l h k a b = absurd (omega arith)
  every-from (suc d) i l h k a b =
      let both = and_both (ap (every_slot t) (sym (pieces-turn slot_size start n bs i (omega arith))) ∙ h) in
      let ih = every-from d (i + 1) (omega arith) both.1 k in
      cases (ltb i k) (λ m. ih (let o = ltb-true i k m in omega arith) b)
      (λ m.
      let z : i ≡ k = (let o = ltb-false i k m in omega arith) in
      subst (λ (x : ℕ). t (slot_at start bs x) (slots_from start n bs (x + 1)) ≡ true) z both.0)

  pub every-index : every_from t start n bs 0 ≡ true → (k : ℕ) → k < n →
      t (slot_at start bs k) (slots_from start n bs (k + 1)) ≡ true
  every-index h k l = every-from n 0 (omega arith) h k (omega arith) l

  all_from : ((k : ℕ) → k < n → t (slot_at start bs k) (slots_from start n bs (k + 1)) ≡ true) → (d i : ℕ) → i + d ≡ n →
      every_from t start n bs i ≡ true
  unfolding every_slot
  all_from h zero i l = ap (every_slot t) (pieces_end slot_size start n bs i (omega arith))
  all_from h (suc d) i l =
      ap (every_slot t) (pieces-turn slot_size start n bs i (omega arith)) ∙
      both-and (h i (omega arith)) (all_from h d (i + 1) (omega arith))

  pub index-every : ((k : ℕ) → k < n → t (slot_at start bs k) (slots_from start n bs (k + 1)) ≡ true) →
      every_from t start n bs 0 ≡ true
  index-every h = all_from h n 0 (omega arith)
