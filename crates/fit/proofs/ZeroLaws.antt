-- Laws of zero bytes behind the records in use. Assumes nothing.
use mathlib.Core.Path.{◌≡◌, refl, sym, ap, ◌∙◌}
use mathlib.Core.Bool.{true}
use mathlib.Core.List.{List}
use Prim.Native.Nat.{ℕ, zero, suc, ◌+◌, ◌*◌, ◌-◌, ◌≤◌, ◌<◌}
use native.Mathlib.Omega.{arith}
use borrow.Author.Tests.{eqb-true}
use Rattle.wire.specs.Bytes.{Bytes, are_zero, part, field}
use Rattle.wire.proofs.ChoiceLaws.{cases, and_both, both-and}
use Rattle.slots.specs.Layout.{slot_size, records_from}
use Rattle.slots.specs.Scan.{slot_at}
use Rattle.runs.specs.Run.{key_at}
use Rattle.runs.proofs.RunLaws.{sequence-at, zero-split, zero_number}
use Rattle.fit.proofs.FittingLaws.{Taken}

-- ZERO BYTES: a part of them, and slots of them
zero-part : (x l y a : ℕ) (bs : List ℕ) → are_zero (part a (x + (l + y)) bs) ≡ true → are_zero (part (a + x) l bs) ≡ true
zero-part x l y a bs h =
    (and_both (sym (zero-split l y (a + x) bs) ∙ (and_both (sym (zero-split x (l + y) a bs) ∙ h)).1)).0

pub zero-slot : (bs : List ℕ) (n i k : ℕ) → i ≤ k → k < n →
    are_zero (part (records_from + slot_size * i) (slot_size * (n - i)) bs) ≡ true →
    are_zero (slot_at records_from bs k) ≡ true
zero-slot bs n i k l m h =
    let s : slot_size * (n - i) ≡ slot_size * (k - i) + (slot_size + slot_size * (n - (k + 1))) = omega arith in
    let a : records_from + slot_size * i + slot_size * (k - i) ≡ records_from + slot_size * k = omega arith in
    ap (λ (x : ℕ). are_zero (part x slot_size bs)) (sym a) ∙
    zero-part (slot_size * (k - i)) slot_size (slot_size * (n - (k + 1))) (records_from + slot_size * i) bs
    (ap (λ (x : ℕ). are_zero (part (records_from + slot_size * i) x bs)) (sym s) ∙ h)

pub slots-zero : (bs : List ℕ) (d i : ℕ) → ((k : ℕ) → i ≤ k → k < i + d → are_zero (slot_at records_from bs k) ≡ true) →
    are_zero (part (records_from + slot_size * i) (slot_size * d) bs) ≡ true
unfolding are_zero part
slots-zero bs zero i h = refl
slots-zero bs (suc d) i h =
    let s : slot_size * suc d ≡ slot_size + slot_size * d = omega arith in
    let a : records_from + slot_size * (i + 1) ≡ records_from + slot_size * i + slot_size = omega arith in
    let ih = slots-zero bs d (i + 1) (λ k l m. h k (omega arith) (omega arith)) in
    ap (λ (x : ℕ). are_zero (part (records_from + slot_size * i) x bs)) s ∙
    zero-split slot_size (slot_size * d) (records_from + slot_size * i) bs ∙
    both-and (h i (omega arith) (omega arith)) (ap (λ (x : ℕ). are_zero (part x (slot_size * d) bs)) (sym a) ∙ ih)

-- a slot whose sequence is not 0 is in use
pub sequence-taken : (bs : List ℕ) → Bytes bs → (k : ℕ) → 0 < (key_at bs k).sequence → Taken bs k
sequence-taken bs bytes k l =
    let at : ℕ = records_from + slot_size * k in
    cases (are_zero (slot_at records_from bs k))
    (λ z.
    let e = sym (zero_number (at + 8) bs bytes) ∙ zero-part 8 8 48 at bs z in
    let f = eqb-true (field (at + 8) 8 bs) 0 e in
    absurd (omega (arith, f, sequence-at bs k, l))) (λ z. z)
