-- No two entries of a table have one name: it is asked of each slot with those before it, or with those behind it.
-- Assumes nothing.
use mathlib.Core.Path.{◌≡◌, sym, ap, ◌∙◌}
use mathlib.Core.Bool.{Bool, true, false, not}
use mathlib.Core.List.{List, map}
use mathlib.Core.Option.{Option, none}
use Prim.Native.Nat.{ℕ, ◌+◌, ◌*◌, ◌-◌, ◌≤◌, ◌<◌}
use native.Mathlib.Omega.{arith}
use lib.ListN.{get_or, drop}
use borrow.Author.Tests.{not-true}
use Rattle.wire.specs.Choice.{◌and◌, ◌or◌, is_some}
use Rattle.wire.specs.Bytes.{are_zero}
use Rattle.wire.proofs.ChoiceLaws.{cases, clash, and_both, both-and, some-if, some_is}
use Rattle.slots.specs.Table.{find}
use Rattle.slots.specs.Layout.{slot_size, slot_in}
use Rattle.slots.specs.Scan.{slot_at, slots_from, table_from}
use Rattle.slots.proofs.FitLaws.{length-read}
use Rattle.slots.proofs.ScanLaws.{slot-at}
use Rattle.slots.proofs.TableLaws.{find-passes}
use Rattle.runs.specs.Each.{each}
use Rattle.runs.proofs.EachLaws.{each_all, each_at}
use Rattle.front.specs.EverySlot.{is_exact, is_lone, slot_fits}
use Rattle.front.proofs.EverySlotLaws.{every_from}
use Rattle.front.proofs.IndexLaws.{slot-some, slot-none, not_none, index-find, find-index, every-index}
use Rattle.front.proofs.IndexLaws.{index-every}

module _ {A : Type 0} (f : A → List ℕ) (g : List ℕ → A) (t : A → Bool) (u : A → A → Bool) (start : ℕ)
    (bs : List ℕ) where
  abbrev slot : (k : ℕ) → List ℕ
  slot k = slot_at start bs k

  -- ALONE among the slots from i up to n: no entry there has its name
  slot-index : (n i j : ℕ) → i + j < n → get_or (table_from g start n bs i) j none ≡ slot_in g (slot (i + j))
  slot-index n i j l =
      let m : n - i - 0 ≡ n - i = omega arith in
      let z : start + slot_size * i + slot_size * 0 ≡ start + slot_size * i = omega arith in
      let e : start + slot_size * i + slot_size * j ≡ start + slot_size * (i + j) = omega arith in
      rw (m, z, e) at (slot-at g (start + slot_size * i) (n - i) j bs (omega arith))

  lone-apart : (x : A) (n i : ℕ) → is_lone u x (table_from g start n bs i) ≡ true → (m : ℕ) → i ≤ m → m < n →
      are_zero (slot m) ≡ false → u x (g (slot m)) ≡ false
  lone-apart x n i h m a b z =
      let e : i + (m - i) ≡ m = omega arith in
      let there = slot-index n i (m - i) (omega arith) ∙ ap (λ (k : ℕ). slot_in g (slot k)) e ∙ slot-some g (slot m) z in
      cases (u x (g (slot m)))
      (λ q. clash (index-find (u x) (table_from g start n bs i) (m - i) (g (slot m)) there q) (not-true _ h)) (λ q. q)

  apart-lone : (x : A) (n i : ℕ) →
      ((m : ℕ) → i ≤ m → m < n → are_zero (slot m) ≡ false → u x (g (slot m)) ≡ false) →
      is_lone u x (table_from g start n bs i) ≡ true
  apart-lone x n i h =
      let xs : List (Option A) = table_from g start n bs i in
      cases (is_some (find (u x) xs))
      (λ q.
      let y = some-if (find (u x) xs) q in
      let j = find-index (u x) xs y.0 y.1 in
      let l : i + j.0 < n = omega (arith, j.1, length-read g (n - i) (drop (start + slot_size * i) bs)) in
      let there = sym (slot-index n i j.0 l) ∙ j.2 in
      cases (are_zero (slot (i + j.0))) (λ z. not_none (sym there ∙ slot-none g _ z))
      (λ z.
      let e : g (slot (i + j.0)) ≡ y.0 = some_is (sym (slot-some g _ z) ∙ there) in
      clash (ap (u x) e ∙ find-passes (u x) xs y.0 y.1) (h (i + j.0) (omega arith) l z)))
      (λ q. ap not q)

  -- A SLOT THAT FITS, by its parts
  fits-parts : (v : A → List (Option A) → Bool) (p : List ℕ) (ps : List (List ℕ)) → slot_fits f g t v p ps ≡ true →
      are_zero p ≡ false → ((is_exact f g p and t (g p)) ≡ true) × (v (g p) (map (slot_in g) ps) ≡ true)
  unfolding slot_fits ◌or◌
  fits-parts v p ps h z = and_both (rw z at h)

  parts-fit : (v : A → List (Option A) → Bool) (p : List ℕ) (ps : List (List ℕ)) →
      (are_zero p ≡ false → ((is_exact f g p and t (g p)) ≡ true) × (v (g p) (map (slot_in g) ps) ≡ true)) →
      slot_fits f g t v p ps ≡ true
  unfolding slot_fits ◌or◌
  parts-fit v p ps h = cases (are_zero p) (λ z. rw z) (λ z. rw z (both-and (h z).0 (h z).1))

  abbrev test : List ℕ → List (List ℕ) → Bool
  test = slot_fits f g t (is_lone u)

  -- slot k, with those before it
  abbrev pub fits_before : (k : ℕ) → Bool
  fits_before k = test (slot k) (slots_from start k bs 0)

  module _ (turned : (x y : A) → u x y ≡ u y x) (n : ℕ) where
    behind-before : every_from test start n bs 0 ≡ true → (k : ℕ) → k < n → fits_before k ≡ true
    behind-before h k l =
        parts-fit (is_lone u) (slot k) (slots_from start k bs 0)
        (λ z. (
          (fits k l z).0,
          apart-lone (g (slot k)) k 0
              (λ m a b y. turned (g (slot k)) (g (slot m)) ∙
              lone-apart (g (slot m)) n (m + 1) (fits m (omega arith) y).1 k (omega arith) l z),
        ))
      where
        fits : (m : ℕ) → m < n → are_zero (slot m) ≡ false → ((is_exact f g (slot m) and t (g (slot m))) ≡ true) ×
            (is_lone u (g (slot m)) (table_from g start n bs (m + 1)) ≡ true)
        fits m b = fits-parts (is_lone u) (slot m) (slots_from start n bs (m + 1)) (every-index test start n bs h m b)

    before-behind : ((k : ℕ) → k < n → fits_before k ≡ true) → every_from test start n bs 0 ≡ true
    before-behind h =
        index-every test start n bs
        (λ k l. parts-fit (is_lone u) (slot k) (slots_from start n bs (k + 1))
        (λ z. (
          (fits k l z).0,
          apart-lone (g (slot k)) n (k + 1)
              (λ m a b y. turned (g (slot k)) (g (slot m)) ∙
              lone-apart (g (slot m)) m 0 (fits m b y).1 k (omega arith) (omega arith) z),
        )))
      where
        fits : (m : ℕ) → m < n → are_zero (slot m) ≡ false → ((is_exact f g (slot m) and t (g (slot m))) ≡ true) ×
            (is_lone u (g (slot m)) (table_from g start m bs 0) ≡ true)
        fits m b = fits-parts (is_lone u) (slot m) (slots_from start m bs 0) (h m b)

    pub each-before : each fits_before 0 n ≡ every_from test start n bs 0
    each-before =
        cases (every_from test start n bs 0)
        (λ w. each_all fits_before 0 n (λ k a b. behind-before w k (omega arith)) ∙ sym w)
        (λ w.
        cases (each fits_before 0 n)
        (λ e. clash (before-behind (λ k l. each_at fits_before 0 n e k (omega arith) (omega arith))) w)
        (λ e. e ∙ sym w))
