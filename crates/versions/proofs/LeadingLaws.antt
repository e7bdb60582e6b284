-- The bytes before the first zero byte: they tell whether a version is padded, and whether it has no zero byte. Assumes
-- nothing.
use mathlib.Core.Bool.{cond}
use lib.Dec.{ltb}
use Rattle.std.proofs.Common.{Option, Some, None}
use Rattle.std.specs.Option.{unwrap_or}
use Rattle.std.specs.List.{position_or_len}
use Rattle.wire.proofs.Prelude.{◌≡◌, refl, sym, ◌∙◌, true, List, [], ◌∷◌, ℕ, suc, ◌≤◌, arith}
use Rattle.wire.proofs.Prelude.{eqb, length, drop, eq-eqb, ne_eqb, eqb-true, eqb-false, ltb-false}
use Rattle.wire.specs.Names.{◌and◌, are_zero}
use Rattle.wire.proofs.ChoiceLaws.{cases, and_both}
use Rattle.slots.specs.Names.{none_zero, is_padded}
use Rattle.versions.specs.Leading.{before_zero}

pub before-upto : (bs : List ℕ) → before_zero bs ≤ length bs
unfolding before_zero
before-upto [] = omega arith
before-upto (b ∷ bs) = cases (eqb b 0) (λ e. rw e (omega arith)) (λ e. rw e (omega (arith, before-upto bs)))

pub padded-before : (bs : List ℕ) → is_padded bs ≡ are_zero (drop (before_zero bs) bs)
unfolding is_padded before_zero are_zero ◌and◌
padded-before [] = refl
padded-before (b ∷ bs) =
    let ih = padded-before bs in
    cases (eqb b 0) (λ e. rw (e, e)) (λ e. rw e ih)

pub zeros-padded : (bs : List ℕ) → are_zero bs ≡ true → is_padded bs ≡ true
unfolding is_padded are_zero
zeros-padded [] h = refl
zeros-padded (b ∷ bs) h = let z = and_both h in rw z.0 z.1

eqb-suc : (m n : ℕ) → eqb (suc m) (suc n) ≡ eqb m n
eqb-suc m n =
    cases (eqb m n) (λ e. eq-eqb (suc m) (suc n) (omega (arith, eqb-true m n e)) ∙ sym e)
    (λ e. ne_eqb (suc m) (suc n) (λ q. eqb-false m n e (omega arith)) ∙ sym e)

pub none_before : (bs : List ℕ) → none_zero bs ≡ eqb (before_zero bs) (length bs)
unfolding none_zero before_zero ◌and◌
none_before [] = refl
none_before (b ∷ bs) =
    let ih = none_before bs in
    cases (eqb b 0) (λ e. rw e (sym (ne_eqb 0 (suc (length bs)) (λ q. omega arith))))
    (λ e. rw e (ih ∙ sym (eqb-suc (before_zero bs) (length bs))))

-- AS `position` SAYS IT, of `size` bytes
before-position : (bs : List ℕ) → before_zero bs ≡ position_or_len (λ b. eqb b 0) bs
unfolding before_zero
before-position [] = refl
before-position (b ∷ bs) =
    let ih = before-position bs in
    cases (eqb b 0) (λ e. rw e) (λ e. rw e (omega (arith, ih)))

pub before-found : (bs : List ℕ) (size : ℕ) {found : Option ℕ} → length bs ≡ size →
    found ≡ cond (ltb (position_or_len (λ b. eqb b 0) bs) (length bs)) (Some (position_or_len (λ b. eqb b 0) bs)) None →
    unwrap_or found size ≡ before_zero bs
before-found bs size {found} l p =
    let at : ℕ = position_or_len (λ b. eqb b 0) bs in
    let same : before_zero bs ≡ at = before-position bs in
    cases (ltb at (length bs)) (λ e. rw (p, e) (sym same))
    (λ e. let past = ltb-false at (length bs) e in rw (p, e) (omega (arith, before-upto bs)))
