-- Whether bytes are zero, by words of eight and the bytes left, as the iterators of std say it. Assumes nothing.
use mathlib.Core.Path.{◌≡◌, refl, ap, ◌∙◌}
use mathlib.Core.Bool.{Bool, true, false, ◌&&◌}
use mathlib.Core.List.{List, [], ◌∷◌, ◌++◌}
use Prim.Native.Nat.{ℕ, zero, suc, ◌+◌, ◌*◌, ◌/◌, ◌%◌, ◌-◌}
use native.Mathlib.Omega.{arith}
use lib.Dec.{eqb}
use lib.ListN.{length, replicate, take, drop, length-append, take-append-drop}
use lib.Seq.{take-add, take-take, take_at, drop_at}
use lib.Pointwise.{pointwise}
use Rattle.std.specs.Slice.Iter.{chunks_exact_rest, chunks_exact_size, chunks_exact_steps}
use Rattle.std.specs.List.{list_all}
use Rattle.std.proofs.lemmas.Iterator.{YieldsList}
use Rattle.std.proofs.lemmas.Iterator.Splits.{YieldsList-from_shown_while}
use Rattle.wire.specs.Choice.{◌and◌}
use Rattle.wire.specs.Bytes.{Bytes, same, are_zero, number_of, part, field, pieces}
use Rattle.wire.proofs.EveryLaws.{every_take, every_drop}
use Rattle.wire.proofs.BytesLaws.{Byte, length-pieces}
use Rattle.wire.proofs.PartLaws.{are_zero-append, are_zero-number}

and-and : (p q : Bool) → (p && q) ≡ (p and q)
unfolding ◌and◌
and-and true q = refl
and-and false q = refl

-- a word's field is its number, whether it is whole or not
field-whole : (bs : List ℕ) → field 0 8 (take 8 bs) ≡ number_of (take 8 bs)
unfolding field part
field-whole bs = rw (take-take 8 8 bs (omega arith))

-- the whole words of a list, as `chunks_exact` gives them
abbrev pub words : List ℕ → List (List ℕ)
words bs = pieces 8 (length bs / 8) bs

word_next : (bs w rest : List ℕ) → bs ≡ w ++ rest → length w ≡ 8 → words bs ≡ w ∷ words rest
unfolding pieces
word_next bs w rest e l =
    let n : length bs ≡ 8 + length rest = omega (arith, ap length e, length-append w rest) in
    let m : length bs / 8 ≡ suc (length rest / 8) = omega arith in
    rw (m, e, take_at w rest 8 l, drop_at w rest 8 l)

pub yields_words : (s : _) → chunks_exact_size {T = ℕ} s ≡ 8 →
    YieldsList chunks_exact_steps (λ w. w.now) s (words (chunks_exact_rest s))
yields_words s size =
    YieldsList-from_shown_while chunks_exact_steps (λ w. w.now) (λ t. words (chunks_exact_rest t))
    (λ t. chunks_exact_size t ≡ 8)
    (λ t u p h. length-pieces 8 _ _ ∙ omega (arith, h.1.0))
    (λ t w u p h. (h.0 ∙ p, word_next (chunks_exact_rest t) w.now (chunks_exact_rest u) h.1.0 (h.1.1 ∙ p)))
    s size

-- each word is zero where the number in it is
zero-pieces : (n : ℕ) (bs : List ℕ) → Bytes bs → list_all (λ w. eqb (field 0 8 w) 0) (pieces 8 n bs) ≡ are_zero (take (8 * n) bs)
unfolding pieces are_zero
zero-pieces zero bs h = refl
zero-pieces (suc n) bs h =
    let k : 8 * suc n ≡ 8 + 8 * n = omega arith in
    let ih = zero-pieces n (drop 8 bs) (every_drop Byte 8 bs h) in
    rw (
      k,
      take-add 8 (8 * n) bs,
      are_zero-append (take 8 bs) (take (8 * n) (drop 8 bs)),
      are_zero-number (take 8 bs) (every_take Byte 8 bs h),
      ih,
      and-and,
      field-whole,
    )

zero-bytes : (bs : List ℕ) → list_all (λ b. eqb b 0) bs ≡ are_zero bs
unfolding are_zero ◌and◌
zero-bytes [] = refl
zero-bytes (b ∷ bs) = rw (zero-bytes bs, and-and)

-- all of them are zero where the words and the bytes behind them are
module _ (bs : List ℕ) (bytes : Bytes bs) {w : Bool} (whole : w ≡ list_all (λ x. eqb (field 0 8 x) 0) (words bs)) where
  split : are_zero bs ≡ (w and are_zero (drop (length bs - length bs % 8) bs))
  split =
      let k : length bs - length bs % 8 ≡ 8 * (length bs / 8) = omega arith in
      let both = are_zero-append (take (8 * (length bs / 8)) bs) (drop (8 * (length bs / 8)) bs) in
      rw (take-append-drop (8 * (length bs / 8)) bs, ← zero-pieces (length bs / 8) bs bytes, ← whole, ← k) at both

  pub word-differs : w ≡ false → w ≡ are_zero bs
  unfolding ◌and◌
  word-differs h = rw (split, h)

  pub words-then : w ≡ true → {r : Bool} → r ≡ list_all (λ b. eqb b 0) (drop (length bs - length bs % 8) bs) → r ≡ are_zero bs
  unfolding ◌and◌
  words-then h {r} rest =
      let left : List ℕ = drop (length bs - length bs % 8) bs in
      rw (split, h) (rest ∙ zero-bytes left)

-- EQUAL ARRAYS, and zero ones
pub pointwise-same : (xs ys : List ℕ) → pointwise eqb xs ys ≡ same xs ys
unfolding same
pointwise-same [] [] = refl
pointwise-same [] (y ∷ ys) = refl
pointwise-same (x ∷ xs) [] = refl
pointwise-same (x ∷ xs) (y ∷ ys) = rw (pointwise-same xs ys, and-and)

pub pointwise-zeros : (n : ℕ) (xs : List ℕ) → length xs ≡ n → pointwise eqb xs (replicate n 0) ≡ are_zero xs
unfolding are_zero
pointwise-zeros zero [] l = refl
pointwise-zeros zero (x ∷ xs) l = absurd (omega arith)
pointwise-zeros (suc n) [] l = absurd (omega arith)
pointwise-zeros (suc n) (x ∷ xs) l = rw (pointwise-zeros n xs (omega arith), and-and)

pub ruleset equal_arrays = (pointwise-same, pointwise-zeros)
