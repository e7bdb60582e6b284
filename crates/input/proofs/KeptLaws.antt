-- Laws of the bytes of a piece: a patch, a part, and a front. Assumes nothing.
use mathlib.Core.Path.{◌≡◌, sym, ap, ◌∙◌}
use mathlib.Core.List.{List}
use Prim.Native.Nat.{ℕ, ◌-◌, ◌≤◌, ◌<◌, min}
use native.Mathlib.Nat.{zero-add}
use native.Mathlib.Omega.{arith}
use lib.Dec.{leb}
use lib.ListN.{length, take, drop, length-take, length-drop, drop_of_length-le, take-append-drop}
use lib.Seq.{paste, length-take-le, take_all, take-length, drop-length}
use borrow.Author.Tests.{leb-true, leb-false}
use Rattle.wire.specs.Bytes.{part, patch}
use Rattle.wire.proofs.ChoiceLaws.{cases}
use Rattle.wire.proofs.PatchLaws.{patch-front}

pub length-part-most : (i n : ℕ) (bs : List ℕ) → length (part i n bs) ≡ min n (length bs - i)
unfolding part
length-part-most i n bs = length-take n (drop i bs) ∙ ap (min n) (length-drop i bs)

-- a front of more bytes than there are is all of them, and behind the last byte there is none
most : (f : ℕ → List ℕ) (l n m : ℕ) → ((k : ℕ) → l ≤ k → f k ≡ f l) → n ≡ min m l → f n ≡ f m
most f l n m past h =
    cases (leb m l) (λ e. let same : n ≡ m = omega (arith, h, leb-true m l e) in ap f same)
    (λ e. let less : l < m = leb-false m l e in
    let all : n ≡ l = omega (arith, h) in
    ap f all ∙ sym (past m (omega arith)))

pub take-most : (n m : ℕ) (bs : List ℕ) → n ≡ min m (length bs) → take n bs ≡ take m bs
take-most n m bs h =
    most (λ (k : ℕ). take k bs) (length bs) n m (λ k l. take_all k bs l ∙ sym (take-length bs)) h

pub drop-most : (n m : ℕ) (bs : List ℕ) → n ≡ min m (length bs) → drop n bs ≡ drop m bs
drop-most n m bs h =
    most (λ (k : ℕ). drop k bs) (length bs) n m (λ k l. drop_of_length-le bs l ∙ sym (drop-length bs)) h

-- the end of a front
pub length_front : (n m : ℕ) (bs : List ℕ) → n ≤ length bs → take n bs ≡ take m bs → n ≡ min m (length bs)
length_front n m bs h e = sym (length-take-le n bs h) ∙ ap length e ∙ length-take m bs

-- a part, as far as there are bytes
pub part-most : (from at n size : ℕ) (bs : List ℕ) → from ≡ min at (length bs) → n ≡ min size (length bs - from)
    → take n (drop from bs) ≡ part at size bs
unfolding part
part-most from at n size bs h e =
    let left : n ≡ min size (length (drop at bs)) = omega (arith, h, e, length-drop at bs) in
    ap (take n) (drop-most from at bs h) ∙ take-most n size (drop at bs) left

-- bytes copied to the front
pub paste-front : (n : ℕ) (xs bs : List ℕ) → n ≤ length xs → n ≤ length bs → paste bs 0 xs n ≡ patch 0 (take n xs) bs
paste-front n xs bs h l =
    let same : length (take n xs) ≡ length (take n bs) = omega (arith, length-take-le n xs h, length-take-le n bs l) in
    let front = patch-front (take n xs) (take n bs) (drop n bs) same in
    let whole = take-append-drop n bs in
    rw zero-add (sym (rw whole at front))
