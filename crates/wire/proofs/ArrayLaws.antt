-- Numbers by the arrays of their bytes, and what is stored over a middle part, as std says both. Assumes nothing.
use mathlib.Core.Path.{◌≡◌, refl, ap, ◌∙◌}
use mathlib.Core.List.{List, [], ◌∷◌, append_assoc}
use Prim.Native.Nat.{ℕ, zero, suc, ◌+◌, ◌/◌, ◌^◌, ◌-◌, ◌≤◌, ◌<◌}
use native.Mathlib.Nat.{mul_comm, pow-suc, div-one, div-div-eq-div-mul}
use native.Mathlib.Omega.{arith}
use lib.ListN.{length, get_or, take, drop}
use lib.Seq.{length-take-le, take-suc, take_all, drop-drop}
use borrow.Rule.Slice.PartMut.{put_mid}
use Rattle.std.specs.Int.{byte_worth, bytes_low_first, sum_through}
use Rattle.std.specs.List.{slice_index, copy_within}
use Rattle.wire.specs.Bytes.{little, number_of, part, field, patch}
use Rattle.wire.proofs.BytesLaws.{length_part}
use Rattle.wire.proofs.PartLaws.{number_of-append, part-part}
use Rattle.wire.proofs.PatchLaws.{length-patch, patch-within, patch-inner}

-- A RANGE of a slice is a part
pub range-part : (i n : ℕ) (bs : List ℕ) → take (i + n - i) (drop i bs) ≡ part i n bs
unfolding part
range-part i n bs = let same : i + n - i ≡ n = omega arith in rw same

-- READ
worth_front : (k : ℕ) (bs : List ℕ) → k < length bs →
    sum_through (λ i. byte_worth i (slice_index bs i)) k ≡ number_of (take (suc k) bs)
unfolding number_of
worth_front zero [] h = absurd (omega arith)
worth_front zero (b ∷ bs) h = omega arith
worth_front (suc k) bs h =
    let byte : ℕ = get_or bs (suc k) 0 in
    let one : number_of (byte ∷ []) ≡ byte = omega arith in
    rw (
      worth_front k bs (omega arith),
      take-suc bs (suc k) 0 h,
      number_of-append (take (suc k) bs) (byte ∷ []),
      length-take-le (suc k) bs (omega arith),
      one,
      mul_comm (256 ^ suc k) byte,
    )

number-array : (k : ℕ) (bs : List ℕ) → length bs ≡ suc k →
    sum_through (λ i. byte_worth i (slice_index bs i)) k ≡ number_of bs
number-array k bs l = worth_front k bs (omega arith) ∙ ap number_of (take_all (suc k) bs (omega arith))

-- of k + 1 bytes, by their array
pub read-array : (k at : ℕ) (bs : List ℕ) {v : ℕ} {a : List ℕ} → at + suc k ≤ length bs → a ≡ part at (suc k) bs →
    v ≡ sum_through (λ i. byte_worth i (slice_index a i)) k → v ≡ field at (suc k) bs
unfolding field
read-array k at bs {v} {a} h p q = rw (q, p) (number-array k (part at (suc k) bs) (length_part at (suc k) bs h))

-- STORED
low_first : (i k n : ℕ) → bytes_low_first i k n ≡ little k (n / 256 ^ i)
unfolding little
low_first i zero n = refl
low_first zero (suc k) n = rw (low_first 1 k n, div-one n)
low_first (suc i) (suc k) n =
    rw (low_first (suc (suc i)) k n, div-div-eq-div-mul n (256 ^ suc i) 256, ← pow-suc 256 (suc i))

pub little-array : (k n : ℕ) → bytes_low_first 0 k n ≡ little k n
little-array k n = low_first 0 k n ∙ ap (little k) (div-one n)

-- OVER A RANGE, as many bytes as it has
pub put_mid-patch : (i e : ℕ) (xs ys : List ℕ) → i ≤ e → e ≤ length xs → length ys ≡ e - i →
    put_mid i (e - i) xs ys ≡ patch i ys xs
put_mid-patch i e xs ys h k l =
    let end : i + (e - i) ≡ i + length ys = omega arith in
    rw (patch-within i ys xs (omega arith), drop-drop (e - i) i xs, end)

pub ruleset over_part = (put_mid-patch, length_part)

-- and where some of a range are copied to another place of it
copied : (i j dest : ℕ) (bs : List ℕ) → i ≤ j → j ≤ length bs → dest + (j - i) ≤ length bs →
    copy_within bs i j dest ≡ patch dest (part i (j - i) bs) bs
unfolding part
copied i j dest bs h k l =
    let n = length_part i (j - i) bs (omega arith) in
    rw (
      patch-within dest (part i (j - i) bs) bs (omega arith),
      n,
      append_assoc (take dest bs) (take (j - i) (drop i bs)) (drop (dest + (j - i)) bs),
    )

pub put_mid-copied : (at e i j dest : ℕ) (bs : List ℕ) {to from n : ℕ} →
    (at ≤ e) × (e ≤ length bs) × (i ≤ j) × (j ≤ e - at) × (dest + (j - i) ≤ e - at) →
    (at + dest ≡ to) × (at + i ≡ from) × (j - i ≡ n) →
    put_mid at (e - at) bs (copy_within (take (e - at) (drop at bs)) i j dest) ≡ patch to (part from n bs) bs
unfolding part
put_mid-copied at e i j dest bs inside same =
    let range : List ℕ = part at (e - at) bs in
    let some : List ℕ = part i (j - i) range in
    let long : length range ≡ e - at = length_part at (e - at) bs (omega arith) in
    let short : length some ≡ j - i = length_part i (j - i) range (omega arith) in
    let new : copy_within range i j dest ≡ patch dest some range = copied i j dest range (omega arith) (omega arith) (omega arith) in
    let whole = put_mid-patch at e bs (patch dest some range) (omega arith) (omega arith) (length-patch dest some range ∙ long) in
    let stored = whole ∙ patch-inner at dest (e - at) some bs (omega arith) (omega arith) in
    rw (new, ← same.2, ← same.1, ← same.0)
    (stored ∙ ap (λ (p : List ℕ). patch (at + dest) p bs) (part-part i (j - i) at (e - at) bs (omega arith)))
