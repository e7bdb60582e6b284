-- Laws of what stands at the front of an input. Assumes nothing.
use mathlib.Core.Path.{◌≡◌, sym, ap, ◌∙◌}
use mathlib.Core.Bool.{Bool, true, false}
use mathlib.Core.List.{List, ◌++◌}
use Prim.Native.Nat.{ℕ, ◌≤◌, ◌<◌}
use native.Mathlib.Omega.{arith}
use lib.Dec.{ltb}
use lib.ListN.{length}
use lib.Seq.{take-append-le}
use borrow.Author.Tests.{le-ltb, ltb-true, ltb-false, leb-true}
use Rattle.wire.specs.Choice.{is_in}
use Rattle.wire.specs.Bytes.{part, field}
use Rattle.wire.proofs.ChoiceLaws.{and_both, cases}
use Rattle.reader.specs.declared.Front.{Front}
use Rattle.reader.specs.declared.Front.TheVariants.{Whole, Torn, Short}
use Rattle.reader.specs.Front.{least_record, greatest_record, front_of}

-- a length field that a record can have
abbrev pub Good : List ℕ → Bool
Good bs = is_in least_record greatest_record (field 0 4 bs)

pub front-torn : (bs : List ℕ) → 4 ≤ length bs → Good bs ≡ false → front_of bs ≡ Torn
unfolding front_of
front-torn bs l g = rw (le-ltb (length bs) 4 l, g)

pub front-whole : (bs : List ℕ) → 4 ≤ length bs → Good bs ≡ true → field 0 4 bs ≤ length bs
    → front_of bs ≡ Whole (field 0 4 bs)
unfolding front_of
front-whole bs l g r = rw (le-ltb (length bs) 4 l, g, le-ltb (length bs) (field 0 4 bs) r)

-- what such a length is
pub good-room : (bs : List ℕ) → Good bs ≡ true → (least_record ≤ field 0 4 bs) × (field 0 4 bs ≤ greatest_record)
good-room bs g =
    let n = field 0 4 bs in
    (leb-true least_record n (and_both g).0, leb-true n greatest_record (and_both g).1)

-- the three cases; what is short has less than the longest record
pub data View (bs : List ℕ) : Type 0 where
  short : front_of bs ≡ Short → length bs < greatest_record → View bs
  torn : 4 ≤ length bs → Good bs ≡ false → View bs
  whole : 4 ≤ length bs → Good bs ≡ true → field 0 4 bs ≤ length bs → View bs

pub view : (bs : List ℕ) → View bs
unfolding front_of
view bs =
    cases (ltb (length bs) 4) (λ e. let few = ltb-true (length bs) 4 e in short (rw e) (omega arith))
    (λ e. let l : 4 ≤ length bs = ltb-false (length bs) 4 e in
    cases (Good bs)
    (λ g. cases (ltb (length bs) (field 0 4 bs))
    (λ f. let few = ltb-true (length bs) (field 0 4 bs) f in
    short (rw (e, g, f)) (omega (arith, (good-room bs g).1)))
    (λ f. whole l g (ltb-false (length bs) (field 0 4 bs) f)))
    (λ g. torn l g))

-- a whole record is there whole
pub front-room : (bs : List ℕ) (k : ℕ) → front_of bs ≡ Whole k → k ≤ length bs
front-room bs k h = by-view (view bs) where
  size_of : Front → ℕ
  size_of (Whole n) = n
  size_of Torn = 0
  size_of Short = 0

  by-view : View bs → k ≤ length bs
  by-view (short e few) = let z : 0 ≡ k = ap size_of (sym e ∙ h) in omega arith
  by-view (torn l g) = let z : 0 ≡ k = ap size_of (sym (front-torn bs l g) ∙ h) in omega arith
  by-view (whole l g r) = let z : field 0 4 bs ≡ k = ap size_of (sym (front-whole bs l g r) ∙ h) in omega arith

-- more bytes behind do not change a length field
pub field-append : (bs cs : List ℕ) → 4 ≤ length bs → field 0 4 (bs ++ cs) ≡ field 0 4 bs
unfolding field part
field-append bs cs l = rw (take-append-le 4 bs cs l)
