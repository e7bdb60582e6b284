-- What the number of records in use tells, or that there is none. Assumes nothing.
use mathlib.Core.Path.{◌≡◌, refl}
use mathlib.Core.Bool.{Bool, true, false}
use mathlib.Core.List.{List}
use Prim.Native.Nat.{ℕ}
use native.Mathlib.Omega.{arith}
use Rattle.std.specs.Prelude.{Some, None}
use Rattle.slots.specs.Layout.{store_in}
use Rattle.slots.specs.Scan.{used_slots}
use Rattle.fit.specs.Pass.{used_if}

pub used-fit : (b : Bool) (bs : List ℕ) (n : ℕ) → used_if b bs ≡ Some n →
    (b ≡ true) × (n ≡ used_slots (store_in bs).records)
used-fit true bs n h = (refl, cc)
used-fit false bs n h = let z : ◌≡◌ {A = ℕ} 0 1 = cc in absurd (omega arith)

pub used-unfit : (b : Bool) (bs : List ℕ) → used_if b bs ≡ None → b ≡ false
used-unfit true bs h = let z : ◌≡◌ {A = ℕ} 0 1 = cc in absurd (omega arith)
used-unfit false bs h = refl
