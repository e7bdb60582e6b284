-- Laws of stores, one behind the other. Assumes nothing.
use mathlib.Core.Path.{◌≡◌, refl, ap, ◌∙◌}
use mathlib.Core.List.{List, [], ◌++◌}
use Prim.Native.Nat.{ℕ}
use native.Mathlib.Omega.{arith}
use lib.ListN.{length, length-append}
use Rattle.wire.specs.Bytes.{patch}
use Rattle.wire.proofs.PatchLaws.{length-patch, patch-then}
use Rattle.text.specs.declared.Lines.{Lines}
use Rattle.text.specs.Lines.{Stores}

pub length-stored : {xs : List ℕ} {old new : Lines} → Stores xs old new → length new.text.now ≡ length old.text.now
length-stored {xs} {old} {new} p = ap length p.text ∙ length-patch old.at xs old.text.now

pub stores-both : {xs ys : List ℕ} {old mid new : Lines} → Stores xs old mid → Stores ys mid new
    → Stores (xs ++ ys) old new
stores-both {xs} {ys} {old} {mid} {new} p q =
    let l = length-append xs ys in
    record {
      same = q.same ∙ p.same;
      place = omega (arith, p.place, q.place);
      text = rw (q.text, p.text, p.place) (patch-then old.at (length xs) xs ys old.text.now refl);
    }

pub stores-nothing : (lines : Lines) → Stores [] lines lines
unfolding patch
stores-nothing lines = record { same = refl; place = omega arith; text = refl }
