-- A test that holds leaves the rest of a row of tests, and one that does not is the answer. Assumes nothing.
use mathlib.Core.Path.{◌≡◌, sym, ◌∙◌}
use mathlib.Core.Bool.{Bool, true, false}
use Rattle.wire.specs.Choice.{◌and◌}

-- the test came to r
module _ {r t : Bool} (rest : Bool) (tested : r ≡ t) where
  pub holds_then : r ≡ true → (t and rest) ≡ rest
  unfolding ◌and◌
  holds_then h = let e = sym tested ∙ h in rw e

  pub fails-then : r ≡ false → (t and rest) ≡ false
  unfolding ◌and◌
  fails-then h = let e = sym tested ∙ h in rw e
