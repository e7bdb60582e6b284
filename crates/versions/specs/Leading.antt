-- How many bytes stand before the first zero byte.
use Rattle.std.specs.Prelude.{List, [], ◌∷◌, ℕ, suc, eqb}
use Rattle.wire.specs.Choice.{pick}

unfoldable pub before_zero : List ℕ → ℕ
before_zero [] = 0
before_zero (b ∷ bs) = pick (eqb b 0) 0 (suc (before_zero bs))
