-- A channel's version: at most 16 bytes, none of them zero, stored with zeros behind it.
use Rattle.std.specs.Prelude.{Bool, true, not, List, [], ◌∷◌, ◌++◌, ℕ, ◌-◌, leb, eqb, length, replicate}
use Rattle.wire.specs.Choice.{◌and◌, pick}
use Rattle.wire.specs.Bytes.{are_zero}
use Rattle.slots.specs.Limits.{version_size}

abbrev pub no_version : List ℕ
no_version = replicate version_size 0

unfoldable pub none_zero : List ℕ → Bool
none_zero [] = true
none_zero (b ∷ bs) = not (eqb b 0) and none_zero bs

unfoldable pub version_fits : (version : List ℕ) → Bool
version_fits v = leb (length v) version_size and none_zero v

unfoldable pub padded : (version : List ℕ) → List ℕ
padded v = v ++ replicate (version_size - length v) 0

-- behind the first zero byte only zeros stand
unfoldable pub is_padded : List ℕ → Bool
is_padded [] = true
is_padded (b ∷ bs) = pick (eqb b 0) (are_zero bs) (is_padded bs)
