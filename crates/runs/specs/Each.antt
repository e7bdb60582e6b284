-- Tests of indices: each of some passes, or one of the first ones.
use Rattle.std.specs.Prelude.{Bool, true, false, ℕ, zero, suc}
use Rattle.wire.specs.Choice.{◌and◌, ◌or◌}

-- each of n indices from one on
unfoldable pub each : (ℕ → Bool) → (from n : ℕ) → Bool
each t i zero = true
each t i (suc n) = t i and each t (suc i) n

-- one of the first n indices
unfoldable pub any : (ℕ → Bool) → (n : ℕ) → Bool
any t zero = false
any t (suc n) = t n or any t n
