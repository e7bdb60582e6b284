-- What a read of the input gave: how many bytes it put into the piece, 0 at the end of the input, and none where it
-- failed.
use Rattle.std.specs.Prelude.{zero, suc, ℕ, Option, Some, None}
use Rattle.input.specs.declared.Given.{Given}
use Rattle.input.specs.declared.Given.TheVariants.{Read, Ended, Failed}

abbrev pub given_of : Option ℕ → Given
given_of (Some zero) = Ended
given_of (Some (suc n)) = Read (suc n)
given_of None = Failed
