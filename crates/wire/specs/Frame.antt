-- Frames: a framed record starts with its whole length (4 bytes) and its kind (2 bytes).
use Rattle.std.specs.Prelude.{List, ℕ, leb, eqb, length, Option, Some, None}
use Rattle.wire.specs.Choice.{◌and◌, pick}
use Rattle.wire.specs.Bytes.{field}
use Rattle.wire.specs.declared.Frame.{Frame}

abbrev pub frame_size : ℕ
frame_size = 6

-- bytes are a whole frame where both fields are there and the length field is the number of bytes
unfoldable pub frame_in : List ℕ → Option Frame
frame_in bs =
    pick (leb frame_size (length bs) and eqb (field 0 4 bs) (length bs))
    (Some (record { kind = field 4 2 bs; length = field 0 4 bs })) None
