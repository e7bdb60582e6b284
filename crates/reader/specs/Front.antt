-- What stands at the front of an input: a whole record, a torn one, or too little to tell.
use Rattle.std.specs.Prelude.{not, List, ℕ, ltb, length}
use Rattle.wire.specs.Choice.{pick, is_in}
use Rattle.wire.specs.Bytes.{field}
use Rattle.reader.specs.declared.Front.{Front}
use Rattle.reader.specs.declared.Front.TheVariants.{Whole, Torn, Short}

-- the least and the greatest length of a record
abbrev pub least_record : ℕ
least_record = 6

abbrev pub greatest_record : ℕ
greatest_record = 1024

-- a record starts with its whole length (4 bytes)
unfoldable pub front_of : List ℕ → Front
front_of bs =
    pick (ltb (length bs) 4) Short
    (pick (not (is_in least_record greatest_record (field 0 4 bs))) Torn
    (pick (ltb (length bs) (field 0 4 bs)) Short (Whole (field 0 4 bs))))
