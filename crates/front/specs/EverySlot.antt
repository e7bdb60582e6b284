-- Tests of each slot of a table, one after another.
use Rattle.std.specs.Prelude.{Bool, true, not, List, [], ◌∷◌, map, ℕ, leb}
use Rattle.std.proofs.Math.Option.{Option}
use Rattle.wire.specs.Choice.{◌and◌, ◌or◌, is_some}
use Rattle.wire.specs.Bytes.{same, are_zero, part, field}
use Rattle.slots.specs.declared.Channel.{Channel}
use Rattle.slots.specs.Limits.{channel_limit}
use Rattle.slots.specs.Table.{find, same_number}
use Rattle.slots.specs.Layout.{header_size, header_bytes, channel_bytes, channel_in, slot_in}
use Rattle.slots.specs.Scan.{slots_from}
use Rattle.slots.specs.Fit.{channel_fits, is_below}

-- each slot passes a test, which is given the slots behind it too
unfoldable pub every_slot : (List ℕ → List (List ℕ) → Bool) → List (List ℕ) → Bool
every_slot t [] = true
every_slot t (p ∷ ps) = t p ps and every_slot t ps

-- a channel end fits, and its number is below the next one
unfoldable pub fits_below : (next : ℕ) → Channel → Bool
fits_below n c = channel_fits c and is_below n c

-- what is read in a slot is stored as it stands there
abbrev pub is_exact : {A : Type 0} → (A → List ℕ) → (List ℕ → A) → List ℕ → Bool
is_exact f g p = same (f (g p)) p

-- TESTS of an entry beside other slots: no entry there has its name; any may stand there
abbrev pub is_lone : {A : Type 0} → (A → A → Bool) → A → List (Option A) → Bool
is_lone u x xs = not (is_some (find (u x) xs))

abbrev pub anywhere : {A : Type 0} → A → List (Option A) → Bool
anywhere x xs = true

-- a slot is free; or it is exact, its entry passes a test, and another beside other slots
unfoldable pub slot_fits : {A : Type 0} → (A → List ℕ) → (List ℕ → A) → (A → Bool) → (A → List (Option A) → Bool) →
    List ℕ → List (List ℕ) → Bool
slot_fits f g t v p others = are_zero p or (is_exact f g p and t (g p) and v (g p) (map (slot_in g) others))

-- all before the packet records, of which there are so many: the header is exact, the next channel number is at least
-- 1, and each channel record is laid out exactly, fits below that number and has a number of its own
unfoldable pub front_fits : List ℕ → (records : ℕ) → Bool
front_fits bs n =
    same (header_bytes (field 8 8 bs) (field 16 8 bs) n (field 28 8 bs)) (part 0 header_size bs) and
    leb 1 (field 28 8 bs) and
    every_slot (slot_fits channel_bytes channel_in (fits_below (field 28 8 bs)) (is_lone same_number))
    (slots_from header_size channel_limit bs 0)
