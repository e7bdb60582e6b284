-- The maker of a fresh store, from the slice to be filled and a list of openings.
use Rattle.std.specs.Prelude.{not, List, [], ◌∷◌, ◌++◌, ℕ, ◌+◌, ◌-◌, ◌/◌, ◌%◌, ltb, eqb, length, replicate}
use Rattle.std.proofs.Math.Option.{Option, none, some}
use Rattle.wire.specs.Choice.{◌and◌, pick}
use Rattle.slots.specs.declared.Channel.{Channel}
use Rattle.slots.specs.Limits.{channel_limit}
use Rattle.slots.specs.Height.{own_height, own_time}
use Rattle.slots.specs.Table.{distinct, same_number}
use Rattle.slots.specs.Layout.{Store, room_in, bytes_of}
use Rattle.slots.specs.Fit.{size_fits}
use Rattle.openings.specs.Opening.{opening_size, openings_in, all_openings_fit, ends_of}

-- the least number that is at least 1 and above every channel number
unfoldable pub least_above : List (Option Channel) → ℕ
least_above [] = 1
least_above (none ∷ cs) = least_above cs
least_above (some c ∷ cs) = pick (ltb c.own.channel (least_above cs)) (least_above cs) (c.own.channel + 1)

-- 21 slice length unfit, 22 list malformed, 23 more than 16, 24 a channel number twice
unfoldable pub make_number : (size : ℕ) → (openings : List ℕ) → ℕ
make_number n bs =
    pick (not (size_fits n)) 21
    (pick (not (eqb (length bs % opening_size) 0 and all_openings_fit (openings_in bs))) 22
    (pick (ltb channel_limit (length bs / opening_size)) 23
    (pick (not (distinct same_number (ends_of bs))) 24 0)))

-- the ends in list order from the first channel record, last height and time 0, the least next channel number, all
-- else zero
unfoldable pub made_store : (size : ℕ) → (openings : List ℕ) → Store
made_store n bs =
    record {
      height = own_height 0;
      time = own_time 0;
      next = least_above (ends_of bs);
      channels = ends_of bs ++ replicate (channel_limit - length bs / opening_size) none;
      records = replicate (room_in n) none;
    }

-- what the maker answers, and what it leaves in the slice
abbrev pub make_told : (store openings : List ℕ) → ℕ
make_told bs os = make_number (length bs) os

unfoldable pub make_store : (store openings : List ℕ) → List ℕ
make_store bs os = pick (eqb (make_told bs os) 0) (bytes_of (made_store (length bs) os)) bs
