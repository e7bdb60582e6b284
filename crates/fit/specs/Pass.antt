-- The packet records of a store in one pass: each fits and all are in order, and how many are in use.
use Rattle.std.specs.Prelude.{Bool, List, ℕ, ltb, eqb}
use Rattle.wire.specs.Choice.{◌and◌, ◌or◌, pick}
use Rattle.slots.specs.declared.Key.{Key}
use Rattle.std.specs.Prelude.{Option, Some, None}
use Rattle.slots.specs.Table.{in_order, precedes}
use Rattle.slots.specs.Layout.{records_from, record_bytes, record_in, store_in}
use Rattle.slots.specs.Scan.{slots_from, used_slots}
use Rattle.slots.specs.Fit.{record_fits}
use Rattle.runs.specs.Run.{key_at, zeros_at}
use Rattle.front.specs.EverySlot.{every_slot, anywhere, slot_fits}

-- each of n slots, wherever it stands, and their order
unfoldable pub records_fit : List ℕ → (n : ℕ) → Bool
records_fit bs n =
    every_slot (slot_fits record_bytes record_in (record_fits (store_in bs)) anywhere) (slots_from records_from n bs 0) and
    in_order precedes (store_in bs).records

-- A RUN STARTS at i behind the one from p on, if any: its first record is laid out exactly, and stands behind by
-- channel, then kind
abbrev pub is_ahead : Key → Key → Bool
is_ahead a b = pick (eqb a.channel b.channel) (ltb a.kind b.kind) (ltb a.channel b.channel)

abbrev pub starts_run : List ℕ → (p i : ℕ) → Bool
starts_run bs p i =
    eqb (zeros_at bs i) 0 and (eqb p i or is_ahead (key_at bs p) (key_at bs i))

-- HOW MANY packet records are in use, where a test passes
abbrev pub used_if : Bool → List ℕ → Option ℕ
used_if b bs = pick b (Some (used_slots (store_in bs).records)) None
