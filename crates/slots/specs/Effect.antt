-- What the parts of a datagram's effect leave: the store with other times, another next channel number, one channel
-- record replaced, or other packet records.
use Rattle.std.specs.Prelude.{◌≡◌, true, List, ◌∷◌, ◌++◌, ℕ, suc, ◌+◌, length, take, drop, set}
use Rattle.std.proofs.Math.Option.{Option, none, some}
use Rattle.slots.specs.declared.OwnHeight.{OwnHeight}
use Rattle.slots.specs.declared.OwnTime.{OwnTime}
use Rattle.slots.specs.declared.Channel.{Channel}
use Rattle.slots.specs.declared.Record.{Record}
use Rattle.slots.specs.Layout.{Store, bytes_of, store_in}
use Rattle.slots.specs.Fit.{size_fits}

-- bytes that are exactly a store's
pub record Exact (bs : List ℕ) : Type 0 where
  pub size : size_fits (length bs) ≡ true
  pub laid : bytes_of (store_in bs) ≡ bs

abbrev pub with_times : Store → OwnHeight → OwnTime → Store
with_times s h t =
    record { height = h; time = t; next = s.next; channels = s.channels; records = s.records }

abbrev pub with_next : Store → (next : ℕ) → Store
with_next s n =
    record { height = s.height; time = s.time; next = n; channels = s.channels; records = s.records }

abbrev pub with_channel_slot : Store → (index : ℕ) → Option Channel → Store
with_channel_slot s j x =
    record {
      height = s.height;
      time = s.time;
      next = s.next;
      channels = set s.channels j x;
      records = s.records;
    }

abbrev pub with_records : Store → List (Option Record) → Store
with_records s rs =
    record { height = s.height; time = s.time; next = s.next; channels = s.channels; records = rs }

-- SLOTS MOVED: an entry takes the slot of an index, the next m slots take what stood one before them, and what the last
-- of these held is gone
abbrev pub inserted_at : {A : Type 0} → (index m : ℕ) → A → List (Option A) → List (Option A)
inserted_at i m y xs = take i xs ++ (some y ∷ (take m (drop i xs) ++ drop (suc (i + m)) xs))

-- m slots from an index on take what stood one behind them, and the one behind these becomes free
abbrev pub removed_at : {A : Type 0} → (index m : ℕ) → List (Option A) → List (Option A)
removed_at i m xs = take i xs ++ (take m (drop (suc i) xs) ++ (none ∷ drop (suc (i + m)) xs))
