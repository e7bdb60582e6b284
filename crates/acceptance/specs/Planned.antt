-- What a plan is made from, the slots that it names, and the store that its end leaves.
use Rattle.std.specs.Prelude.{◌≡◌, true, false, List, ℕ}
use Rattle.std.proofs.Math.Option.{Option, some}
use Rattle.wire.specs.Choice.{is_some}
use Rattle.slots.specs.declared.Channel.{Channel}
use Rattle.std.specs.Prelude.{Option as Found, Some, None}
use Rattle.slots.specs.Table.{is_numbered}
use Rattle.slots.specs.Layout.{Store, store_in}
use Rattle.slots.specs.Scan.{first_free, first_that, used_slots}
use Rattle.slots.specs.Effect.{with_channel_slot}
use Rattle.slots.specs.Fit.{is_fit}
use Rattle.datagram.specs.Datagram.{datagram_in, is_sound}
use Rattle.rules.specs.Refusals.{makes_end, or_none, end_for}
use Rattle.rules.specs.Acceptance.{EndEdit, leaves, puts, adds, number_after}
use Rattle.records.specs.Edited.{edit_by, slot_of}
use Rattle.effects.specs.Decided.{ends_by, Left}
use Rattle.acceptance.specs.declared.Plan.{Plan}

-- what of acceptance it leans on: the store, the datagram, the end that it is about, and that what it needs is left
pub record Ready (store datagram : List ℕ) : Type 0 where
  pub fit : is_fit store ≡ true
  pub sound : is_sound datagram ≡ true
  pub there : makes_end (datagram_in datagram).kind ≡ false →
      is_some (end_for (store_in store) (datagram_in datagram)) ≡ true
  pub left :
      Left (datagram_in datagram).kind (store_in store).next (or_none (end_for (store_in store) (datagram_in datagram)))
      (datagram_in datagram)

-- the slot of the end that changes, or of the one that is added
abbrev pub end_slot : EndEdit → List (Option Channel) → Found ℕ
end_slot leaves cs = None
end_slot (puts c) cs = first_that (is_numbered c.own.channel) cs
end_slot (adds c) cs = first_free cs

-- the same, where the end that changes is known to be at a slot
abbrev pub slot_by : EndEdit → Found ℕ → List (Option Channel) → Found ℕ
slot_by leaves at cs = None
slot_by (puts c) at cs = at
slot_by (adds c) at cs = first_free cs

-- the end that changes or is added, at a slot, if there is one
abbrev pub with_end : Store → Found ℕ → EndEdit → Store
with_end s None x = s
with_end s (Some j) leaves = s
with_end s (Some j) (puts c) = with_channel_slot s j (some c)
with_end s (Some j) (adds c) = with_channel_slot s j (some c)

-- the slots of the end and of the packet record that it changes, the next channel number, and the slots in use
pub record Placed (s : Store) (p : Plan) : Type 0 where
  pub end : p.at ≡ end_slot (ends_by p.decision.ends) s.channels
  pub next : p.next ≡ number_after (ends_by p.decision.ends) s.next
  pub edit : p.slot ≡ slot_of (edit_by p.decision.edit) s.records
  pub used : p.used ≡ used_slots s.records
