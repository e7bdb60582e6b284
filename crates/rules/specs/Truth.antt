-- True verdicts: what each claims holds of the ledger across, after a block that is over.
use Rattle.std.specs.Prelude.{◌≡◌, Bool, true, List, ℕ, ◌<◌}
use Rattle.std.proofs.Math.Option.{Option}
use Rattle.wire.specs.Choice.{◌and◌}
use Rattle.wire.specs.Bytes.{Every}
use Rattle.slots.specs.declared.OtherHeight.{OtherHeight}
use Rattle.slots.specs.declared.OtherTime.{OtherTime}
use Rattle.slots.specs.Height.{seen_across, time_seen_across, is_up_to_other, UpToOther, BelowOther, UpToOtherTime}
use Rattle.slots.specs.Layout.{store_in}
use Rattle.datagram.specs.Kind.{Kind}
use Rattle.datagram.specs.Datagram.{AnyVerdict, block_height, block_time, verdicts_of}
use Rattle.rules.specs.Verdict.{claim_holds}
use Rattle.rules.specs.Calls.{Side, across, Call, datagram_got, At, store_after, is_on, is_accepted}

-- TRUE VERDICTS
abbrev pub verdicts_got : Call → List AnyVerdict
verdicts_got c = verdicts_of (datagram_got c)

-- its height and its time, as the ledger across sees them
abbrev pub height_of : Call → OtherHeight
height_of c = seen_across (datagram_got c).context.height

abbrev pub time_of : Call → OtherTime
time_of c = time_seen_across (datagram_got c).context.time

pub record AcceptedOn (z : Side) (cs : List Call) (i : ℕ) (c : Call) : Type 0 where
  pub at : At cs i c
  pub side : c.side ≡ z
  pub told : c.told.number ≡ 0

-- an accepted call of a ledger, of a height or a lower one
abbrev pub is_up_to : Side → OtherHeight → Call → Bool
is_up_to z h c = is_on z c and is_accepted c and is_up_to_other (height_of c) h

-- the verdict `v` of the call at `i`, of the ledger `z`, is true
pub record TrueVerdict (start : Side → List ℕ) (cs : List Call) (i : ℕ) (z : Side) (v : AnyVerdict) : Type 0 where
  -- *closed block*: after the call that carries it no accepted call there has that height or a lower one
  pub closed : (j : ℕ) (e : Call) → AcceptedOn z cs j e → i < j → BelowOther (block_height v) (height_of e)
  -- the block's time is not below any of theirs, and not above that of any accepted call of greater height
  pub not_below : (j : ℕ) (e : Call) → AcceptedOn z cs j e → UpToOther (height_of e) (block_height v) →
      UpToOtherTime (time_of e) (block_time v)
  pub not_above : (j : ℕ) (e : Call) → AcceptedOn z cs j e → BelowOther (block_height v) (height_of e) →
      UpToOtherTime (block_time v) (time_of e)
  -- the claim holds after the accepted calls up to that height
  pub holds : claim_holds v (store_in (store_after (is_up_to z (block_height v)) (start z) cs)) ≡ true

-- every verdict of each accepted call of these kinds is true
abbrev pub Honest : (kinds : Option Kind → Bool) → (Side → List ℕ) → List Call → Type 0
Honest ks start cs =
    (i : ℕ) (c : Call) → At cs i c → is_accepted c ≡ true → ks (datagram_got c).kind ≡ true →
    Every (TrueVerdict start cs i (across c.side)) (verdicts_got c)
