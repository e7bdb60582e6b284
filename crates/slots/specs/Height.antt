-- Heights and times of this ledger and of the other one, and timeouts.
use Rattle.std.specs.Prelude.{Bool, ℕ, ◌≤◌, ◌<◌, ltb, leb, eqb}
use Rattle.wire.specs.Choice.{◌and◌}
use Rattle.slots.specs.declared.OwnHeight.{OwnHeight}
use Rattle.slots.specs.declared.OwnTime.{OwnTime}
use Rattle.slots.specs.declared.OtherHeight.{OtherHeight}
use Rattle.slots.specs.declared.OtherTime.{OtherTime}
use Rattle.slots.specs.declared.Timeout.{Timeout}

abbrev pub own_height : ℕ → OwnHeight
own_height n = record { 0 = n }

abbrev pub own_time : ℕ → OwnTime
own_time n = record { 0 = n }

abbrev pub other_height : ℕ → OtherHeight
other_height n = record { 0 = n }

abbrev pub other_time : ℕ → OtherTime
other_time n = record { 0 = n }

-- a packet's timeouts are the other ledger's at its sender, and this ledger's at its receiver
abbrev pub height_at_sender : Timeout → OtherHeight
height_at_sender t = other_height t.height

abbrev pub time_at_sender : Timeout → OtherTime
time_at_sender t = other_time t.time

abbrev pub height_at_receiver : Timeout → OwnHeight
height_at_receiver t = own_height t.height

abbrev pub time_at_receiver : Timeout → OwnTime
time_at_receiver t = own_time t.time

-- a height and a time of a ledger's own, as the ledger across sees them
abbrev pub seen_across : OwnHeight → OtherHeight
seen_across h = other_height h.0

abbrev pub time_seen_across : OwnTime → OtherTime
time_seen_across t = other_time t.0

-- HEIGHTS AND TIMES ARE COMPARED with their own kind alone
abbrev pub is_below_own : OwnHeight → OwnHeight → Bool
is_below_own a b = ltb a.0 b.0

abbrev pub is_same_own : OwnHeight → OwnHeight → Bool
is_same_own a b = eqb a.0 b.0

abbrev pub is_below_own_time : OwnTime → OwnTime → Bool
is_below_own_time a b = ltb a.0 b.0

abbrev pub is_same_own_time : OwnTime → OwnTime → Bool
is_same_own_time a b = eqb a.0 b.0

abbrev pub is_same_other : OtherHeight → OtherHeight → Bool
is_same_other a b = eqb a.0 b.0

abbrev pub is_same_other_time : OtherTime → OtherTime → Bool
is_same_other_time a b = eqb a.0 b.0

abbrev pub is_up_to_other : OtherHeight → OtherHeight → Bool
is_up_to_other a b = leb a.0 b.0

abbrev pub UpToOther : OtherHeight → OtherHeight → Type 0
UpToOther a b = a.0 ≤ b.0

abbrev pub UpToOtherTime : OtherTime → OtherTime → Type 0
UpToOtherTime a b = a.0 ≤ b.0

abbrev pub BelowOther : OtherHeight → OtherHeight → Type 0
BelowOther a b = a.0 < b.0

-- a limit has passed: it is nonzero, and what is compared with it is at or above it
unfoldable pub is_past : (limit reached : ℕ) → Bool
is_past l n = ltb 0 l and leb l n

abbrev pub is_past_own : (limit reached : OwnHeight) → Bool
is_past_own l n = is_past l.0 n.0

abbrev pub is_past_own_time : (limit reached : OwnTime) → Bool
is_past_own_time l n = is_past l.0 n.0

abbrev pub is_past_other : (limit reached : OtherHeight) → Bool
is_past_other l n = is_past l.0 n.0

abbrev pub is_past_other_time : (limit reached : OtherTime) → Bool
is_past_other_time l n = is_past l.0 n.0

abbrev pub no_timeout : Timeout
no_timeout = record { height = 0; time = 0 }

unfoldable pub same_timeout : Timeout → Timeout → Bool
same_timeout t u = eqb t.height u.height and eqb t.time u.time
