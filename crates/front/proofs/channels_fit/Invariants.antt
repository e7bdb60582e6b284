-- Each slot so far fits with those before it. Assumes nothing.
use Rattle.std.proofs.Common.{ℕ, Bool, List}
use Rattle.slots.specs.Table.{same_number}
use Rattle.slots.specs.Layout.{header_size, channel_bytes, channel_in}
use Rattle.runs.proofs.EachLaws.{Up}
use Rattle.front.specs.EverySlot.{fits_below}
use Rattle.front.proofs.BeforeLaws.{fits_before}
use Rattle.front.proofs.channels_fit.Given as goal

abbrev pub test : List ℕ → (next k : ℕ) → Bool
test s n = fits_before channel_bytes channel_in (fits_below n) same_number header_size s

abbrev pub invariant-loop-i : goal.invariant-loop-i
invariant-loop-i l = Up (test l.s l.next) 0 l.i
