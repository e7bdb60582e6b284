-- From the last opening on, the answer for those from the i-th on.
use Rattle.std.proofs.Common.{◌≡◌}
use Rattle.openings.specs.Opening.{ends_from}
use Rattle.openings.specs.Maker.{least_above}
use Rattle.store.proofs.maker.least_above.Given as goal

abbrev pub invariant-loop-i : goal.invariant-loop-i
invariant-loop-i l = l.next ≡ least_above (ends_from l.openings l.i)
