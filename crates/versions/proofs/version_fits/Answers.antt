-- By the size, and then whether none is zero: `none_before`. Assumes nothing.
use Rattle.std.proofs.Common.{arith, length, drop, length-drop}
use borrow.Author.Tests.{le-leb, lt-leb}
use Rattle.wire.specs.Choice.{◌and◌}
use Rattle.wire.proofs.PartLaws.{part-drop}
use Rattle.slots.specs.Version.{version_fits}
use Rattle.versions.proofs.LeadingLaws.{none_before}
use Rattle.versions.proofs.version_fits.Goals as goal

pub returns-then-size-gt-VERSION : goal.returns-then-size-gt-VERSION
unfolding version_fits ◌and◌
returns-then-size-gt-VERSION c =
    let v = drop c.args.at c.args.d.now in
    rw (lt-leb (length v) 24 (omega (arith, length-drop c.args.at c.args.d.now)))

pub returns : goal.returns
unfolding version_fits ◌and◌
returns c =
    let d = c.args.d.now in
    let v = drop c.args.at d in
    let size = length-drop c.args.at d in
    rw (le-leb (length v) 24 (omega arith), none_before v, size, ← part-drop c.args.at d, ← c.before_zero.ensures)
