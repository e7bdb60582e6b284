-- Stored over zeros, which stay behind them. Assumes nothing.
use Rattle.std.proofs.Common.{arith, drop, length-drop}
use borrow.Author.Tests.{leb-true}
use Rattle.wire.proofs.ChoiceLaws.{and_both}
use Rattle.wire.proofs.PartLaws.{part-drop}
use Rattle.wire.proofs.PatchLaws.{patch-zeros}
use Rattle.slots.specs.Version.{version_fits, padded}
use Rattle.versions.proofs.version_from.Goals as goal

pub put_part-requires : goal.put_part-requires
unfolding version_fits
put_part-requires c =
    let short = leb-true _ 24 (and_both c.requires.1).0 in
    let l = length-drop c.args.at c.args.d.now in
    (omega arith, omega arith)

pub returns : goal.returns
unfolding padded version_fits
returns c =
    let d = c.args.d.now in
    let short = leb-true _ 24 (and_both c.requires.1).0 in
    rw (c.put_part.ensures, part-drop c.args.at d) (patch-zeros 24 (drop c.args.at d) short)
