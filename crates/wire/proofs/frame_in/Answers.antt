use Rattle.std.proofs.Common.{arith}
use Rattle.std.proofs.lemmas.Bool.Decides.{nat_tests}
use Rattle.wire.specs.Choice.{◌and◌}
use Rattle.wire.specs.Frame.{frame_in}
use Rattle.wire.proofs.frame_in.Goals as goal

pub returns-then-s-lt-FRAME : goal.returns-then-s-lt-FRAME
unfolding frame_in ◌and◌
returns-then-s-lt-FRAME c = grind (arith, nat_tests)

pub returns-then-length-s : goal.returns-then-length-s
unfolding frame_in ◌and◌
returns-then-length-s c = grind (arith, nat_tests)

pub returns : goal.returns
unfolding frame_in ◌and◌
returns c = grind (arith, nat_tests)
