-- The bytes held and those read behind them are one front, as far as there are bytes.
use Rattle.std.proofs.Common.{◌+◌, ◌∙◌, arith}
use lib.Seq.{take-add}
use Rattle.input.proofs.KeptLaws.{take-most}
use Rattle.input.proofs.end_behind.Goals as goal

pub returns : goal.returns
returns c =
    let a = c.args in
    let piece = a.piece.now in
    (omega arith, take-most _ (a.held + a.read) piece (omega arith) ∙ take-add a.held a.read piece)
