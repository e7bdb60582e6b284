-- The bytes are copied to the front, as far as there are any.
use Rattle.std.proofs.Common.{◌≡◌, List, ℕ, ◌+◌, ◌-◌, drop, ap, ◌∙◌, arith, length-drop}
use Rattle.wire.specs.Bytes.{patch}
use Rattle.input.proofs.KeptLaws.{length-part-most, part-most, paste-front}
use Rattle.input.proofs.keep.Goals as goal

pub returns-clause-size : goal.returns-clause-size
returns-clause-size c =
    let a = c.args in
    omega (arith, length-part-most a.from (a.to - a.from) a.piece.now)

pub returns-clause-piece : goal.returns-clause-piece
returns-clause-piece c =
    let a = c.args in
    let piece = a.piece.now in
    let start = c.min-start.result in
    let size = c.min-size.result in
    let whole : start + size - start ≡ size = omega arith in
    let left = length-drop start piece in
    let front = paste-front size (drop start piece) piece (omega arith) (omega arith) in
    let kept = part-most start a.from size (a.to - a.from) piece (omega arith) (omega arith) in
    c.copy_within.ensures.after ∙ rw whole front ∙ ap (λ (xs : List ℕ). patch 0 xs piece) kept
