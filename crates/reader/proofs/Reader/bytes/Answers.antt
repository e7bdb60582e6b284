-- The part from a place on, as far as there are bytes.
use Rattle.std.proofs.Common.{◌≡◌, length, min, arith}
use Rattle.input.proofs.KeptLaws.{length_front, part-most}
use Rattle.reader.proofs.Reader.bytes.Goals as goal

pub returns : goal.returns
returns c =
    let s = c.args.self in
    let src = s.src.now in
    let f = c.end_within-from in
    let e = c.end_within-end in
    let from : f.result ≡ min s.at (length src) = length_front f.result s.at src f.ensures.0 f.ensures.1 in
    let end = length_front e.result c.saturating_add.result src e.ensures.0 e.ensures.1 in
    part-most f.result s.at _ c.args.size src from (omega arith)
