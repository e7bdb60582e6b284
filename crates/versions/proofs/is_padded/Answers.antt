-- All are zero; or those behind the ones before the first zero byte: `padded-before`. Assumes nothing.
use Rattle.std.proofs.Common.{◌∙◌, sym, arith}
use Rattle.wire.specs.Bytes.{part}
use Rattle.wire.proofs.BytesLaws.{length_part}
use Rattle.wire.proofs.PartLaws.{drop-part}
use Rattle.versions.proofs.LeadingLaws.{before-upto, zeros-padded, padded-before}
use Rattle.versions.proofs.is_padded.Goals as goal

pub returns-then-are_zero : goal.returns-then-are_zero
returns-then-are_zero c =
    sym (zeros-padded (part c.args.at 24 c.args.s.now) (sym c.are_zero.ensures ∙ c.if-are_zero.true))

-- the ones before are some of the 24
pub overflow_sub-size : goal.overflow_sub-size
overflow_sub-size c =
    let p = part c.args.at 24 c.args.s.now in
    omega (arith, before-upto p, length_part c.args.at 24 c.args.s.now (omega arith), c.before_zero-size.ensures)

pub overflow_add-at : goal.overflow_add-at
overflow_add-at c = omega (arith, overflow_sub-size c)

pub are_zero-requires-2 : goal.are_zero-requires-2
are_zero-requires-2 c = omega (arith, overflow_sub-size c)

pub returns : goal.returns
returns c =
    let s = c.args.s.now in
    rw (
      padded-before (part c.args.at 24 s),
      ← c.before_zero-size.ensures,
      drop-part c.before_zero-size.result c.args.at 24 s,
    )
    c.are_zero-2.ensures
