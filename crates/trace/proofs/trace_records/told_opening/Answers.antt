-- By what the maker told.
use Rattle.std.proofs.Common.{sym, ◌∙◌, arith}
use Rattle.text.specs.Line.{open_word}
use Rattle.text.proofs.LineLaws.{length-line}
use Rattle.text.proofs.StoreLaws.{length-stored, stores-both}
use Rattle.trace.proofs.TraceLaws.{opened-made, opened-err}
use Rattle.trace.proofs.trace_records.told_opening.Goals as goal

pub returns-then-is_ok : goal.returns-then-is_ok
returns-then-is_ok c =
    let made = sym c.is_ok.ensures.value ∙ c.if-is_ok.true in
    let o = opened-made c.args.told c.answer_of.result c.args.size c.answer_of.ensures made in
    record { replay = rw o.1; lines = rw o.0 (rw c.from.ensures at c.put_word_line.ensures) }

pub put_word_line-requires-2 : goal.put_word_line-requires-2
put_word_line-requires-2 c =
    let p = c.put_word_line.ensures in
    omega (arith, p.place, length-stored p, length-line open_word c.from.result)

pub returns : goal.returns
returns c =
    let refused = sym c.is_ok.ensures.value ∙ c.if-is_ok.false in
    let o = opened-err c.args.told c.answer_of.result c.args.size c.answer_of.ensures refused in
    record {
      replay = rw (c.over.ensures, o.1);
      lines = rw o.0 (stores-both (rw c.from.ensures at c.put_word_line.ensures) c.put_word_line-2.ensures);
    }
