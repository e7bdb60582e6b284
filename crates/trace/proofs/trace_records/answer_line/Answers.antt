-- The count, the answer and the line.
use Rattle.std.proofs.Common.{refl, ap, ◌∙◌}
use Rattle.rules.specs.Call.{Told}
use Rattle.trace.specs.Trace.{answers}
use Rattle.trace.proofs.TraceLaws.{told-number}
use Rattle.trace.proofs.trace_records.answer_line.Goals as goal

pub returns : goal.returns
unfolding answers
returns c =
    let d = c.answer_datagram.ensures in
    let number = c.answer_of-number.ensures ∙ told-number _ ∙ ap (λ (t : Told). t.number) d.told in
    (refl, (d.room, rw (← number) (rw c.from.ensures at c.put_number_line.ensures)))
