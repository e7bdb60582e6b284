-- The search of the indices is the search of the slots. Assumes nothing.
use Rattle.std.proofs.Common.{rules, tests}
use Rattle.std.proofs.lemmas.Iterator.{first_from_Range}
use Rattle.slots.specs.Table.{has_key}
use Rattle.slots.specs.Layout.{records_from, record_in}
use Rattle.slots.specs.Scan.{holds}
use Rattle.slots.proofs.TurnLaws.{first-in}
use Rattle.tables.proofs.scan.first_record.Goals as goal

pub returns : goal.returns
returns c =
    let a = c.args in
    first-in record_in (holds (has_key a.k)) records_from a.count a.s.now a.from c.find.result
    (first_from_Range _ _ _ _ _ _ c.find.ensures.ran (λ x q k. search (rules, tests))
    (λ x q k. (search rules, search (rules, tests))))
