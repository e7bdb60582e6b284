-- The search of the indices is the search of the slots. Assumes nothing.
use Rattle.std.proofs.Common.{rules, tests}
use Rattle.std.proofs.lemmas.Iterator.{first_from_Range}
use Rattle.slots.specs.Table.{is_numbered}
use Rattle.slots.specs.Layout.{header_size, channel_in}
use Rattle.slots.specs.Scan.{holds}
use Rattle.slots.proofs.TurnLaws.{first-in}
use Rattle.tables.proofs.scan.first_channel.Goals as goal

pub returns : goal.returns
returns c =
    let a = c.args in
    first-in channel_in (holds (is_numbered a.number)) header_size a.upto a.s.now 0 c.find.result
    (first_from_Range _ _ _ _ _ _ c.find.ensures.ran (λ x q k. search (rules, tests))
    (λ x q k. (search rules, search (rules, tests))))
