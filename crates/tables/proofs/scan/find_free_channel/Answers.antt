-- The search of the indices is the search of the slots. Assumes nothing.
use Rattle.std.proofs.Common.{rules, tests, ◌∙◌}
use Rattle.std.proofs.lemmas.Iterator.{first_from_Range}
use Rattle.slots.specs.Limits.{channel_limit}
use Rattle.slots.specs.Layout.{header_size, channel_in}
use Rattle.slots.specs.Scan.{is_free, slot_at}
use Rattle.slots.proofs.TurnLaws.{channels-from, first-in}
use Rattle.slots.proofs.SlotTestLaws.{free-slot}
use Rattle.tables.proofs.scan.find_free_channel.Goals as goal

pub returns : goal.returns
returns c =
    let s = c.args.s.now in
    rw (channels-from s)
    (first-in channel_in is_free header_size channel_limit s 0 c.find.result
    (first_from_Range _ _ _ _ _ _ c.find.ensures.ran
    (λ x q k. free-slot channel_in (slot_at header_size s x) ∙ search (rules, tests))
    (λ x q k. (search rules, free-slot channel_in (slot_at header_size s x) ∙ search (rules, tests)))))
