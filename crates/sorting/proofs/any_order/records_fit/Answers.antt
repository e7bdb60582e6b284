-- All indices are asked, and so all slots. Assumes nothing.
use Rattle.std.proofs.Common.{rules, tests}
use Rattle.slots.specs.Layout.{records_from, record_bytes, record_in, store_in}
use Rattle.slots.specs.Fit.{record_fits}
use Rattle.slots.proofs.RangeLaws.{all_from_range}
use Rattle.front.specs.EverySlot.{anywhere, slot_fits}
use Rattle.front.proofs.EverySlotLaws.{every-in}
use Rattle.sorting.proofs.any_order.records_fit.Goals as goal

pub returns : goal.returns
returns c =
    let s = c.args.s.now in
    every-in (slot_fits record_bytes record_in (record_fits (store_in s)) anywhere) records_from c.args.count s c.all.result
    (all_from_range _ _ _ _ _ _ c.all.ensures.ran (λ x q k. (search rules, search (rules, tests)))
    (λ x q k. search (rules, tests)))
