-- By the free channel record, then the next channel number. Assumes nothing.
use Rattle.wire.specs.Choice.{◌or◌}
use Rattle.slots.specs.Layout.{store_in}
use Rattle.rules.specs.Handshake.{is_full}
use Rattle.steps.proofs.StepLines.{none_free}
use Rattle.steps.proofs.is_full.Goals as goal

pub returns-then-is_none : goal.returns-then-is_none
unfolding is_full ◌or◌
returns-then-is_none c =
    let xs = (store_in c.args.store.now).channels in
    rw (none_free xs _ _ c.find_free_channel.ensures c.is_none.ensures, c.if-is_none.true)

pub returns-else-is_none : goal.returns-else-is_none
unfolding is_full store_in ◌or◌
returns-else-is_none c =
    let xs = (store_in c.args.store.now).channels in
    rw (none_free xs _ _ c.find_free_channel.ensures c.is_none.ensures, c.if-is_none.false, c.u64_at.ensures)
