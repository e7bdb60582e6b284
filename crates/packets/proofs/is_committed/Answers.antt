-- The commitment is the record that the search finds.
use Rattle.wire.proofs.Prelude.{sym, ◌∙◌, arith}
use Rattle.slots.specs.Table.{commitment_key, has_key}
use Rattle.slots.specs.Layout.{store_in}
use Rattle.slots.specs.Scan.{holds}
use Rattle.slots.proofs.ScanLaws.{find-nothing, record-found}
use Rattle.slots.proofs.SlotTestLaws.{record-index}
use Rattle.rules.specs.Refusals.{is_committed}
use Rattle.rules.specs.Verdict.{has_values}
use Rattle.packets.proofs.is_committed.Goals as goal

pub returns-in_default : goal.returns-in_default
unfolding is_committed has_values
returns-in_default c =
    let k = commitment_key c.args.p.source.channel c.args.p.sequence in
    let nothing = sym c.find_record.ensures ∙ c.in_default.is in
    rw (is_committed, find-nothing (has_key k) 0 (store_in c.args.store.now).records nothing)

pub overflow_mul-i : goal.overflow_mul-i
overflow_mul-i c =
    let t = holds (has_key (commitment_key c.args.p.source.channel c.args.p.sequence)) in
    let found = sym c.find_record.ensures ∙ c.in-Some.is in
    omega (arith, record-index c.in-Some.i c.args.store.now t c.args.count c.requires.size found, c.requires.size)

pub overflow_add-i : goal.overflow_add-i
overflow_add-i c =
    let t = holds (has_key (commitment_key c.args.p.source.channel c.args.p.sequence)) in
    let found = sym c.find_record.ensures ∙ c.in-Some.is in
    omega (arith, record-index c.in-Some.i c.args.store.now t c.args.count c.requires.size found, c.requires.size)

pub record_at-requires : goal.record_at-requires
record_at-requires c =
    let t = holds (has_key (commitment_key c.args.p.source.channel c.args.p.sequence)) in
    let found = sym c.find_record.ensures ∙ c.in-Some.is in
    omega (arith, record-index c.in-Some.i c.args.store.now t c.args.count c.requires.size found, c.requires.size)

pub returns : goal.returns
unfolding is_committed
returns c =
    let k = commitment_key c.args.p.source.channel c.args.p.sequence in
    let found = sym c.find_record.ensures ∙ c.in-Some.is in
    rw (is_committed, record-found (has_key k) c.in-Some.i c.args.store.now found, ← c.record_at.ensures)
    c.has_values.ensures
