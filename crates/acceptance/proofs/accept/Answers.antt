-- What is planned is carried out, and what it emits is written. Assumes nothing.
use Rattle.std.proofs.Common.{ap, ◌∙◌}
use Rattle.slots.specs.Layout.{bytes_of, store_in}
use Rattle.datagram.specs.declared.Context.{Context}
use Rattle.datagram.specs.Datagram.{datagram_in}
use Rattle.rules.specs.Acceptance.{Effect, applied}
use Rattle.rules.specs.Call.{next_store}
use Rattle.effects.specs.Decided.{effect_by}
use Rattle.acceptance.proofs.AcceptLaws.{ready, output-room}
use Rattle.acceptance.proofs.accept.Goals as goal

pub plan_for-p-requires : goal.plan_for-p-requires
plan_for-p-requires c =
    (ready c.args.store.now c.args.output.now c.args.datagram.now c.requires.0, c.requires.1)

pub carry_out-requires : goal.carry_out-requires
carry_out-requires c =
    ((ready c.args.store.now c.args.output.now c.args.datagram.now c.requires.0).fit, c.plan_for-p.ensures.slots)

pub emit_record-requires : goal.emit_record-requires
emit_record-requires c = output-room c.args.store.now c.args.output.now c.args.datagram.now c.requires.0

pub returns-clause-store : goal.returns-clause-store
unfolding next_store
returns-clause-store c =
    let p = c.plan_for-p in
    let s = store_in c.args.store.now in
    let d = datagram_in c.args.datagram.now in
    c.carry_out.ensures ∙ ap (λ (x : Context). bytes_of (applied s x (effect_by p.result.decision))) p.ensures.context ∙
    ap (λ (x : Effect). bytes_of (applied s d.context x)) p.ensures.effect
