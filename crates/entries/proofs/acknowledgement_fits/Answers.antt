-- Both tests; what the closure tells of a key is what the table holds. Assumes nothing.
use Rattle.std.proofs.Common.{◌≡◌, sym, ◌∙◌, rules, tests}
use Rattle.wire.specs.Choice.{◌and◌}
use Rattle.slots.specs.Layout.{store_in}
use Rattle.slots.specs.Height.{no_timeout}
use Rattle.slots.proofs.FieldLaws.{same-timeout}
use Rattle.entries.proofs.acknowledgement_fits.Goals as goal

pub returns-then-eq : goal.returns-then-eq
unfolding ◌and◌
returns-then-eq c =
    let none = same-timeout c.args.r.timeout no_timeout ∙ sym c.eq.ensures ∙ c.if-eq.true in
    rw none (c.is_received-received.ensures (store_in c.args.s.now).records (λ kind b l p. search (rules, tests)))

pub returns-else-eq : goal.returns-else-eq
unfolding ◌and◌
returns-else-eq c =
    let some = same-timeout c.args.r.timeout no_timeout ∙ sym c.eq.ensures ∙ c.if-eq.false in
    rw (some, c.if-eq.false)
