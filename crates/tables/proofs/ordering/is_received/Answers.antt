-- By the one thing that tells it. Assumes nothing.
use Rattle.std.proofs.Common.{sym, ap, ◌∙◌, not, arith}
use Rattle.slots.specs.Codes.{receipt_kind, timeout_receipt_kind}
use Rattle.slots.proofs.OrderingLaws.{received-receipt, received-timeout-receipt, received-counter}
use Rattle.tables.proofs.ordering.is_received.Goals as goal

pub returns-then-may_have_receipt : goal.returns-then-may_have_receipt
returns-then-may_have_receipt g c rs h =
    h receipt_kind _ (omega arith) c.is_there.ensures ∙
    sym (received-receipt rs c.args.c c.args.sequence (sym c.may_have_receipt.ensures ∙ c.if-may_have_receipt.true))

pub returns-then-may_have_timeout_receipt : goal.returns-then-may_have_timeout_receipt
returns-then-may_have_timeout_receipt g c rs h =
    ap not (h timeout_receipt_kind _ (omega arith) c.is_there-then-may_have_timeout_receipt.ensures) ∙
    sym (received-timeout-receipt rs c.args.c c.args.sequence
    (sym c.may_have_timeout_receipt.ensures ∙ c.if-may_have_timeout_receipt.true))

pub returns : goal.returns
returns g c rs h =
    sym (received-counter rs c.args.c c.args.sequence (sym c.may_have_receipt.ensures ∙ c.if-may_have_receipt.false)
    (sym c.may_have_timeout_receipt.ensures ∙ c.if-may_have_timeout_receipt.false))
