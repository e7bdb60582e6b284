-- The tests are those of `slot-free` and `slot-taken`. Assumes nothing.
use mathlib.Core.Path.{refl, sym, ◌∙◌}
use mathlib.Core.List.{List}
use Prim.Native.Nat.{ℕ, ◌+◌}
use Rattle.wire.specs.Choice.{◌and◌}
use Rattle.wire.proofs.ChoiceLaws.{and-true}
use Rattle.slots.specs.Layout.{records_from, record_bytes, record_in, store_in}
use Rattle.slots.specs.Fit.{record_fits}
use Rattle.slots.specs.Scan.{slot_at, slots_from}
use Rattle.front.specs.EverySlot.{anywhere}
use Rattle.front.proofs.EverySlotLaws.{slot-free, slot-taken}
use borrow.Author.Rules.{rules}
use Rattle.sorting.proofs.any_order.record_slot_fits.Statement.{statement}
use Rattle.sorting.proofs.any_order.record_slot_fits.Tie as tie

-- the slot, and those behind it
abbrev slot : tie.Start → List ℕ
slot o = slot_at records_from o.args.s.now o.args.i

abbrev behind : tie.Start → List (List ℕ)
behind o = slots_from records_from o.args.count o.args.s.now (o.args.i + 1)

returns : tie.Need-returns-then-are_zero
returns c =
    let o = c.before.before.before in
    slot-free record_bytes record_in (record_fits (store_in o.args.s.now)) anywhere (slot o) (behind o)
    c.are_zero.ensures c.if-are_zero.true

returns-2 : tie.Need-returns
unfolding ◌and◌
returns-2 c =
    let e = c.before.before in
    let d = e.before in
    let o = d.before.before.before in
    sym (and-true (e.is_record_exact.result and c.record_fits.result)) ∙
    slot-taken record_bytes record_in (record_fits (store_in o.args.s.now)) anywhere (slot o) (behind o)
    d.are_zero.ensures d.if-are_zero.false {q = e.is_record_exact.result and c.record_fits.result}
    (rw (e.is_record_exact.ensures, c.record_fits.ensures, c.record_at.ensures)) refl

pub record_slot_fits_spec : {M : Type 1} → statement M
record_slot_fits_spec =
    tie.close
    (tie.spec
    (λ c. search rules) (λ c. search rules) (λ c κs. search rules) returns (λ c κs. search rules) (λ c κs. search rules)
    (λ c κs. search rules) returns-2)
