-- The last packet record is free where one is. Assumes nothing.
use mathlib.Core.Path.{sym, ap, ◌∙◌}
use Prim.Native.Nat.{ℕ, ◌-◌}
use native.Mathlib.Omega.{arith}
use Rattle.slots.specs.Table.{has_free}
use Rattle.slots.specs.Layout.{records_from, record_in}
use Rattle.slots.specs.Scan.{is_free, slot_at, table_from}
use Rattle.slots.proofs.ScanLaws.{slot-at, length-slots}
use Rattle.slots.proofs.TurnLaws.{records-from, order-from}
use Rattle.slots.proofs.SlotTestLaws.{free-slot}
use Rattle.slots.proofs.SearchLaws.{free-last}
use Rattle.packets.proofs.has_free.Statement.{statement}
use Rattle.packets.proofs.has_free.Tie as tie

returns : tie.Need-returns
returns c =
    let o = c in
    let n = o.args.count in
    let s = o.args.store.now in
    let last : ℕ = n - 1 in
    c.are_zero.ensures ∙ sym (free-slot record_in (slot_at records_from s last)) ∙
    ap is_free (sym (slot-at record_in records_from n last s (omega (arith, o.requires.low)))) ∙
    sym (free-last (table_from record_in records_from n s 0) (order-from n s o.requires) last
    (omega (arith, o.requires.low, length-slots record_in records_from n s))) ∙
    ap has_free (sym (records-from n s o.requires.size))

pub has_free_spec : {M : Type 1} → statement M
has_free_spec =
    tie.close
    (tie.spec
    (λ c. omega (arith, c.requires.low)) (λ c. omega (arith, c.requires.size))
    (λ c. omega (arith, c.requires.size)) (λ c κs. omega (arith, c.requires.size, c.requires.low))
    returns)
