-- A record of the key stands at the key's place, or nowhere. Assumes nothing.
use mathlib.Core.Path.{◌≡◌, sym, ap, ◌∙◌}
use mathlib.Core.Bool.{Bool}
use mathlib.Core.List.{List}
use mathlib.Core.Option.{Option, none}
use Prim.Native.Nat.{ℕ}
use native.Mathlib.Omega.{arith}
use lib.ListN.{get_or, get_or-eq_default}
use Rattle.wire.specs.Choice.{pick}
use Rattle.slots.specs.declared.Record.{Record}
use Rattle.slots.specs.declared.Key.{Key}
use Rattle.std.specs.Prelude.{Some, None}
use Rattle.slots.specs.Table.{has_key}
use Rattle.slots.specs.Layout.{records_from, record_in, store_in}
use Rattle.slots.specs.Scan.{holds, first_that, table_from, place_of, RecordsInOrder}
use Rattle.slots.proofs.ScanLaws.{slot-at, length-slots}
use Rattle.slots.proofs.TurnLaws.{records-from, order-from}
use Rattle.slots.proofs.SearchLaws.{first-place}
use Rattle.tables.proofs.halves.find_record.Statement.{statement}
use Rattle.tables.proofs.halves.find_record.Tie as tie

abbrev records : (count : ℕ) → List ℕ → List (Option Record)
records n bs = table_from record_in records_from n bs 0

-- the answer by what stands at the place
answer : (n : ℕ) (bs : List ℕ) → RecordsInOrder bs n → (k : Key) {i : ℕ} → i ≡ place_of k (records n bs) → {b : Bool} →
    holds (has_key k) (get_or (records n bs) i none) ≡ b →
    first_that (has_key k) (store_in bs).records ≡ pick b (Some i) None
answer n bs h k {i} e p =
    ap (first_that (has_key k)) (records-from n bs h.size) ∙ first-place k (records n bs) (order-from n bs h) ∙
    ap (λ (j : ℕ). pick (holds (has_key k) (get_or (records n bs) j none)) (Some j) None) (sym e) ∙
    ap (λ (b : Bool). pick b (Some i) None) p

place-of-requires : tie.Need-place_of-i-requires
place-of-requires c κs =
    let o = c.before in
    (omega (arith, o.requires.size), order-from o.args.count o.args.s.now o.requires)

returns : tie.Need-returns-then-has_key
returns c =
    let call = c.before.before.before in
    let o = call.before.before in
    let a = o.args in
    let i = call.place_of-i.result in
    sym (answer a.count a.s.now o.requires a.k call.place_of-i.ensures
    (ap (holds (has_key a.k)) (slot-at record_in records_from a.count i a.s.now (omega arith)) ∙
    sym c.has_key.ensures ∙ c.if-has_key.true))

returns-2 : tie.Need-returns-else-has_key
returns-2 c =
    let call = c.before.before.before in
    let o = call.before.before in
    let a = o.args in
    let i = call.place_of-i.result in
    sym (answer a.count a.s.now o.requires a.k call.place_of-i.ensures
    (ap (holds (has_key a.k)) (slot-at record_in records_from a.count i a.s.now (omega arith)) ∙
    sym c.has_key.ensures ∙ c.if-has_key.false))

returns-3 : tie.Need-returns-else-i-count
returns-3 c =
    let call = c.before in
    let o = call.before.before in
    let a = o.args in
    sym (answer a.count a.s.now o.requires a.k call.place_of-i.ensures
    (ap (holds (has_key a.k))
    (get_or-eq_default (records a.count a.s.now) none
    (omega (arith, length-slots record_in records_from a.count a.s.now)))))

pub find_record_spec : {M : Type 1} → statement M
find_record_spec =
    tie.close
    (tie.spec
    place-of-requires (λ c. omega arith) (λ c. omega arith) (λ c κs. omega arith) returns returns-2 returns-3)
