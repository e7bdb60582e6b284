-- The place stands between `low` and `high`: the slot in the middle tells on which side. Assumes nothing.
use mathlib.Core.Path.{◌≡◌, sym, ap, ◌∙◌}
use mathlib.Core.Bool.{Bool}
use mathlib.Core.List.{List}
use mathlib.Core.Option.{Option}
use Prim.Native.Nat.{ℕ, ◌+◌, ◌-◌, ◌/◌, ◌≤◌, ◌<◌}
use native.Mathlib.Omega.{arith}
use lib.Dec.{ltb}
use borrow.Author.Tests.{ltb-true, ltb-false}
use Rattle.slots.specs.declared.Record.{Record}
use Rattle.slots.specs.declared.Key.{Key}
use Rattle.slots.specs.Table.{key_of, is_before}
use Rattle.slots.specs.Layout.{records_from, record_in, slot_in}
use Rattle.slots.specs.Scan.{holds, slot_at, table_from, place_of}
use Rattle.slots.proofs.RecordLaws.{Ordered}
use Rattle.slots.proofs.ScanLaws.{slot-at, length-slots}
use Rattle.slots.proofs.SearchLaws.{place-length, holds-place}
use Rattle.tables.proofs.halves.place_of.Statement.{statement}
use Rattle.tables.proofs.halves.place_of.Tie as tie

abbrev records : (count : ℕ) → List ℕ → List (Option Record)
records n bs = table_from record_in records_from n bs 0

abbrev invariant-loop : tie.invariant-loop-low
invariant-loop s count k low₀ high₀ low high =
    (low ≤ place_of k (records count s)) × (place_of k (records count s) ≤ high) × (high ≤ count)

abbrev decreases-loop : tie.decreases-loop-low
decreases-loop s count k low₀ high₀ low high = high - low

-- the test of a slot, by the place
side : (n : ℕ) (bs : List ℕ) → Ordered (records n bs) → (k : Key) (i : ℕ) → i < n → {r : Bool} →
    r ≡ holds (λ x. is_before (key_of x) k) (slot_in record_in (slot_at records_from bs i)) →
    r ≡ ltb i (place_of k (records n bs))
side n bs order k i l e =
    e ∙ ap (holds (λ x. is_before (key_of x) k)) (sym (slot-at record_in records_from n i bs l)) ∙
    holds-place k (records n bs) order i

loop-holds : tie.Need-loop-low-init invariant-loop decreases-loop
loop-holds c =
    let a = c.args in
    let most = place-length a.k (records a.count a.s.now) in
    (omega arith, omega (arith, most, length-slots record_in records_from a.count a.s.now), omega arith)

-- the test of the slot in the middle, by the place
module _ (b : tie.After-stands_before invariant-loop decreases-loop) where
  abbrev middle : ℕ
  middle = b.loop-low.low + (b.loop-low.high - b.loop-low.low) / 2

  abbrev place : ℕ
  place =
      let a = b.args in
      place_of a.k (records a.count a.s.now)

  tested : b.stands_before.result ≡ ltb middle place
  tested =
      let o = b.before.before.before.before in
      side o.args.count o.args.s.now o.requires.1 o.args.k middle (omega arith) b.stands_before.ensures

loop-again : tie.Need-loop-low-preserved-then-stands_before invariant-loop decreases-loop
loop-again c =
    let inv = c.loop-low.invariant in
    let here = ltb-true (middle c.before) (place c.before) (sym (tested c.before) ∙ c.if-stands_before.true) in
    (omega (arith, here), inv.1, inv.2)

loop-again-2 : tie.Need-loop-low-preserved invariant-loop decreases-loop
loop-again-2 c =
    let inv = c.loop-low.invariant in
    let here = ltb-false (middle c.before) (place c.before) (sym (tested c.before) ∙ c.if-stands_before.false) in
    (inv.0, here, omega arith)

returns : tie.Need-returns invariant-loop decreases-loop
returns c = omega arith

pub place_of_spec : {M : Type 1} → statement M
place_of_spec =
    tie.close
    (tie.spec
    invariant-loop decreases-loop loop-holds (λ c. omega arith) (λ c. omega arith) (λ c. omega arith) (λ c. omega arith)
    (λ c κs. omega arith) (λ c. omega arith) (λ c. omega arith) loop-again (λ c. omega arith) loop-again-2 returns)
