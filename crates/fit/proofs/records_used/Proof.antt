-- Before each turn the slots before it fit and are in order: `Checked`. Assumes nothing.
use mathlib.Core.Path.{◌≡◌, sym, ap, ◌∙◌}
use mathlib.Core.Bool.{true, false}
use mathlib.Core.List.{List}
use Prim.Native.Nat.{ℕ, ◌-◌, ◌<◌}
use native.Mathlib.Omega.{arith}
use borrow.Author.Rules.{rules}
use lib.Dec.{eqb}
use borrow.Author.Tests.{not-true, not-false, eqb-true, eqb-false}
use Rattle.wire.specs.Bytes.{Bytes, are_zero}
use Rattle.wire.proofs.ChoiceLaws.{cases}
use Rattle.wire.proofs.PartLaws.{bytes-array}
use Rattle.slots.specs.declared.Channel.{Channel}
use Rattle.std.specs.Prelude.{Some}
use Rattle.slots.specs.Limits.{channel_limit}
use Rattle.slots.specs.Table.{is_numbered}
use Rattle.slots.specs.Layout.{header_size, records_from, channel_in, store_in}
use Rattle.slots.specs.Scan.{first_that, holds, slot_at}
use Rattle.slots.proofs.SlotTestLaws.{channel-index}
use Rattle.runs.specs.Each.{each}
use Rattle.runs.specs.Run.{record_at, key_at, has_companion, fits_beside}
use Rattle.fit.specs.Pass.{starts_run}
use Rattle.fit.proofs.PassLaws.{Checked, checked-none, checked-all, checked-rest, unfit-rest, unfit-start, unfit-end}
use Rattle.fit.proofs.PassLaws.{passed, unfit-first, unfit-run, checked-run}
use Rattle.fit.proofs.records_used.Statement.{statement}
use Rattle.fit.proofs.records_used.Tie as tie

abbrev invariant-loop : tie.invariant-loop-i
invariant-loop s count i₀ p₀ j₀ i p j = Checked s count i j p

abbrev decreases-loop : tie.decreases-loop-i
decreases-loop s count i₀ p₀ j₀ i p j = count - i

loop-holds : tie.Need-loop-i-init invariant-loop decreases-loop
loop-holds c = checked-none c.args.s.now c.args.count

abbrev bytes : tie.At-loop-i invariant-loop decreases-loop → List ℕ
bytes l = l.args.s.now

known : (l : tie.At-loop-i invariant-loop decreases-loop) → Bytes (bytes l)
known l = bytes-array (bytes l) l.shared_slice_known-1.given

returns : tie.Need-returns-then-are_zero-2 invariant-loop decreases-loop
returns c =
    let l = c.before.before.before.before.before in
    let o = c in
    let call = c.are_zero-then-are_zero in
    checked-rest (bytes l) (known l) o.args.count o.requires l.loop-i.i l.loop-i.j l.loop-i.p l.loop-i.invariant
    (sym call.ensures ∙ c.if-are_zero-2.true)

returns-2 : tie.Need-returns-then-are_zero invariant-loop decreases-loop
returns-2 c =
    let free = c.before.before in
    let l = free.before.before.before in
    let o = c in
    let call = c.are_zero-then-are_zero in
    unfit-rest (bytes l) (known l) o.args.count o.requires l.loop-i.i l.loop-i.j l.loop-i.p l.loop-i.invariant
    (omega arith) (sym free.are_zero.ensures ∙ free.if-are_zero.true) (sym call.ensures ∙ c.if-are_zero-2.false)

-- AT A SLOT in use
abbrev head : tie.Else-are_zero invariant-loop decreases-loop → tie.At-loop-i invariant-loop decreases-loop
head k = k.before.before.before

taken : (k : tie.Else-are_zero invariant-loop decreases-loop) → are_zero (slot_at records_from (bytes (head k)) (head k).loop-i.i) ≡ false
taken k = sym k.are_zero.ensures ∙ k.if-are_zero.false

inside : (k : tie.Else-are_zero invariant-loop decreases-loop) → (head k).loop-i.i < (head k).args.count
inside k = omega arith

starts-run-requires : tie.Need-starts_run-requires invariant-loop decreases-loop
starts-run-requires c κs = (omega arith, (head c).loop-i.invariant.low)

returns-3 : tie.Need-returns-then-not-starts_run invariant-loop decreases-loop
returns-3 c =
    let call = c.before in
    let k = call.before in
    let l = head k in
    let o = l in
    unfit-start (bytes l) (known l) o.args.count o.requires l.loop-i.i l.loop-i.j l.loop-i.p l.loop-i.invariant
    (omega arith) (taken k)
    (sym call.starts_run.ensures ∙ c.if-not-starts_run.true)

-- WHERE A RUN STARTS
abbrev first : tie.Else-not-starts_run invariant-loop decreases-loop → tie.Else-are_zero invariant-loop decreases-loop
first k = k.before.before

starts : (k : tie.Else-not-starts_run invariant-loop decreases-loop) → let l = head (first k) in
    starts_run (bytes l) l.loop-i.p l.loop-i.i ≡ true
starts k = sym k.starts_run.ensures ∙ k.if-not-starts_run.false

end-index-requires : tie.Need-end_index-requires invariant-loop decreases-loop
end-index-requires c κs =
    let l = head (first c) in
    ((omega arith, l.loop-i.invariant.low), l.loop-i.invariant.end)

returns-4 : tie.Need-returns-in_default invariant-loop decreases-loop
returns-4 c =
    let call = c.before in
    let k = first call.before in
    let l = head k in
    let o = l in
    unfit-end (bytes l) (known l) o.args.count o.requires l.loop-i.i l.loop-i.j l.loop-i.p l.loop-i.invariant
    (omega arith) (taken k) (sym call.end_index.ensures ∙ c.in_default.is)

-- ON ITS CHANNEL END
abbrev start : tie.In-Some invariant-loop decreases-loop → tie.Else-not-starts_run invariant-loop decreases-loop
start k = k.before.before

abbrev loop : tie.In-Some invariant-loop decreases-loop → tie.At-loop-i invariant-loop decreases-loop
loop k = head (first (start k))

abbrev index : tie.In-Some invariant-loop decreases-loop → ℕ
index k = k.in-Some.end

found : (k : tie.In-Some invariant-loop decreases-loop) → let l = loop k in
    first_that (is_numbered (key_at (bytes l) l.loop-i.i).channel) (store_in (bytes l)).channels ≡ Some (index k)
found k = sym k.end_index.ensures ∙ k.in-Some.is

below : (k : tie.In-Some invariant-loop decreases-loop) → index k < channel_limit
below k =
    let l = loop k in
    channel-index (index k) (bytes l) (holds (is_numbered (key_at (bytes l) l.loop-i.i).channel)) (found k)

own-run-end-requires : tie.Need-own_run_end-e-requires invariant-loop decreases-loop
own-run-end-requires c κs = ((loop c).requires, inside (first (start c)))

returns-5 : tie.Need-returns-then-e-i invariant-loop decreases-loop
returns-5 c =
    let run = c.before in
    let k = run.before in
    let l = loop k in
    let o = l in
    unfit-first (bytes l) (known l) o.args.count o.requires l.loop-i.i l.loop-i.j l.loop-i.p l.loop-i.invariant
    (inside (first (start k))) (starts (start k)) (taken (first (start k))) run.own_run_end-e.result
    run.own_run_end-e.ensures c.if-e-i.true

-- A RUN that has a record
abbrev known-end : tie.Else-e-i invariant-loop decreases-loop → tie.In-Some invariant-loop decreases-loop
known-end r = r.before.before

more : (r : tie.Else-e-i invariant-loop decreases-loop) → (loop (known-end r)).loop-i.i < r.own_run_end-e.result
more r =
    let low = r.own_run_end-e.ensures.run.low in
    cases (eqb (loop (known-end r)).loop-i.i r.own_run_end-e.result)
    (λ e. absurd (r.if-e-i.false (sym (eqb-true _ _ e))))
    (λ e. omega (arith, low, eqb-false (loop (known-end r)).loop-i.i r.own_run_end-e.result e))

run-fits-requires : tie.Need-run_fits-requires invariant-loop decreases-loop
run-fits-requires c κs =
    let r = c.before in
    let k = known-end r in
    let l = loop k in
    let o = l in
    let stop = r.own_run_end-e.ensures in (
      omega (arith, stop.high),
      more r,
      stop.run,
      passed (bytes l) (known l) o.args.count o.requires l.loop-i.i l.loop-i.j l.loop-i.p l.loop-i.invariant
          (inside (first (start k))) (starts (start k)),
    )

-- what the test of the run tells
tested : (t : tie.After-run_fits invariant-loop decreases-loop) → let r = t.before.before in let k = known-end r in
    let l = loop k in
    t.run_fits.result ≡
    each (λ m. fits_beside (has_companion (bytes l) m) (record_at (bytes l) m)
    (channel_in (slot_at header_size (bytes l) (index k)))) l.loop-i.i (r.own_run_end-e.result - l.loop-i.i)
tested t =
    let r = t.before.before in
    let l = loop (known-end r) in
    t.run_fits.ensures ∙
    ap (λ (x : Channel). each (λ m. fits_beside (has_companion (bytes l) m) (record_at (bytes l) m) x) l.loop-i.i
    (r.own_run_end-e.result - l.loop-i.i)) t.channel_at-c.ensures

returns-6 : tie.Need-returns-then-not-run_fits invariant-loop decreases-loop
returns-6 c =
    let call = c.before in
    let r = call.before.before in
    let k = known-end r in
    let l = loop k in
    let o = l in
    let run = r.own_run_end-e in
    unfit-run (bytes l) (known l) o.args.count o.requires l.loop-i.i l.loop-i.j l.loop-i.p l.loop-i.invariant
    (inside (first (start k))) (starts (start k)) (index k) (found k) run.result run.ensures (more r)
    (sym (tested call) ∙ c.if-not-run_fits.true)

loop-less : tie.Need-loop-i-smaller invariant-loop decreases-loop
loop-less c =
    let r = c.before.before.before in
    omega (arith, more r, r.own_run_end-e.ensures.high)

loop-again : tie.Need-loop-i-preserved invariant-loop decreases-loop
loop-again c =
    let call = c.before in
    let r = call.before.before in
    let k = known-end r in
    let l = loop k in
    let o = l in
    let run = r.own_run_end-e in
    checked-run (bytes l) (known l) o.args.count o.requires l.loop-i.i l.loop-i.j l.loop-i.p l.loop-i.invariant
    (inside (first (start k))) (starts (start k)) (index k) (found k) run.result run.ensures (more r)
    (sym (tested call) ∙ c.if-not-run_fits.false)

returns-7 : tie.Need-returns invariant-loop decreases-loop
returns-7 c =
    let l = c.before in
    let o = c in
    checked-all (bytes l) (known l) o.args.count o.requires l.loop-i.i l.loop-i.j l.loop-i.p l.loop-i.invariant
    (omega arith)

pub records_used_spec : {M : Type 1} → statement M
records_used_spec =
    tie.close
    (tie.spec
    invariant-loop decreases-loop loop-holds (λ c. omega arith) (λ c. omega arith) (λ c κs. omega arith) (λ c. omega arith)
    (λ c. omega arith) (λ c κs. omega arith) returns returns-2 starts-run-requires returns-3 end-index-requires
    (λ c. search rules) (λ c. search rules) returns-4 own-run-end-requires returns-5
    (λ c. omega (arith, below (known-end c))) (λ c. omega (arith, below (known-end c)))
    (λ c κs. omega (arith, below (known-end c))) run-fits-requires returns-6 loop-less loop-again returns-7)
