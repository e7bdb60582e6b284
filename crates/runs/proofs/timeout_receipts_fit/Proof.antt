-- The parts of `timeout-receipts`. Assumes nothing.
use mathlib.Core.Path.{sym, subst}
use mathlib.Core.List.{List}
use Prim.Native.Nat.{ℕ, ◌-◌, ◌<◌}
use native.Mathlib.Omega.{arith}
use borrow.Author.Rules.{rules}
use Rattle.wire.specs.Choice.{◌and◌}
use Rattle.wire.proofs.PartLaws.{bytes-array}
use Rattle.slots.specs.Codes.{acknowledgement_kind}
use Rattle.runs.specs.Run.{Beside}
use Rattle.runs.proofs.RunLaws.{sequence-at}
use Rattle.runs.proofs.BesideLaws.{beside-run}
use Rattle.runs.proofs.KindLaws.{timeout-receipts}
use Rattle.runs.proofs.timeout_receipts_fit.Statement.{statement}
use Rattle.runs.proofs.timeout_receipts_fit.Tie as tie

abbrev bytes : tie.Start → List ℕ
bytes o = o.args.s.now

low : (o : tie.Start) → o.args.i < o.args.e
low o = o.requires.0.1

companions-from-requires : tie.Need-companions_from-q-requires
companions-from-requires c κs =
    let o = c.before.before in
    let l = low o in
    (omega (arith, o.requires.0.0), o.requires.0.3.low)

are-beside-requires : tie.Need-are_beside-requires
are-beside-requires c κs =
    let from = c.before in
    let o = from.before.before.before in
    let a = o.args in (
      o.requires.0.0,
      subst (λ (q : ℕ). Beside (bytes o) acknowledgement_kind q a.i a.e)
          (sym from.companions_from-q.ensures)
          (beside-run (bytes o) acknowledgement_kind a.p a.i a.e o.requires.0.2 o.requires.0.3 o.requires.1),
    )

returns : tie.Need-returns
unfolding ◌and◌
returns c =
    let may = c.before in
    let last = may.before.before in
    let k = last.before in
    let o = k.before in
    let a = o.args in
    rw (
      timeout-receipts (bytes o) (bytes-array (bytes o) k.shared_slice_known-1.given) a.i a.e o.requires.0.2
          o.requires.0.1 a.c o.requires.1,
      sequence-at (bytes o) (a.e - 1),
      ← last.u64_at-last.ensures,
      ← may.may_have_timeout_receipt.ensures,
      ← c.are_beside.ensures,
    )

-- the last record of the run
last : (k : tie.After-shared_slice_known-1) → let a = k.args in a.i < a.e
last k = low k.before

pub timeout_receipts_fit_spec : {M : Type 1} → statement M
timeout_receipts_fit_spec =
    tie.close
    (tie.spec
    (λ c. omega (arith, last c)) (λ c. omega (arith, last c)) (λ c. omega (arith, last c)) (λ c. omega (arith, last c))
    (λ c κs. omega (arith, last c)) companions-from-requires (λ c κs. search rules) are-beside-requires
    returns)
