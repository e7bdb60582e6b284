-- By the kind that is read. Assumes nothing.
use mathlib.Core.Path.{◌≡◌, sym, ap, subst, ◌∙◌}
use mathlib.Core.List.{List}
use Prim.Native.Nat.{ℕ}
use native.Mathlib.Omega.{arith}
use borrow.Author.Tests.{ne_eqb}
use Rattle.slots.specs.Codes.{commitment_kind, acknowledgement_kind}
use Rattle.runs.specs.Run.{key_at, plain_size, RunEnd}
use Rattle.runs.proofs.RunLaws.{kind_at}
use Rattle.runs.proofs.own_run_end.Statement.{statement}
use Rattle.runs.proofs.own_run_end.Tie as tie

abbrev bytes : tie.After-u16_at → List ℕ
bytes k = k.args.s.now

kind : (k : tie.After-u16_at) → (key_at (bytes k) k.args.i).kind ≡ k.u16_at.result
kind k = kind_at (bytes k) k.args.i ∙ sym k.u16_at.ensures

-- a run with the zero bytes of its kind
as_own : (k : tie.After-u16_at) (size e : ℕ) → plain_size k.u16_at.result ≡ size →
    RunEnd (bytes k) k.args.count size k.args.i e →
    RunEnd (bytes k) k.args.count (plain_size (key_at (bytes k) k.args.i).kind)
    k.args.i e
as_own k size e h r =
    subst (λ (x : ℕ). RunEnd (bytes k) k.args.count x k.args.i e)
    (sym (ap plain_size (kind k) ∙ h)) r

returns : tie.Need-returns-in-1
returns c =
    let k = c.before.before in
    as_own k 0 c.run_end.result (ap plain_size c.in-1.is) c.run_end.ensures

returns-2 : tie.Need-returns-in-3
returns-2 c =
    let k = c.before.before in
    as_own k 16 c.run_end-in-3.result (ap plain_size c.in-3.is) c.run_end-in-3.ensures

returns-3 : tie.Need-returns-in_default
returns-3 c =
    let k = c.before.before in
    let none = c.in_default.in_default-own.rest in
    let a = ne_eqb k.u16_at.result commitment_kind none.0.1 in
    let b = ne_eqb k.u16_at.result acknowledgement_kind none.1 in
    as_own k 48 c.run_end-in_default.result (rw (a, b)) c.run_end-in_default.ensures

pub own_run_end_spec : {M : Type 1} → statement M
own_run_end_spec =
    tie.close
    (tie.spec
    (λ c. omega arith) (λ c. omega arith) (λ c κs. omega arith) (λ c κs. ((omega arith, omega arith), omega arith))
    (λ c κs. ((omega arith, omega arith), omega arith)) (λ c κs. ((omega arith, omega arith), omega arith)) returns
    returns-2 returns-3)
