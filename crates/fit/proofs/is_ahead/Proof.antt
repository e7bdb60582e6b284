-- By the first part that differs, in the bytes. Assumes nothing.
use native.Mathlib.Omega.{arith}
use borrow.Author.Tests.{eq-eqb, ne_eqb}
use Rattle.runs.proofs.RunLaws.{kind_at, channel-at}
use Rattle.fit.proofs.is_ahead.Statement.{statement}
use Rattle.fit.proofs.is_ahead.Tie as tie

returns : tie.Need-returns-then-number-next
returns c =
    let d = c in
    let a = d.args in
    rw (
      channel-at a.s.now a.first,
      channel-at a.s.now a.second,
      ← d.u32_at-number.ensures,
      ← c.u32_at-next.ensures,
      ne_eqb _ _ c.if-number-next.true,
    )

returns-2 : tie.Need-returns
returns-2 c =
    let test = c in
    let d = c in
    let a = d.args in
    rw (
      channel-at a.s.now a.first,
      channel-at a.s.now a.second,
      kind_at a.s.now a.first,
      kind_at a.s.now a.second,
      ← d.u32_at-number.ensures,
      ← test.u32_at-next.ensures,
      eq-eqb _ _ test.if-number-next.false,
      ← c.u16_at.ensures,
      ← c.u16_at-2.ensures,
    )

pub is_ahead_spec : {M : Type 1} → statement M
is_ahead_spec =
    tie.close
    (tie.spec
    (λ c. omega arith) (λ c. omega arith) (λ c. omega arith) (λ c. omega arith) (λ c. omega arith)
    (λ c κs. omega arith) (λ c. omega arith) (λ c κs. omega arith) returns (λ c κs. omega arith) (λ c κs. omega arith)
    returns-2)
