-- The tests of the choice, in the bytes. Assumes nothing.
use mathlib.Core.Path.{◌≡◌}
use mathlib.Core.Bool.{◌&&◌}
use native.Mathlib.Omega.{arith}
use lib.Dec.{ltb, eqb}
use Rattle.wire.specs.Choice.{◌and◌}
use Rattle.runs.specs.Run.{key_at}
use Rattle.runs.proofs.RunLaws.{kind_at, channel-at}
use Rattle.runs.proofs.companions_from.Statement.{statement}
use Rattle.runs.proofs.companions_from.Tie as tie

tested : (k : tie.After-u32_at-2) → let channel = k.before in let kind = channel.before in
    let a = kind.args in let s = a.s.now in
    (ltb a.p a.i and eqb (key_at s a.p).kind a.kind and
    eqb (key_at s a.p).channel (key_at s a.i).channel) ≡
    ((ltb a.p a.i && eqb kind.u16_at.result a.kind) &&
    eqb channel.u32_at.result k.u32_at-2.result)
unfolding ◌and◌
tested k =
    let channel = k in
    let kind = k in
    let a = kind.args in
    rw (
      kind_at a.s.now a.p,
      channel-at a.s.now a.p,
      channel-at a.s.now a.i,
      ← kind.u16_at.ensures,
      ← channel.u32_at.ensures,
      ← k.u32_at-2.ensures,
    )

returns : tie.Need-returns-then-p-i
returns c = rw (tested c.before, c.if-p-i.true)

returns-2 : tie.Need-returns
returns-2 c = rw (tested c.before, c.if-p-i.false)

pub companions_from_spec : {M : Type 1} → statement M
companions_from_spec =
    tie.close
    (tie.spec
    (λ c. omega arith) (λ c. omega arith) (λ c. omega arith) (λ c. omega arith) (λ c κs. omega arith)
    (λ c. omega arith) (λ c κs. omega arith) (λ c. omega arith) (λ c κs. omega arith) returns returns-2)
