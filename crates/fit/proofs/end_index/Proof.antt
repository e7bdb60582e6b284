-- The number is the same, or it is searched. Assumes nothing.
use mathlib.Core.Path.{sym, ap, ◌∙◌}
use Prim.Native.Nat.{ℕ}
use native.Mathlib.Omega.{arith}
use Rattle.slots.specs.Table.{is_numbered}
use Rattle.slots.specs.Layout.{store_in}
use Rattle.slots.specs.Scan.{first_that}
use Rattle.runs.proofs.RunLaws.{channel-at}
use Rattle.fit.proofs.end_index.Statement.{statement}
use Rattle.fit.proofs.end_index.Tie as tie

returns : tie.Need-returns-then-u32_at-number
returns c =
    let own = c in
    let o = c in
    let s = o.args.s.now in
    let same = channel-at s o.args.i ∙ sym own.u32_at-number.ensures ∙ sym c.if-u32_at-number.true ∙
    c.u32_at.ensures ∙ sym (channel-at s o.args.p) in
    sym (ap (λ (n : ℕ). first_that (is_numbered n) (store_in s).channels) same ∙ o.requires.1 (omega arith))

returns-2 : tie.Need-returns
returns-2 c =
    let own = c in
    let a = own.args in
    c.find_channel.ensures ∙
    ap (λ (n : ℕ). first_that (is_numbered n) (store_in a.s.now).channels)
    (own.u32_at-number.ensures ∙ sym (channel-at a.s.now a.i))

pub end_index_spec : {M : Type 1} → statement M
end_index_spec =
    tie.close
    (tie.spec
    (λ c. omega arith) (λ c. omega arith) (λ c. omega arith) (λ c κs. omega arith) (λ c. omega arith)
    (λ c. omega arith) (λ c. omega arith) (λ c κs. omega arith) returns (λ c κs. omega arith) returns-2)
