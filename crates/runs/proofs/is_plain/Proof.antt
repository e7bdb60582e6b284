-- By two words. Assumes nothing.
use mathlib.Core.Path.{sym, ap, ◌∙◌}
use Prim.Native.Nat.{ℕ}
use native.Mathlib.Omega.{arith}
use borrow.Author.Rules.{rules}
use Rattle.wire.specs.Choice.{◌and◌}
use Rattle.wire.specs.Bytes.{are_zero, part}
use Rattle.runs.proofs.RunLaws.{zero-split}
use Rattle.runs.proofs.is_plain.Statement.{statement}
use Rattle.runs.proofs.is_plain.Tie as tie

returns : tie.Need-returns-then-size-eq16
returns c =
    let a = c.args in
    c.are_zero_two_words.ensures ∙ ap (λ (n : ℕ). are_zero (part a.at n a.s.now)) (sym c.if-size-eq16.true)

returns-2 : tie.Need-returns-then-size-eq48
unfolding ◌and◌
returns-2 c =
    let second = c in
    let first = c in
    let a = first.args in
    rw (
      first.if-size-eq48.true,
      zero-split 32 16 a.at a.s.now,
      zero-split 16 16 a.at a.s.now,
      ← first.are_zero_two_words-then-size-eq48.ensures,
      ← second.are_zero_two_words-then-size-eq48-2.ensures,
      ← c.are_zero_two_words-then-size-eq48-3.ensures,
    )

pub is_plain_spec : {M : Type 1} → statement M
is_plain_spec =
    tie.close
    (tie.spec
    (λ c κs. omega arith) returns (λ c κs. omega arith) (λ c. omega arith) (λ c κs. omega arith) (λ c. omega arith)
    (λ c κs. omega arith) returns-2 (λ c κs. search rules) (λ c. search rules))
