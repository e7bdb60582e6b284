-- As a number. Assumes nothing.
use borrow.Author.Rules.{rules}
use Rattle.wire.proofs.PartLaws.{bytes-array}
use Rattle.runs.proofs.RunLaws.{zero_number}
use Rattle.runs.proofs.is_zero_word.Statement.{statement}
use Rattle.runs.proofs.is_zero_word.Tie as tie

returns : tie.Need-returns
returns c =
    let o = c in
    let s = o.args.s.now in
    rw (zero_number o.args.at s (bytes-array s o.shared_slice_known-1.given), ← c.u64_at.ensures)

pub is_zero_word_spec : {M : Type 1} → statement M
is_zero_word_spec =
    tie.close (tie.spec (λ c κs. search rules) returns)
