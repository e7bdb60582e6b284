-- By words. Assumes nothing.
use borrow.Author.Rules.{rules}
use Rattle.wire.specs.Choice.{◌and◌}
use Rattle.runs.proofs.RunLaws.{zero-split}
use Rattle.runs.proofs.are_zero_two_words.Statement.{statement}
use Rattle.runs.proofs.are_zero_two_words.Tie as tie

returns : tie.Need-returns
unfolding ◌and◌
returns c =
    let a = c.args in
    rw (zero-split 8 8 a.at a.s.now, ← c.is_zero_word.ensures, ← c.is_zero_word-2.ensures)

pub are_zero_two_words_spec : {M : Type 1} → statement M
are_zero_two_words_spec =
    tie.close (tie.spec (λ c κs. search rules) (λ c. search rules) (λ c κs. search rules) returns)
