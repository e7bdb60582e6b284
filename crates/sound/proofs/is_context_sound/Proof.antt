-- Two words: `context-word`, and the height. Assumes nothing.
use native.Mathlib.Omega.{arith}
use borrow.Author.Rules.{rules}
use Rattle.wire.specs.Choice.{◌and◌}
use Rattle.wire.proofs.PartLaws.{bytes-array}
use Rattle.datagram.specs.Datagram.{context_in, is_context_sound}
use Rattle.sound.proofs.SoundLaws.{context-word}
use Rattle.sound.proofs.is_context_sound.Statement.{statement}
use Rattle.sound.proofs.is_context_sound.Tie as tie

returns : tie.Need-returns
unfolding is_context_sound context_in ◌and◌
returns c =
    let word = c in
    let o = c in
    let d = o.args.d.now in
    let bytes = bytes-array d word.shared_slice_known-1.given in
    rw (← context-word d bytes (omega arith), ← word.u64_at.ensures, ← c.u64_at-2.ensures)

pub is_context_sound_spec : {M : Type 1} → statement M
is_context_sound_spec = tie.close (tie.spec (λ c. search rules) (λ c κs. search rules) (λ c κs. search rules) returns)
