-- By what the read gave.
use Rattle.std.proofs.Common.{◌≡◌, length, take, refl, sym, ap, ◌∙◌}
use Rattle.wire.specs.Bytes.{patch}
use Rattle.input.specs.declared.Given.TheVariants.{Ended, Failed}
use Rattle.input.specs.Given.{given_of}
use Rattle.stream.proofs.after_read.Goals as goal

pub returns-in-Ended : goal.returns-in-Ended
unfolding patch
returns-in-Ended c =
    let w = c.end_within-left in
    let p = c.last.ensures in
    let ended : given_of c.args.got ≡ Ended = sym c.from.ensures ∙ c.in-Ended.is in
    let left : w.result ≡ length (take c.args.held c.args.piece.now) = w.ensures.2 ∙ ap length w.ensures.1 in
    rw (ended, ← left) (p.reading, refl, refl, p.text)

pub returns-in-Failed : goal.returns-in-Failed
unfolding patch
returns-in-Failed c =
    let p = c.last-in-Failed.ensures in
    let failed : given_of c.args.got ≡ Failed = sym c.from.ensures ∙ c.in-Failed.is in
    rw failed (p.reading, refl, refl, p.text)
