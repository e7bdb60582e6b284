-- By the law of the claims' numbers. Assumes nothing.
use Rattle.wire.specs.Choice.{◌and◌}
use Rattle.sound.proofs.SoundLaws.{claim-known}
use Rattle.sound.proofs.is_claim.Statement.{statement}
use Rattle.sound.proofs.is_claim.Tie as tie

returns : tie.Need-returns
unfolding ◌and◌
returns c = rw claim-known

pub is_claim_spec : {M : Type 1} → statement M
is_claim_spec =
    tie.close (tie.spec returns)
