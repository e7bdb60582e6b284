-- The tests are those of `opening-tests`.
use Rattle.wire.specs.Choice.{◌and◌}
use Rattle.openings.proofs.OpeningLaws.{opening-tests}
use Rattle.openings.proofs.opening_fits.Goals as goal

pub returns : goal.returns
unfolding ◌and◌
returns c =
    rw (
      opening-tests c.args.at c.args.openings.now c.requires,
      ← c.u32_at.ensures,
      ← c.u16_at.ensures,
      ← c.u8_at-order.ensures,
      ← c.u8_at.ensures,
    )
