-- Each field is read: `opening-read`.
use Rattle.openings.proofs.OpeningLaws.{opening-read}
use Rattle.openings.proofs.opening_at.Goals as goal

pub returns : goal.returns
returns c =
    opening-read c.args.at c.args.openings.now c.requires c.u8_at.ensures c.port_channel_at.ensures
    c.port_channel_at-2.ensures
