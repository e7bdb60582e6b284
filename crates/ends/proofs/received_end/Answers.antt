-- The counter rises, or the end stays. Assumes nothing.
use Rattle.std.proofs.Common.{rules}
use Rattle.rules.specs.Ordering.{counted, received_end, is_receive_at_top}
use Rattle.ends.proofs.received_end.Goals as goal

pub raised-requires : goal.raised-requires
unfolding is_receive_at_top
raised-requires c = search rules

pub returns : goal.returns
unfolding received_end counted
returns c = search rules
