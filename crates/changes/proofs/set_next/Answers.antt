-- A number of 8 bytes: `exact-next`. Assumes nothing.
use Rattle.slots.proofs.EffectLaws.{exact-next}
use Rattle.changes.proofs.set_next.Goals as goal

pub returns : goal.returns
returns c = rw c.put_u64.ensures (exact-next c.args.s.now c.requires c.args.next)
