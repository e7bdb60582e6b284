-- Two numbers, one behind the other: `exact-times`. Assumes nothing.
use Rattle.wire.specs.Bytes.{little}
use Rattle.wire.proofs.BytesLaws.{length-little}
use Rattle.wire.proofs.PatchLaws.{patch-then}
use Rattle.slots.proofs.EffectLaws.{exact-times}
use Rattle.changes.proofs.set_times.Goals as goal

pub returns : goal.returns
returns c =
    let s = c.args.s.now in
    let h = c.args.height.0 in
    let both = patch-then 8 8 (little 8 h) (little 8 c.args.time.0) s (length-little 8 h) in
    rw (c.put_u64-2.ensures, c.put_u64.ensures, both) (exact-times s c.requires c.args.height c.args.time)
