-- A channel end is stored over its slot: `exact-channel`. Assumes nothing.
use Rattle.std.proofs.Common.{◌≡◌, ◌∙◌, rules, length}
use mathlib.Core.Option.{some}
use Rattle.wire.proofs.PartLaws.{bytes-array}
use Rattle.slots.specs.Layout.{slot_bytes}
use Rattle.slots.proofs.LayoutLaws.{length-channel}
use Rattle.slots.proofs.EffectLaws.{exact-channel}
use Rattle.changes.proofs.set_channel.Goals as goal

pub returns : goal.returns
unfolding slot_bytes
returns c =
    let s = c.args.s.now in
    let end = c.args.c in
    let full : length end.version ≡ 24 = search rules in
    c.put_channel.ensures ∙
    exact-channel s c.requires.0 (bytes-array s (search rules)) c.args.j (some end) (length-channel end full, tt) c.requires.1
