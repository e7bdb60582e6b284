-- Each turn stores the next end.
use Rattle.std.proofs.Common.{◌≡◌, ◌+◌, ◌*◌, refl, sym, ◌∙◌, arith}
use native.Mathlib.Nat.{sub-zero}
use Rattle.wire.specs.Bytes.{patch}
use Rattle.slots.specs.Layout.{header_size, slot_size, table_bytes}
use Rattle.openings.specs.Opening.{ends_of}
use Rattle.openings.proofs.OpeningLaws.{store-turn, openings-over}
use Rattle.store.proofs.maker.write_openings.Goals as goal

pub loop-i-init : goal.loop-i-init
unfolding ends_of
loop-i-init c = (refl, rw (ends_of, sub-zero))

pub loop-i-preserved : goal.loop-i-preserved
loop-i-preserved c =
    let v = c.loop-i in
    let at = header_size + slot_size * v.i in
    let place : at + slot_size ≡ header_size + slot_size * (v.i + 1) = omega arith in
    let turn = store-turn c.args.openings.now v.i c.loop-i-test.true at v.store in (
      c.put_channel.auto.s ∙ v.invariant.0,
      v.invariant.1 ∙ turn ∙ rw (place, ← c.opening_at.ensures, ← c.put_channel.ensures),
    )

pub returns : goal.returns
unfolding patch table_bytes
returns c =
    let v = c.loop-i in
    sym (v.invariant.1 ∙ rw (openings-over c.args.openings.now v.i c.loop-i-test.false))
