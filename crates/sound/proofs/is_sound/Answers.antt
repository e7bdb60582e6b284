use Rattle.std.proofs.Common.{rules, ◌≡◌, ◌≤◌, length, arith, sym, ◌∙◌}
use Rattle.std.proofs.Math.Option.{some}
use Rattle.wire.specs.Choice.{◌and◌}
use Rattle.datagram.specs.Kind.{kind_by, size_of}
use Rattle.datagram.proofs.DatagramLaws.{sized}
use Rattle.sound.proofs.SoundLaws.{whole-bytes}
use Rattle.sound.proofs.is_sound.Goals as goal

-- what a whole frame of the kind leaves to be tested
pub returns-then-not-is_sized : goal.returns-then-not-is_sized
unfolding ◌and◌
returns-then-not-is_sized c =
    rw (whole-bytes c.args.d.now c.requires.0, c.requires.1, ← c.is_sized.ensures, c.if-not-is_sized.true)

-- where its length is the kind's
pub is_body_sound-requires : goal.is_body_sound-requires
is_body_sound-requires c = sized (some (kind_by c.args.kind)) _ (sym c.is_sized.ensures ∙ c.if-not-is_sized.false)

pub is_context_sound-requires : goal.is_context_sound-requires
is_context_sound-requires c =
    omega (arith, sized (some (kind_by c.args.kind)) _ (sym c.is_sized.ensures ∙ c.if-not-is_sized.false))

pub returns : goal.returns
unfolding ◌and◌
returns c =
    rw (
      whole-bytes c.args.d.now c.requires.0,
      c.requires.1,
      ← c.is_sized.ensures,
      c.if-not-is_sized.false,
      ← c.is_context_sound.ensures,
      ← c.is_body_sound.ensures,
    )
