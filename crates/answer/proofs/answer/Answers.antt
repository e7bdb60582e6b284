use Rattle.std.proofs.Common.{arith}
use borrow.Author.Tests.{lt-ltb, le-ltb}
use Rattle.slots.specs.Limits.{output_limit}
use Rattle.rules.specs.Refusals.{first_given, table}
use Rattle.verdicts.specs.Lines.{behind, number_behind}
use Rattle.answer.proofs.answer.Goals as goal

pub returns-then-room-lt-OUTPUT : goal.returns-then-room-lt-OUTPUT
unfolding table first_given
returns-then-room-lt-OUTPUT c = rw (c.requires, lt-ltb c.args.room output_limit (omega arith))

pub returns-in_default : goal.returns-in_default
unfolding table first_given
returns-in_default c =
    let unsound = rw c.in_default.is at c.sound_kind.ensures.unsound in
    rw (c.requires, le-ltb c.args.room output_limit (omega arith), unsound)

-- the answer is that of the lines behind the third
pub returns : goal.returns
unfolding number_behind behind table first_given
returns c =
    let sound = c.in-Some.ensures.sound.0 in
    rw (c.requires, le-ltb c.args.room output_limit (omega arith), sound) c.answer_sound.ensures
