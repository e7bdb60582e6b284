-- The lines of a close confirm in the table: those of a step that moves an end. Assumes nothing.
use Rattle.std.proofs.Common.{◌≡◌, arith}
use Rattle.std.proofs.Math.Option.{none, some}
use Rattle.wire.specs.Choice.{◌or◌}
use Rattle.slots.specs.declared.Channel.{Channel}
use Rattle.slots.specs.Codes.{state_open, state_closed}
use Rattle.slots.specs.Layout.{Store}
use Rattle.datagram.specs.Kind.{only, close_confirm}
use Rattle.datagram.specs.Datagram.{Datagram}
use Rattle.rules.specs.Handshake.{needed_peer}
use Rattle.rules.specs.Refusals.{first_given, table}
use Rattle.verdicts.specs.Lines.{behind, number_behind}
use Rattle.steps.specs.Moving.{moving_lines}

pub close_confirm_lines : (s : Store) (d : Datagram) (c : Channel) →
    number_behind 7 (some close_confirm) s d c ≡
    first_given none (moving_lines d.context.connected d.end_verdict (needed_peer state_closed c) state_open c)
unfolding number_behind behind table first_given only ◌or◌ moving_lines
close_confirm_lines s d c = grind arith
