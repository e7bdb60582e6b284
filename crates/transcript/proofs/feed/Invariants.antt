-- Turns, as long as a record is read and a line has room.
use Rattle.std.proofs.Common.{◌≡◌, length}
use Rattle.transcript.proofs.ReachedLaws.{Reached}
use Rattle.transcript.proofs.feed.Given as goal

abbrev pub invariant-loop : goal.invariant-loop
invariant-loop l =
    Reached l.lines l.initial.p.replay l.initial.room l.input l.initial.text l.counter l.p l.room l.text
    × ((length l.room ≡ length l.initial.room) × (length l.text ≡ length l.initial.text))
