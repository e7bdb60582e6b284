-- A trace: a first record that opens the store, then datagrams, each answered by a line.
use Rattle.std.specs.Prelude.{ℕ, ◌+◌, ◌%◌, ◌^◌, Bool, true, false, List, [], ◌++◌, length, take, drop, replicate, ◌==◌, nat_eq, nat_le}
use Rattle.wire.specs.Choice.{◌and◌, pick}
use Rattle.wire.specs.Bytes.{field}
use Rattle.slots.specs.Limits.{output_limit}
use Rattle.store.specs.Length.{length_for}
use Rattle.openings.specs.Maker.{make_told, make_store}
use Rattle.emit.specs.Output.{at_front}
use Rattle.rules.specs.Call.{call_told, call_store}
use Rattle.trace.specs.declared.Phase.{Phase}
use Rattle.trace.specs.declared.Phase.TheVariants.{Before, Running, Over}
use Rattle.trace.specs.declared.Replay.{Replay}
use Rattle.text.specs.Line.{decimal_of, line_of, open_word, end_word, torn_word}

-- what a record leaves: its lines, how the replay stands, and the bytes in which the store stands
pub record After : Type 0 where
  pub text : List ℕ
  pub replay : Replay
  pub room : List ℕ

abbrev pub fresh_replay : Replay
fresh_replay = record { phase = Before; count = 0; size = 0 }

abbrev pub is_over : Phase → Bool
is_over Before = false
is_over Running = false
is_over Over = true

abbrev pub over : (count size : ℕ) → Replay
over n k = record { phase = Over; count = n; size = k }

-- THE FIRST RECORD: length, kind, P (2), openings
abbrev pub trace_kind : ℕ
trace_kind = 0x0020

unfoldable pub is_opening : List ℕ → Bool
is_opening r = nat_le 8 (length r) and nat_eq (field 4 2 r) trace_kind

abbrev pub openings_of : List ℕ → List ℕ
openings_of r = drop 8 r

-- no store has P of 0 or above 512 records: the length is then 0, for which the maker answers 21
abbrev pub length_of : List ℕ → ℕ
length_of r = length_for (field 6 2 r)

-- an opening refused ends the replay
unfoldable pub opened_text : (told : ℕ) → List ℕ
opened_text t = pick (t == 0) (line_of open_word t) (line_of open_word t ++ line_of end_word 0)

unfoldable pub opened_replay : (told size : ℕ) → Replay
opened_replay t k = pick (t == 0) (record { phase = Running; count = 0; size = k }) (over 0 k)

-- the store is made at the front of the room
unfoldable pub opens : (room bytes : List ℕ) → After
opens room r =
    pick (is_opening r)
    (record {
      text = opened_text (make_told (take (length_of r) room) (openings_of r));
      replay = opened_replay (make_told (take (length_of r) room) (openings_of r)) (length_of r);
      room = at_front (make_store (take (length_of r) room) (openings_of r)) room;
    })
    (record { text = line_of torn_word 0; replay = over 0 0; room = room })

-- A DATAGRAM: its number from 1 and its answer; the count is kept in 64 bits
abbrev pub next : ℕ → ℕ
next n = (n + 1) % 2 ^ 64

abbrev pub fresh_output : List ℕ
fresh_output = replicate output_limit 0

unfoldable pub answers : Replay → (room datagram : List ℕ) → After
answers replay room d =
    record {
      text = line_of (decimal_of (next replay.count)) (call_told (take replay.size room) fresh_output d).number;
      replay = record { phase = Running; count = next replay.count; size = replay.size };
      room = at_front (call_store (take replay.size room) fresh_output d) room;
    }

abbrev pub stepped_in : Phase → Replay → (room bytes : List ℕ) → After
stepped_in Before replay room r = opens room r
stepped_in Running replay room r = answers replay room r
stepped_in Over replay room r = record { text = []; replay = replay; room = room }

abbrev pub stepped : Replay → (room bytes : List ℕ) → After
stepped replay room r = stepped_in replay.phase replay room r
