-- What the replay program does with each read of its input, and the text of all its reads.
use Rattle.std.specs.Prelude.{◌≡◌, Bool, true, false, not, List, [], ◌++◌, ℕ, ◌/◌, length, take}
use Rattle.wire.specs.Bytes.{patch}
use Rattle.input.specs.declared.Given.{Given}
use Rattle.input.specs.declared.Given.TheVariants.{Read, Ended, Failed}
use Rattle.trace.specs.declared.Replay.{Replay}
use Rattle.trace.specs.Trace.{fresh_replay, is_over}
use Rattle.transcript.specs.Transcript.{Fed, fed, line_room, last_within}
use Rattle.stream.specs.declared.Reading.{Reading}

-- what a read leaves: the text that is to be written, how the replay stands, the store's room, the bytes that are kept
-- for the next read, and whether there is to be one
pub record Taken : Type 0 where
  pub text : List ℕ
  pub replay : Replay
  pub room : List ℕ
  pub kept : List ℕ
  pub more : Bool

-- bytes were fed: what is no whole record is kept, and the next read follows unless the replay is over
abbrev pub fed_on : Fed → Taken
fed_on f =
    record {
      text = f.text;
      replay = f.replay;
      room = f.room;
      kept = f.rest;
      more = not (is_over f.replay.phase);
    }

abbrev pub ends_with : (text : List ℕ) → Replay → (room : List ℕ) → Taken
ends_with t replay room = record { text = t; replay = replay; room = room; kept = []; more = false }

-- WHAT A READ DOES, with so many bytes of room for text, by what the read gave, the bytes that were held, and those
-- that stand behind them. What was read is fed behind what was held. At the end of the input the bytes that are held
-- are left. A read that failed is not the end of the input: it counts as torn, as if a byte were left
abbrev pub taken_of : (space : ℕ) → Given → Replay → (room held behind : List ℕ) → Taken
taken_of n (Read k) replay room held bs = fed_on (fed (n / line_room) replay room (held ++ take k bs))
taken_of n Ended replay room held bs = ends_with (last_within n replay (length held)) replay room
taken_of n Failed replay room held bs = ends_with (last_within n replay 1) replay room

-- before the first read
abbrev pub fresh_reading : Reading
fresh_reading = record { replay = fresh_replay; held = 0; size = 0; more = true }

-- what the code leaves, against this: what is kept stands at the front of the piece, and the text at the front of its
-- room
abbrev pub Takes : Taken → (piece text : List ℕ) → Reading → (room' piece' text' : List ℕ) → Type 0
Takes t piece text r room' piece' text' =
    (r ≡ record { replay = t.replay; held = length t.kept; size = length t.text; more = t.more })
    × (room' ≡ t.room) × (piece' ≡ patch 0 t.kept piece) × (text' ≡ patch 0 t.text text)
