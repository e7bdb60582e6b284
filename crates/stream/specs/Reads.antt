-- The reads of a whole input, one behind the other, and the text that is written for them.
use Rattle.std.specs.Prelude.{◌≡◌, true, List, [], ◌∷◌, ◌++◌, ℕ, ◌/◌, ◌≤◌, ◌<◌, length}
use Rattle.wire.specs.Choice.{pick}
use Rattle.input.specs.declared.Given.{Given}
use Rattle.input.specs.declared.Given.TheVariants.{Read, Ended, Failed}
use Rattle.trace.specs.declared.Replay.{Replay}
use Rattle.trace.specs.Trace.{fresh_replay}
use Rattle.transcript.specs.Transcript.{line_room, last_line, fresh_room, transcript_of}
use Rattle.transcript.specs.Pieces.{Piece, fed_pieces, joined}
use Rattle.stream.specs.Stream.{Taken, taken_of}

-- the room that the program has for a piece of the input, and for text
abbrev pub piece_room : ℕ
piece_room = 4096

abbrev pub text_room : ℕ
text_room = 65536

-- a read that gave bytes: these, and what stands behind them in the piece
pub record Gave : Type 0 where
  pub bytes : List ℕ
  pub old : List ℕ

abbrev pub taken_at : Replay → (room held : List ℕ) → Gave → Taken
taken_at replay room held g = taken_of text_room (Read (length g.bytes)) replay room held (g.bytes ++ g.old)

-- THE TEXT that is written for reads that gave bytes and a last one that gave none. There is no read behind one that
-- says so
abbrev pub written : Given → Replay → (room held : List ℕ) → List Gave → List ℕ
written last replay room held [] = (taken_of text_room last replay room held []).text
written last replay room held (g ∷ gs) =
    (taken_at replay room held g).text
    ++ pick (taken_at replay room held g).more
    (written last (taken_at replay room held g).replay (taken_at replay room held g).room
    (taken_at replay room held g).kept gs) []

-- what is held and what is read have room in the piece
abbrev pub InPiece : Replay → (room held : List ℕ) → List Gave → Type 0
InPiece replay room held [] = Unit {0}
InPiece replay room held (g ∷ gs) =
    (length (held ++ g.bytes) ≤ piece_room)
    × InPiece (taken_at replay room held g).replay (taken_at replay room held g).room
    (taken_at replay room held g).kept gs

-- the pieces that were read
abbrev pub pieces_of : List Gave → List Piece
pieces_of [] = []
pieces_of (g ∷ gs) = record { bytes = g.bytes; records = text_room / line_room } ∷ pieces_of gs

-- a read that follows has room behind what is held, so that one that gives no byte is the end of the input
abbrev pub RoomHolds : Type 0
RoomHolds =
    (replay : Replay) (room held : List ℕ) (g : Gave) → let t = taken_at replay room held g in
    length (held ++ g.bytes) ≤ piece_room → t.more ≡ true → length t.kept < piece_room

-- THE PROMISE: up to the end of the input, the text that is written is the text for all bytes that were read
abbrev pub ReadsHold : Type 0
ReadsHold =
    (gs : List Gave) → InPiece fresh_replay fresh_room [] gs
    → written Ended fresh_replay fresh_room [] gs ≡ transcript_of (joined (pieces_of gs))

-- and up to a read that failed, the lines of the records that were read, and `torn`
abbrev pub FailsHold : Type 0
FailsHold =
    (gs : List Gave) → let f = fed_pieces fresh_replay fresh_room [] (pieces_of gs) in
    written Failed fresh_replay fresh_room [] gs ≡ f.text ++ last_line f.replay 1
