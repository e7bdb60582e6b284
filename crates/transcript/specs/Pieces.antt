-- The input in pieces: each is fed behind what the one before left, with room for the lines of so many records.
use Rattle.std.specs.Prelude.{◌≡◌, List, [], ◌∷◌, ◌++◌, ℕ, ◌*◌, ◌≤◌, length}
use Rattle.trace.specs.declared.Replay.{Replay}
use Rattle.trace.specs.Trace.{fresh_replay}
use Rattle.reader.specs.Front.{least_record}
use Rattle.transcript.specs.Transcript.{Fed, stays, behind, fed, finished, fresh_room, transcript_of}

pub record Piece : Type 0 where
  pub bytes : List ℕ
  pub records : ℕ

-- a piece behind what is held
abbrev pub fed_piece : Replay → (room held : List ℕ) → Piece → Fed
fed_piece replay room held p = fed p.records replay room (held ++ p.bytes)

abbrev pub fed_pieces : Replay → (room held : List ℕ) → List Piece → Fed
fed_pieces replay room held [] = stays replay room held
fed_pieces replay room held (p ∷ ps) =
    behind (fed_piece replay room held p).text
    (fed_pieces (fed_piece replay room held p).replay (fed_piece replay room held p).room
    (fed_piece replay room held p).rest ps)

abbrev pub joined : List Piece → List ℕ
joined [] = []
joined (p ∷ ps) = p.bytes ++ joined ps

-- each had room for as many records as it can have, what was held included
abbrev pub HaveRoom : Replay → (room held : List ℕ) → List Piece → Type 0
HaveRoom replay room held [] = Unit {0}
HaveRoom replay room held (p ∷ ps) =
    (length (held ++ p.bytes) ≤ least_record * p.records)
    × HaveRoom (fed_piece replay room held p).replay (fed_piece replay room held p).room
    (fed_piece replay room held p).rest ps

-- THE PROMISE: however the input is cut into pieces, their texts and the last line are the text for the whole
abbrev pub PiecesHold : Type 0
PiecesHold =
    (ps : List Piece) → HaveRoom fresh_replay fresh_room [] ps
    → finished (fed_pieces fresh_replay fresh_room [] ps) ≡ transcript_of (joined ps)
