-- The text that is written for the reads of an input is the text for the input. Assumes nothing.
use mathlib.Core.Path.{◌≡◌, refl, sym, ap, subst, ◌∙◌}
use mathlib.Core.Bool.{true}
use mathlib.Core.List.{List, [], ◌∷◌, ◌++◌, append_assoc, append-nil}
use Prim.Native.Nat.{ℕ, ◌/◌, ◌<◌}
use native.Mathlib.Omega.{arith}
use lib.Dec.{T as Holds}
use lib.ListN.{length}
use lib.Seq.{take-append_seam}
use borrow.Author.Tests.{not-true}
use Rattle.wire.proofs.ChoiceLaws.{cases}
use Rattle.input.specs.declared.Given.{Given}
use Rattle.input.specs.declared.Given.TheVariants.{Read, Ended, Failed}
use Rattle.trace.specs.declared.Phase.{Phase}
use Rattle.trace.specs.declared.Phase.TheVariants.{Before, Running, Over}
use Rattle.trace.specs.declared.Replay.{Replay}
use Rattle.trace.specs.Trace.{fresh_replay, is_over}
use Rattle.transcript.specs.Transcript.{line_room, last_in, last_line, fresh_room}
use Rattle.transcript.specs.Pieces.{Piece, fed_piece, fed_pieces, HaveRoom}
use Rattle.transcript.proofs.FedLaws.{fed-over, fed-done, done-room}
use Rattle.transcript.proofs.PieceLaws.{pieces}
use Rattle.stream.specs.Stream.{Taken, fed_on, taken_of}
use Rattle.stream.specs.Reads.{piece_room, text_room, Gave, taken_at, written, InPiece, pieces_of}
use Rattle.stream.specs.Reads.{RoomHolds, ReadsHold, FailsHold}
use Rattle.stream.proofs.StreamLaws.{last-within}

abbrev piece_of : Gave → Piece
piece_of g = record { bytes = g.bytes; records = text_room / line_room }

-- what a read does is to feed its bytes
taken-fed : (replay : Replay) (room held : List ℕ) (g : Gave)
    → taken_at replay room held g ≡ fed_on (fed_piece replay room held (piece_of g))
taken-fed replay room held g = rw (take-append_seam g.bytes g.old)

-- nothing is fed, and no line is last, where the replay is over
over-fed : (ps : List Piece) (replay : Replay) (room held : List ℕ) → is_over replay.phase ≡ true
    → ((fed_pieces replay room held ps).text ≡ []) × ((fed_pieces replay room held ps).replay ≡ replay)
over-fed [] replay room held e = (refl, refl)
over-fed (p ∷ ps) replay room held e =
    let s = fed-over p.records replay room (held ++ p.bytes) e in
    rw s (over-fed ps replay room (held ++ p.bytes) e)

over_last : (phase : Phase) (n k : ℕ) → is_over phase ≡ true → last_in phase n k ≡ []
over_last Before n k e = absurd (subst Holds (sym e) tt)
over_last Running n k e = absurd (subst Holds (sym e) tt)
over_last Over n k e = refl

-- the bytes that count as left at the last read
abbrev left_at : Given → (held : List ℕ) → ℕ
left_at (Read k) held = 0
left_at Ended held = length held
left_at Failed held = 1

-- the text of all reads: the texts of their pieces, and the last line
module _ (last : Given) (ends : (replay : Replay) (room held : List ℕ)
    → (taken_of text_room last replay room held []).text ≡ last_line replay (left_at last held)) where
  written-fed : (gs : List Gave) (replay : Replay) (room held : List ℕ)
      → let f = fed_pieces replay room held (pieces_of gs) in
      written last replay room held gs ≡ f.text ++ last_line f.replay (left_at last f.rest)
  written-fed [] replay room held = ends replay room held
  written-fed (g ∷ gs) replay room held =
      let f = fed_piece replay room held (piece_of g) in
      let r = fed_pieces f.replay f.room f.rest (pieces_of gs) in
      let k = left_at last r.rest in
      let all = written-fed gs f.replay f.room f.rest in
      cases (is_over f.replay.phase)
      (λ e. let o = over-fed (pieces_of gs) f.replay f.room f.rest e in
      let none = over_last f.replay.phase f.replay.count k e in
      rw (take-append_seam g.bytes g.old, e, o.0, o.1, none) (sym (append-nil (f.text ++ []))))
      (λ e. rw (take-append_seam g.bytes g.old, e, all)
      (sym (append_assoc f.text r.text (last_line r.replay k))))

-- a piece has room for the lines of as many records as it can have
room_for : (gs : List Gave) (replay : Replay) (room held : List ℕ) → InPiece replay room held gs
    → HaveRoom replay room held (pieces_of gs)
room_for [] replay room held h = tt
room_for (g ∷ gs) replay room held h =
    let f = fed_piece replay room held (piece_of g) in
    let next : InPiece f.replay f.room f.rest gs =
    subst (λ (t : Taken). InPiece t.replay t.room t.kept gs) (taken-fed replay room held g) h.1 in
    (omega (arith, h.0), room_for gs f.replay f.room f.rest next)

pub reads-room : RoomHolds
reads-room replay room held g h more =
    let f = fed_piece replay room held (piece_of g) in
    let e = taken-fed replay room held g in
    let on = not-true (is_over f.replay.phase) (ap (λ (t : Taken). t.more) (sym e) ∙ more) in
    let done = fed-done (text_room / line_room) replay room (held ++ g.bytes) (omega arith) in
    let few = done-room f done on in
    subst (λ (t : Taken). length t.kept < piece_room) (sym e) (omega arith)

pub reads : ReadsHold
reads gs h =
    written-fed Ended (λ replay room held. last-within text_room replay (length held) (omega arith)) gs fresh_replay
    fresh_room [] ∙ pieces (pieces_of gs) (room_for gs fresh_replay fresh_room [] h)

pub reads-failed : FailsHold
reads-failed gs =
    written-fed Failed (λ replay room held. last-within text_room replay 1 (omega arith)) gs fresh_replay fresh_room []
