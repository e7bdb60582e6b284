-- The text for an input does not depend on how the input is cut into pieces. Assumes nothing.
use mathlib.Core.Path.{◌≡◌, refl, sym, ap, ◌∙◌}
use mathlib.Core.List.{List, [], ◌∷◌, ◌++◌, append_assoc, append-nil}
use Prim.Native.Nat.{ℕ, zero, suc, ◌≤◌}
use native.Mathlib.Omega.{arith}
use lib.ListN.{length, take, drop, length-drop}
use lib.Seq.{take-append-le, drop-append-le}
use Rattle.trace.specs.declared.Replay.{Replay}
use Rattle.text.specs.Line.{line_of, torn_word}
use Rattle.trace.specs.Trace.{fresh_replay, over, stepped}
use Rattle.transcript.specs.Transcript.{Fed, stays, fed, finished, fresh_room, last_line, text_from}
use Rattle.transcript.specs.Pieces.{Piece, fed_piece, fed_pieces, joined, HaveRoom, PiecesHold}
use Rattle.transcript.proofs.FedLaws.{Turn, idle, tears, reads, read_at, fed-over, turn-of, fed-enough}
use Rattle.transcript.proofs.FedLaws.{Done, fed-done}

-- by one record more than there are bytes
text-more : (replay : Replay) (room bs : List ℕ)
    → text_from replay room bs ≡ finished (fed (suc (length bs)) replay room bs)
unfolding text_from
text-more replay room bs =
    ap finished (fed-enough (length bs) (suc (length bs)) replay room bs (omega arith) (omega arith))

text-over : (n k : ℕ) (room bs : List ℕ) → text_from (over n k) room bs ≡ []
unfolding text_from
text-over n k room bs = rw (fed-over (length bs) (over n k) room bs refl)

-- a whole record, and then the text for the rest
text-read : (k : ℕ) (replay : Replay) (room bs : List ℕ) → let s = stepped replay room (take k bs) in
    fed (suc (length bs)) replay room bs ≡ read_at (length bs) k replay room bs
    → text_from replay room bs ≡ s.text ++ text_from s.replay s.room (drop k bs)
unfolding text_from
text-read k replay room bs h =
    let s = stepped replay room (take k bs) in
    let d : length (drop k bs) ≤ length bs = omega (arith, length-drop k bs) in
    let e = fed-enough (length bs) (length (drop k bs)) s.replay s.room (drop k bs) d (omega arith) in
    let f = fed (length (drop k bs)) s.replay s.room (drop k bs) in
    text-more replay room bs ∙ rw (h, e) (append_assoc s.text f.text (last_line f.replay (length f.rest)))

-- feeding some records leaves the text for what stands behind them
abbrev GoesOn : (n : ℕ) → Replay → (room bs cs : List ℕ) → Type 0
GoesOn n replay room bs cs =
    text_from replay room (bs ++ cs)
    ≡ (fed n replay room bs).text
    ++ text_from (fed n replay room bs).replay (fed n replay room bs).room ((fed n replay room bs).rest ++ cs)

text-fed : (n : ℕ) (replay : Replay) (room bs cs : List ℕ) → GoesOn n replay room bs cs
unfolding fed
text-fed zero replay room bs cs = refl
text-fed (suc n) replay room bs cs =
    by_turn (turn-of replay room bs) (λ k after room'. text-fed n after room' (drop k bs) cs) where
      by_turn : Turn replay room bs
          → ((k : ℕ) (after : Replay) (room' : List ℕ) → GoesOn n after room' (drop k bs) cs)
          → GoesOn (suc n) replay room bs cs
      by_turn (idle h) rest = rw (h (suc n))
      by_turn (tears l h more) rest =
          let torn = more (length (bs ++ cs)) cs in
          rw (h n, text-more replay room (bs ++ cs), torn, text-over replay.count replay.size room (bs ++ cs))
      by_turn (reads k l r h more) rest =
          let s = stepped replay room (take k bs) in
          let f = fed n s.replay s.room (drop k bs) in
          let t = text-read k replay room (bs ++ cs) (more (length (bs ++ cs)) cs) in
          rw (h n, t, take-append-le k bs cs r, drop-append-le k bs cs r, rest k s.replay s.room)
          (sym (append_assoc s.text f.text (text_from f.replay f.room (f.rest ++ cs))))

-- so the texts of pieces, put together, are the text for all
text-pieces : (ps : List Piece) (replay : Replay) (room held : List ℕ) → let f = fed_pieces replay room held ps in
    text_from replay room (held ++ joined ps) ≡ f.text ++ text_from f.replay f.room f.rest
text-pieces [] replay room held = rw (append-nil held)
text-pieces (p ∷ ps) replay room held =
    let f = fed_piece replay room held p in
    let g = fed_pieces f.replay f.room f.rest ps in
    let one = text-fed p.records replay room (held ++ p.bytes) (joined ps) in
    let all = text-pieces ps f.replay f.room f.rest in
    ap (text_from replay room) (sym (append_assoc held p.bytes (joined ps)))
    ∙ one ∙ ap (λ (t : List ℕ). f.text ++ t) all
    ∙ sym (append_assoc f.text g.text (text_from g.replay g.room g.rest))

-- where no record is left, the last line is all
text-done : (f : Fed) → Done f → text_from f.replay f.room f.rest ≡ last_line f.replay (length f.rest)
unfolding fed text_from
text-done f h = by_turn (turn-of f.replay f.room f.rest) where
  by_turn : Turn f.replay f.room f.rest
      → text_from f.replay f.room f.rest ≡ last_line f.replay (length f.rest)
  by_turn (idle e) = rw (e (length f.rest))
  by_turn (tears l e more) =
      let z : length (line_of torn_word f.replay.count) ≡ 0 = ap (λ (g : Fed). length g.text) (sym (e 0) ∙ h) in
      absurd (omega arith)
  by_turn (reads k l r e more) =
      let z : length (drop k f.rest) ≡ length f.rest = ap (λ (g : Fed). length g.rest) (sym (e 0) ∙ h) in
      absurd (omega (arith, length-drop k f.rest))

-- and none is left behind the last piece
pieces-done : (ps : List Piece) (replay : Replay) (room held : List ℕ) → Done (stays replay room held)
    → HaveRoom replay room held ps → Done (fed_pieces replay room held ps)
pieces-done [] replay room held d h = d
pieces-done (p ∷ ps) replay room held d h =
    let f = fed_piece replay room held p in
    pieces-done ps f.replay f.room f.rest (fed-done p.records replay room (held ++ p.bytes) h.0) h.1

pub pieces : PiecesHold
unfolding fed
pieces ps h =
    let f = fed_pieces fresh_replay fresh_room [] ps in
    let start = fed-done 0 fresh_replay fresh_room [] (omega arith) in
    let done = pieces-done ps fresh_replay fresh_room [] start h in
    ap (λ (t : List ℕ). f.text ++ t) (sym (text-done f done)) ∙ sym (text-pieces ps fresh_replay fresh_room [])
