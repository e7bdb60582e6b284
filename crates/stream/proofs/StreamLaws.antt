-- Laws of what a read does: the last line, and the bytes that are kept. Assumes nothing.
use mathlib.Core.Path.{◌≡◌, sym, ap, ◌∙◌}
use mathlib.Core.Bool.{Bool, not}
use mathlib.Core.List.{List, []}
use Prim.Native.Nat.{ℕ, ◌-◌, ◌≤◌, ◌<◌}
use native.Mathlib.Nat.{zero-add}
use native.Mathlib.Omega.{arith}
use lib.ListN.{length, take, drop, length-drop}
use lib.Seq.{length-take-le, take_all}
use borrow.Author.Tests.{le-leb, lt-leb}
use Rattle.wire.specs.Bytes.{part, patch}
use Rattle.wire.proofs.PartLaws.{part-part}
use Rattle.trace.specs.declared.Replay.{Replay}
use Rattle.trace.specs.Trace.{is_over}
use Rattle.transcript.specs.declared.Progress.{Progress}
use Rattle.transcript.specs.Transcript.{Fed, fed, line_room, last_line, last_within}
use Rattle.transcript.specs.Feeds.{Feeds}
use Rattle.transcript.proofs.FedLaws.{fed-behind}
use Rattle.stream.specs.Stream.{fed_on, Takes}

-- THE LAST LINE, where there is room for it
pub last-within : (n : ℕ) (replay : Replay) (k : ℕ) → line_room ≤ n → last_within n replay k ≡ last_line replay k
unfolding last_within
last-within n replay k h = rw (le-leb line_room n h)

pub last-nowhere : (n : ℕ) (replay : Replay) (k : ℕ) → n < line_room → last_within n replay k ≡ []
unfolding last_within
last-nowhere n replay k h = rw (lt-leb line_room n h)

-- WHAT IS KEPT: the bytes behind a place in a front
drop-front : (i m : ℕ) (bs : List ℕ) → i ≤ m → m ≤ length bs → drop i (take m bs) ≡ part i (m - i) bs
unfolding part
drop-front i m bs h r =
    let l : length (drop i (take m bs)) ≤ m - i =
    omega (arith, length-drop i (take m bs), length-take-le m bs r) in
    sym (take_all (m - i) (drop i (take m bs)) l) ∙ part-part i (m - i) 0 m bs (omega arith)
    ∙ ap (λ (k : ℕ). part k (m - i) bs) (zero-add i)

-- WHAT THE CODE LEAVES, where a front was fed and what is left of it was moved to the front
module _ (n : ℕ) (replay : Replay) (room : List ℕ) (m : ℕ) (piece text : List ℕ) (p : Progress)
    (inside : m ≤ length piece) where
  abbrev f : Fed
  f = fed n replay room (take m piece)

  module _ {room' text' : List ℕ} (h : Feeds f 0 (take m piece) text p room' text') where
    read : p.read ≡ length (take m piece) - length f.rest
    read = ap (λ (x : Progress). x.read) h.0

    rest : f.rest ≡ part p.read (m - p.read) piece
    rest =
        fed-behind n replay room (take m piece) ∙ ap (λ (k : ℕ). drop k (take m piece)) (sym read)
        ∙ drop-front p.read m piece (omega (arith, read, length-take-le m piece inside)) inside

    pub takes-fed : {held : ℕ} {ended : Bool} {piece' : List ℕ}
        → (held ≡ length (part p.read (m - p.read) piece))
        × (piece' ≡ patch 0 (part p.read (m - p.read) piece) piece)
        → ended ≡ is_over p.replay.phase
        → Takes (fed_on f) piece text (record { replay = p.replay; held = held; size = p.size; more = not ended })
        room' piece' text'
    takes-fed moved over =
        let size : p.size ≡ length f.text = ap (λ (x : Progress). x.size) h.0 ∙ zero-add (length f.text) in
        let next : p.replay ≡ f.replay = ap (λ (x : Progress). x.replay) h.0 in
        (rw (over, next, size, moved.0, ← rest), h.1.0, rw (moved.1, ← rest), h.1.1)
