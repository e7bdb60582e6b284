-- Where the loop over the records of a piece stands after i turns. Assumes nothing.
use mathlib.Core.Path.{◌≡◌, refl, sym, ap, ◌∙◌}
use mathlib.Core.List.{List, [], ◌++◌, append_assoc, append-nil}
use Prim.Native.Nat.{ℕ, suc, ◌+◌, ◌*◌, ◌-◌, ◌≤◌, ◌<◌}
use native.Mathlib.Nat.{zero-add}
use native.Mathlib.Omega.{arith}
use lib.ListN.{length, drop, length-append, length-drop}
use Rattle.wire.specs.Bytes.{patch}
use Rattle.wire.proofs.PatchLaws.{patch-then}
use Rattle.trace.specs.declared.Replay.{Replay}
use Rattle.transcript.specs.declared.Progress.{Progress}
use Rattle.transcript.specs.Transcript.{Fed, stays, behind, fed, line_room}
use Rattle.transcript.specs.Feeds.{Feeds}
use Rattle.transcript.proofs.FedLaws.{fed-turn, fed-rest, fed-still}
use Rattle.transcript.proofs.TurnLaws.{drop-left, length-fed-one, rest-behind}

-- the lines so far, and what is left to be fed
pub record Reached (n : ℕ) (replay : Replay) (room input text : List ℕ) (i : ℕ) (p : Progress) (room' text' : List ℕ) :
    Type 0 where
  pub lines : List ℕ
  pub turns : i ≤ n
  pub all : fed n replay room input ≡ behind lines (fed (n - i) p.replay room' (drop p.read input))
  pub stored : text' ≡ patch 0 lines text
  pub count : p.size ≡ length lines
  pub within : p.size ≤ line_room * i
  pub inside : p.read ≤ length input

module _ (n : ℕ) (replay : Replay) (room input text : List ℕ) where
  pub reached-start : Reached n replay room input text 0 (record { replay = replay; read = 0; size = 0 }) room text
  unfolding patch
  reached-start =
      let z : n - 0 ≡ n = omega arith in
      record {
        lines = [];
        turns = omega arith;
        all = rw z;
        stored = refl;
        count = refl;
        within = omega arith;
        inside = omega arith;
      }

  module _ {i : ℕ} {p q : Progress} {room' text' room'' text'' : List ℕ}
      (r : Reached n replay room input text i p room' text') (more : i < n)
      (h : Feeds (fed 1 p.replay room' (drop p.read input)) p.size input text' q room'' text'') where
    abbrev turned : Fed
    turned = fed 1 p.replay room' (drop p.read input)

    replay-next : q.replay ≡ turned.replay
    replay-next = ap (λ (x : Progress). x.replay) h.0

    read_next : q.read ≡ length input - length turned.rest
    read_next = ap (λ (x : Progress). x.read) h.0

    size-next : q.size ≡ p.size + length turned.text
    size-next = ap (λ (x : Progress). x.size) h.0

    place-next : drop q.read input ≡ turned.rest
    place-next =
        ap (λ (j : ℕ). drop j input) read_next ∙ sym (rest-behind p.read p.replay room' input r.inside)

    pub reached-next : Reached n replay room input text (i + 1) q room'' text''
    reached-next =
        let f = turned in
        let g = fed (n - (i + 1)) f.replay f.room f.rest in
        let m : n - i ≡ suc (n - (i + 1)) = omega arith in
        let t : fed (n - i) p.replay room' (drop p.read input) ≡ behind f.text g =
        rw m (fed-turn (n - (i + 1)) p.replay room' (drop p.read input)) in
        let one = length-fed-one p.replay room' (drop p.read input) in
        let l = length-append r.lines f.text in
        let both : behind r.lines (behind f.text g) ≡ behind (r.lines ++ f.text) g =
        ap (λ (u : List ℕ). record { text = u; replay = g.replay; room = g.room; rest = g.rest })
        (sym (append_assoc r.lines f.text g.text)) in
        let z : p.size ≡ 0 + length r.lines = omega (arith, r.count) in
        record {
          lines = r.lines ++ f.text;
          turns = omega arith;
          all = r.all ∙ ap (behind r.lines) t ∙ both ∙ rw (replay-next, h.1.0, place-next);
          stored = h.1.1 ∙ rw (r.stored, z) (patch-then 0 (length r.lines) r.lines f.text text refl);
          count = omega (arith, size-next, r.count);
          within = omega (arith, size-next, r.within);
          inside = omega (arith, read_next);
        }

    -- a turn that read nothing is the last
    pub reached-still : q.read ≡ p.read
        → fed (n - (i + 1)) q.replay room'' (drop q.read input) ≡ stays q.replay room'' (drop q.read input)
    reached-still e =
        let least = fed-rest p.replay room' (drop p.read input) in
        let same : length turned.rest ≡ length (drop p.read input) =
        omega (arith, read_next, r.inside, length-drop p.read input) in
        rw (replay-next, h.1.0, place-next) (fed-still (n - (i + 1)) p.replay room' (drop p.read input) same)

  -- where nothing is left to be fed
  pub reached-done : {i : ℕ} {p : Progress} {room' text' : List ℕ} → Reached n replay room input text i p room' text'
      → fed (n - i) p.replay room' (drop p.read input) ≡ stays p.replay room' (drop p.read input)
      → Feeds (fed n replay room input) 0 input text p room' text'
  reached-done {i} {p} {room'} {text'} r e =
      rw (r.all, e, append-nil, drop-left p.read input r.inside, zero-add, ← r.count) (refl, (refl, r.stored))
