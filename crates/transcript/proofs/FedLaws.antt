-- Laws of feeding: by turns, and by pieces. Assumes nothing.
use mathlib.Core.Path.{◌≡◌, refl, sym, ap, ◌∙◌}
use mathlib.Core.Bool.{true, false}
use mathlib.Core.List.{List, ◌++◌, append-nil}
use Prim.Native.Nat.{ℕ, zero, suc, ◌+◌, ◌*◌, ◌-◌, ◌≤◌, ◌<◌}
use native.Mathlib.Omega.{arith}
use lib.ListN.{length, take, drop, length-append, length-drop}
use lib.Seq.{drop-drop}
use Rattle.wire.specs.Bytes.{field}
use Rattle.wire.proofs.ChoiceLaws.{cases}
use Rattle.reader.specs.declared.Front.TheVariants.{Whole, Torn, Short}
use Rattle.reader.specs.Front.{least_record, greatest_record, front_of}
use Rattle.reader.proofs.FrontLaws.{View, short, torn, whole, view, front-torn, front-whole, good-room, field-append}
use Rattle.text.specs.Line.{line_of, torn_word}
use Rattle.trace.specs.declared.Replay.{Replay}
use Rattle.trace.specs.Trace.{is_over, over, stepped}
use Rattle.transcript.specs.Transcript.{Fed, stays, behind, fed}

-- FEEDING
abbrev pub torn_at : Replay → (room bytes : List ℕ) → Fed
torn_at replay room bs =
    record {
      text = line_of torn_word replay.count;
      replay = over replay.count replay.size;
      room = room;
      rest = bs;
    }

abbrev pub read_at : (records k : ℕ) → Replay → (room bytes : List ℕ) → Fed
read_at n k replay room bs =
    behind (stepped replay room (take k bs)).text
    (fed n (stepped replay room (take k bs)).replay (stepped replay room (take k bs)).room (drop k bs))

-- the three cases, whatever stands behind the bytes: nothing is read, a torn record ends the replay, a whole one is
-- read
pub data Turn (replay : Replay) (room bs : List ℕ) : Type 0 where
  idle : ((n : ℕ) → fed n replay room bs ≡ stays replay room bs) → Turn replay room bs
  tears : 4 ≤ length bs → ((n : ℕ) → fed (suc n) replay room bs ≡ torn_at replay room bs)
      → ((n : ℕ) (cs : List ℕ) → fed (suc n) replay room (bs ++ cs) ≡ torn_at replay room (bs ++ cs))
      → Turn replay room bs
  reads : (k : ℕ) → least_record ≤ k → k ≤ length bs → ((n : ℕ) → fed (suc n) replay room bs ≡ read_at n k replay room bs)
      → ((n : ℕ) (cs : List ℕ) → fed (suc n) replay room (bs ++ cs) ≡ read_at n k replay room (bs ++ cs))
      → Turn replay room bs

pub fed-over : (n : ℕ) (replay : Replay) (room bs : List ℕ) → is_over replay.phase ≡ true
    → fed n replay room bs ≡ stays replay room bs
unfolding fed
fed-over zero replay room bs e = refl
fed-over (suc n) replay room bs e = rw e

pub fed-short : (n : ℕ) (replay : Replay) (room bs : List ℕ) → front_of bs ≡ Short
    → fed n replay room bs ≡ stays replay room bs
unfolding fed
fed-short zero replay room bs h = refl
fed-short (suc n) replay room bs h = cases (is_over replay.phase) (λ e. rw e) (λ e. rw (e, h))

pub fed-torn : (n : ℕ) (replay : Replay) (room bs : List ℕ) → is_over replay.phase ≡ false → front_of bs ≡ Torn
    → fed (suc n) replay room bs ≡ torn_at replay room bs
unfolding fed
fed-torn n replay room bs e h = rw (e, h)

pub fed-whole : (n k : ℕ) (replay : Replay) (room bs : List ℕ) → is_over replay.phase ≡ false → front_of bs ≡ Whole k
    → fed (suc n) replay room bs ≡ read_at n k replay room bs
unfolding fed
fed-whole n k replay room bs e h = rw (e, h)

pub turn-of : (replay : Replay) (room bs : List ℕ) → Turn replay room bs
unfolding fed
turn-of replay room bs =
    cases (is_over replay.phase) (λ e. idle (λ n. fed-over n replay room bs e)) (λ e. by-view e (view bs)) where
      longer : {k : ℕ} (cs : List ℕ) → k ≤ length bs → k ≤ length (bs ++ cs)
      longer {k} cs l = omega (arith, length-append bs cs)

      by-view : is_over replay.phase ≡ false → View bs → Turn replay room bs
      by-view e (short h few) = idle (λ n. fed-short n replay room bs h)
      by-view e (torn l g) =
          let more : (cs : List ℕ) → front_of (bs ++ cs) ≡ Torn =
          λ cs. front-torn (bs ++ cs) (longer cs l) (rw (field-append bs cs l) g) in
          tears l (λ n. fed-torn n replay room bs e (front-torn bs l g))
          (λ n cs. fed-torn n replay room (bs ++ cs) e (more cs))
      by-view e (whole l g r) =
          let k = field 0 4 bs in
          let more : (cs : List ℕ) → front_of (bs ++ cs) ≡ Whole (field 0 4 bs) =
          λ cs. let q = field-append bs cs l in
          rw (← q) (front-whole (bs ++ cs) (longer cs l) (rw q g) (rw q (longer cs r))) in
          reads k (good-room bs g).0 r (λ n. fed-whole n k replay room bs e (front-whole bs l g r))
          (λ n cs. fed-whole n k replay room (bs ++ cs) e (more cs))

-- lines before nothing more
behind-stays : (t : List ℕ) (replay : Replay) (room bs : List ℕ)
    → behind t (stays replay room bs) ≡ record { text = t; replay = replay; room = room; rest = bs }
behind-stays t replay room bs =
    ap (λ (u : List ℕ). record { text = u; replay = replay; room = room; rest = bs }) (append-nil t)

-- TURNS: one record, and then the rest
pub fed-turn : (n : ℕ) (replay : Replay) (room bs : List ℕ) → fed (suc n) replay room bs
    ≡ behind (fed 1 replay room bs).text
    (fed n (fed 1 replay room bs).replay (fed 1 replay room bs).room (fed 1 replay room bs).rest)
unfolding fed
fed-turn n replay room bs = by_turn (turn-of replay room bs) where
  by_turn : Turn replay room bs → fed (suc n) replay room bs
      ≡ behind (fed 1 replay room bs).text
      (fed n (fed 1 replay room bs).replay (fed 1 replay room bs).room (fed 1 replay room bs).rest)
  by_turn (idle h) = rw (h (suc n), h 1, h n)
  by_turn (tears l h more) =
      let after = over replay.count replay.size in
      rw (h n, h 0, fed-over n after room bs refl) (sym (behind-stays (line_of torn_word replay.count) after room bs))
  by_turn (reads k l r h more) = rw (h n, h 0, append-nil)

-- what is left is no longer, and a turn that reads nothing is the last
pub fed-rest : (replay : Replay) (room bs : List ℕ) → length (fed 1 replay room bs).rest ≤ length bs
unfolding fed
fed-rest replay room bs = by_turn (turn-of replay room bs) where
  by_turn : Turn replay room bs → length (fed 1 replay room bs).rest ≤ length bs
  by_turn (idle h) = rw (h 1) (omega arith)
  by_turn (tears l h more) = rw (h 0) (omega arith)
  by_turn (reads k l r h more) = rw (h 0) (omega (arith, length-drop k bs))

pub fed-still : (n : ℕ) (replay : Replay) (room bs : List ℕ) → length (fed 1 replay room bs).rest ≡ length bs
    → fed n (fed 1 replay room bs).replay (fed 1 replay room bs).room (fed 1 replay room bs).rest
    ≡ stays (fed 1 replay room bs).replay (fed 1 replay room bs).room (fed 1 replay room bs).rest
unfolding fed
fed-still n replay room bs same = by_turn (turn-of replay room bs) where
  by_turn : Turn replay room bs
      → fed n (fed 1 replay room bs).replay (fed 1 replay room bs).room (fed 1 replay room bs).rest
      ≡ stays (fed 1 replay room bs).replay (fed 1 replay room bs).room (fed 1 replay room bs).rest
  by_turn (idle h) = rw (h 1, h n)
  by_turn (tears l h more) = rw (h 0, fed-over n (over replay.count replay.size) room bs refl)
  by_turn (reads k l r h more) =
      let e = ap (λ (f : Fed). length f.rest) (h 0) in
      absurd (omega (arith, e, same, length-drop k bs))

-- what is left stands behind what was read
abbrev Behind : (bs xs : List ℕ) → Type 0
Behind bs xs = xs ≡ drop (length bs - length xs) bs

pub drop-behind : (k : ℕ) (bs xs : List ℕ) → k ≤ length bs → Behind (drop k bs) xs → Behind bs xs
drop-behind k bs xs h e =
    let j = length (drop k bs) - length xs in
    let place : k + j ≡ length bs - length xs =
    omega (arith, length-drop k bs, ap length e, length-drop j (drop k bs)) in
    e ∙ drop-drop j k bs ∙ ap (λ (i : ℕ). drop i bs) place

pub fed-behind : (n : ℕ) (replay : Replay) (room bs : List ℕ) → Behind bs (fed n replay room bs).rest
unfolding fed
fed-behind zero replay room bs = let z : length bs - length bs ≡ 0 = omega arith in rw z
fed-behind (suc n) replay room bs =
    by_turn (turn-of replay room bs) (λ k after room'. fed-behind n after room' (drop k bs)) where
      by_turn : Turn replay room bs
          → ((k : ℕ) (after : Replay) (room' : List ℕ) → Behind (drop k bs) (fed n after room' (drop k bs)).rest)
          → Behind bs (fed (suc n) replay room bs).rest
      by_turn (idle h) rest = let z : length bs - length bs ≡ 0 = omega arith in rw (h (suc n), z)
      by_turn (tears l h more) rest = let z : length bs - length bs ≡ 0 = omega arith in rw (h n, z)
      by_turn (reads k l r h more) rest =
          let s = stepped replay room (take k bs) in
          rw (h n)
          (drop-behind k bs (fed n s.replay s.room (drop k bs)).rest r (rest k s.replay s.room))

-- ENOUGH: no more records are read than there are bytes
none_at_all : (m : ℕ) (replay : Replay) (room bs : List ℕ) → length bs ≤ 0 → Turn replay room bs
    → fed m replay room bs ≡ stays replay room bs
none_at_all m replay room bs p (idle h) = h m
none_at_all m replay room bs p (tears l h more) = absurd (omega arith)
none_at_all m replay room bs p (reads k l r h more) = absurd (omega arith)

pub fed-enough : (n m : ℕ) (replay : Replay) (room bs : List ℕ) → length bs ≤ n → length bs ≤ m
    → fed n replay room bs ≡ fed m replay room bs
unfolding fed
fed-enough zero m replay room bs p q = sym (none_at_all m replay room bs p (turn-of replay room bs))
fed-enough (suc n) zero replay room bs p q = none_at_all (suc n) replay room bs q (turn-of replay room bs)
fed-enough (suc n) (suc m) replay room bs p q =
    by_turn (turn-of replay room bs)
    (λ k l after room'. let d = length-drop k bs in
    fed-enough n m after room' (drop k bs) (omega (arith, d)) (omega (arith, d))) where
      by_turn : Turn replay room bs
          → ((k : ℕ) → least_record ≤ k → (after : Replay) (room' : List ℕ)
          → fed n after room' (drop k bs) ≡ fed m after room' (drop k bs))
          → fed (suc n) replay room bs ≡ fed (suc m) replay room bs
      by_turn (idle h) rest = rw (h (suc n), h (suc m))
      by_turn (tears l h more) rest = rw (h n, h m)
      by_turn (reads k l r h more) rest =
          let s = stepped replay room (take k bs) in
          rw (h n, h m, rest k l s.replay s.room)

-- DONE: no record is left that could be fed
abbrev pub Done : Fed → Type 0
Done f = fed 1 f.replay f.room f.rest ≡ stays f.replay f.room f.rest

-- so it is where there was room for as many records as there can be
pub fed-done : (n : ℕ) (replay : Replay) (room bs : List ℕ) → length bs ≤ least_record * n → Done (fed n replay room bs)
unfolding fed
fed-done zero replay room bs p = none_at_all 1 replay room bs (omega arith) (turn-of replay room bs)
fed-done (suc n) replay room bs p =
    by_turn (turn-of replay room bs)
    (λ k l after room'. fed-done n after room' (drop k bs) (omega (arith, length-drop k bs))) where
      by_turn : Turn replay room bs
          → ((k : ℕ) → least_record ≤ k → (after : Replay) (room' : List ℕ) → Done (fed n after room' (drop k bs)))
          → Done (fed (suc n) replay room bs)
      by_turn (idle h) rest = rw (h (suc n)) (h 1)
      by_turn (tears l h more) rest = rw (h n) (fed-over 1 (over replay.count replay.size) room bs refl)
      by_turn (reads k l r h more) rest =
          let s = stepped replay room (take k bs) in
          rw (h n) (rest k l s.replay s.room)

-- and what is left is then less than the longest record, or the replay is over
pub done-room : (f : Fed) → Done f → is_over f.replay.phase ≡ false → length f.rest < greatest_record
unfolding fed
done-room f h e = by-view (view f.rest) where
  by-view : View f.rest → length f.rest < greatest_record
  by-view (short s few) = few
  by-view (torn l g) =
      let read = fed-torn 0 f.replay f.room f.rest e (front-torn f.rest l g) in
      let z : length (line_of torn_word f.replay.count) ≡ 0 = ap (λ (g : Fed). length g.text) (sym read ∙ h) in
      absurd (omega arith)
  by-view (whole l g r) =
      let k = field 0 4 f.rest in
      let read = fed-whole 0 k f.replay f.room f.rest e (front-whole f.rest l g r) in
      let z : length (drop k f.rest) ≡ length f.rest = ap (λ (g : Fed). length g.rest) (sym read ∙ h) in
      absurd (omega (arith, length-drop k f.rest, (good-room f.rest g).0))
