-- What the code of a turn leaves, by the cases, and how long its lines are. Assumes nothing.
use mathlib.Core.Path.{◌≡◌, refl}
use mathlib.Core.List.{List, ◌++◌, append-nil}
use Prim.Native.Nat.{ℕ, ◌+◌, ◌-◌, ◌≤◌}
use native.Mathlib.Omega.{arith}
use lib.Dec.{eqb}
use lib.ListN.{length, take, drop, length-append, length-drop}
use lib.Seq.{drop-drop}
use Rattle.wire.specs.Bytes.{patch}
use Rattle.wire.proofs.ChoiceLaws.{cases, of-pick}
use Rattle.openings.specs.Maker.{make_told}
use Rattle.rules.specs.Call.{call_told}
use Rattle.trace.specs.declared.Phase.{Phase}
use Rattle.trace.specs.declared.Phase.TheVariants.{Before, Running, Over}
use Rattle.trace.specs.declared.Replay.{Replay}
use Rattle.transcript.specs.declared.Progress.{Progress}
use Rattle.text.specs.declared.Lines.{Lines}
use Rattle.text.specs.Lines.{Stores}
use Rattle.text.specs.Line.{decimal_of, line_of, open_word, end_word, torn_word}
use Rattle.trace.specs.Trace.{over, is_opening, openings_of, length_of, opened_text, opens, next}
use Rattle.trace.specs.Trace.{fresh_output, answers, stepped_in, stepped}
use Rattle.transcript.specs.Transcript.{Fed, stays, fed, line_room}
use Rattle.trace.specs.Stepped.{Leaves}
use Rattle.transcript.specs.Feeds.{Feeds}
use Rattle.text.proofs.LineLaws.{length-decimal, length-line}
use Rattle.transcript.proofs.FedLaws.{Turn, idle, tears, reads, torn_at, read_at, turn-of, drop-behind, fed-behind}

-- the place behind what was read
pub drop-left : (k : ℕ) (bs : List ℕ) → k ≤ length bs → length bs - length (drop k bs) ≡ k
drop-left k bs h = omega (arith, length-drop k bs)

module _ (p : Progress) (room input : List ℕ) (inside : p.read ≤ length input) {lines : Lines} where
  pub feeds-stays : {f : Fed} {left : Lines} {text' : List ℕ} → f ≡ stays p.replay room (drop p.read input)
      → left ≡ lines → text' ≡ left.text.now → lines.at ≡ p.size
      → Feeds f p.size input lines.text.now (record { replay = p.replay; read = p.read; size = left.at }) room text'
  unfolding patch
  feeds-stays {f} {left} {text'} e same back start =
      let z : p.size + 0 ≡ p.size = omega arith in
      rw (e, drop-left p.read input inside, z, back, same, start) (refl, (refl, refl))

  pub feeds-torn : {f : Fed} {r : Replay} {left : Lines} {text' : List ℕ}
      → f ≡ torn_at p.replay room (drop p.read input)
      → r ≡ over p.replay.count p.replay.size → Stores (line_of torn_word p.replay.count) lines left
      → text' ≡ left.text.now → lines.at ≡ p.size
      → Feeds f p.size input lines.text.now (record { replay = r; read = p.read; size = left.at }) room text'
  feeds-torn {f} {r} {left} {text'} e o q back start =
      rw (e, o, back, q.place, q.text, start, drop-left p.read input inside) (refl, (refl, refl))

  pub feeds-read : (k : ℕ) {f : Fed} {r : Replay} {room' : List ℕ} {left : Lines} {text' : List ℕ}
      → p.read + k ≤ length input → f ≡ read_at 0 k p.replay room (drop p.read input)
      → Leaves (stepped p.replay room (take k (drop p.read input))) lines left r room' → text' ≡ left.text.now
      → lines.at ≡ p.size
      → Feeds f p.size input lines.text.now (record { replay = r; read = p.read + k; size = left.at }) room' text'
  unfolding fed
  feeds-read k {f} {r} {room'} {left} {text'} h e q back start =
      let s = stepped p.replay room (take k (drop p.read input)) in
      let rest : drop k (drop p.read input) ≡ drop (p.read + k) input = drop-drop k p.read input in
      rw (e, append-nil, rest, drop-left (p.read + k) input h, back, q.0, q.1.1.place, q.1.1.text, start)
      (refl, (q.1.0, refl))

-- LENGTHS: the lines of a record have room
length-opened : (t : ℕ) → length (opened_text t) ≤ line_room
unfolding opened_text
length-opened t =
    let one = length-line open_word t in
    let two = length-line end_word 0 in
    let l = length-append (line_of open_word t) (line_of end_word 0) in
    of-pick (λ (u : List ℕ). length u ≤ line_room) (eqb t 0) (line_of open_word t) (line_of open_word t ++ line_of end_word 0)
    (λ _. omega arith) (λ _. omega arith)

length-opens : (room r : List ℕ) → length (opens room r).text ≤ line_room
unfolding opens
length-opens room r =
    cases (is_opening r) (λ e. rw e (length-opened (make_told (take (length_of r) room) (openings_of r))))
    (λ e. rw e (let l = length-line torn_word 0 in omega arith))

length-answers : (replay : Replay) (room d : List ℕ) → length (answers replay room d).text ≤ line_room
unfolding answers
length-answers replay room d =
    let n = next replay.count in
    let t = (call_told (take replay.size room) fresh_output d).number in
    omega (arith, length-line (decimal_of n) t, length-decimal 20 n)

length-stepped : (phase : Phase) (replay : Replay) (room r : List ℕ)
    → length (stepped_in phase replay room r).text ≤ line_room
length-stepped Before replay room r = length-opens room r
length-stepped Running replay room r = length-answers replay room r
length-stepped Over replay room r = omega arith

pub length-fed-one : (replay : Replay) (room bs : List ℕ) → length (fed 1 replay room bs).text ≤ line_room
unfolding fed
length-fed-one replay room bs = by_turn (turn-of replay room bs) where
  by_turn : Turn replay room bs → length (fed 1 replay room bs).text ≤ line_room
  by_turn (idle h) = rw (h 1) (omega arith)
  by_turn (tears l h more) = rw (h 0) (let t = length-line torn_word replay.count in omega arith)
  by_turn (reads k l r h more) = rw (h 0, append-nil) (length-stepped replay.phase replay room (take k bs))

-- PLACES: what is left stands behind the place
pub rest-behind : (k : ℕ) (replay : Replay) (room input : List ℕ) → k ≤ length input
    → let f = fed 1 replay room (drop k input) in f.rest ≡ drop (length input - length f.rest) input
rest-behind k replay room input inside =
    drop-behind k input (fed 1 replay room (drop k input)).rest inside (fed-behind 1 replay room (drop k input))
