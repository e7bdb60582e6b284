-- Laws of a replay: the store at the front of its room. Assumes nothing.
use Rattle.std.proofs.Common.{◌≡◌, ℕ, ◌≤◌, true, false, List, ◌++◌, length, take, drop, sym, ap, ◌∙◌, length-take-le, leb-true, ne_eqb, refl}
use borrow.Author.Tests.{eqb-false}
use Rattle.std.specs.Prelude.{Result, Ok, Err, is_ok}
use Rattle.wire.proofs.ChoiceLaws.{and_both, clash}
use Rattle.refusal.specs.declared.Refusal.{Refusal}
use Rattle.refusal.specs.Number.{answer_of, refusal_number}
use Rattle.refusal.proofs.NumberLaws.{number_above}
use Rattle.rules.specs.Call.{told_of}
use Rattle.openings.specs.Maker.{make_told, make_store}
use Rattle.emit.specs.Output.{at_front}
use Rattle.trace.specs.declared.Phase.TheVariants.{Running}
use Rattle.text.specs.Line.{line_of, open_word, end_word, torn_word}
use Rattle.trace.specs.Trace.{over, is_opening, openings_of, length_of, opened_text, opened_replay, opens}

-- what a call left in the first e bytes, before the bytes behind them
pub front-back : (e : ℕ) (room : List ℕ) {new left : List ℕ} → e ≤ length room → length left ≡ length (take e room)
    → left ≡ new → left ++ drop e room ≡ at_front new room
front-back e room {new} {left} h l q =
    let k : e ≡ length new = sym (length-take-le e room h) ∙ sym l ∙ ap length q in
    rw (← k, q)

-- THE NUMBER of what the handler answers
pub told-number : (told : Result ℕ Refusal) → answer_of told ≡ (told_of told).number
told-number (Ok n) = refl
told-number (Err r) = refl

-- THE FIRST RECORD, by what the maker told
pub opened-made : (told : Result Unit Refusal) (t k : ℕ) → t ≡ answer_of told → is_ok told ≡ true →
    (opened_text (answer_of told) ≡ line_of open_word t) ×
    (opened_replay (answer_of told) k ≡ record { phase = Running; count = 0; size = k })
unfolding opened_text opened_replay
opened-made (Ok u) t k e h = (rw e, refl)
opened-made (Err r) t k e h = clash {b = false} h refl

pub opened-refused : (t k : ℕ) → (t ≡ 0 → ⊥)
    → (opened_text t ≡ line_of open_word t ++ line_of end_word 0) × (opened_replay t k ≡ over 0 k)
unfolding opened_text opened_replay
opened-refused t k h = let e = ne_eqb t 0 h in (rw e, rw e)

pub opened-err : (told : Result Unit Refusal) (t k : ℕ) → t ≡ answer_of told → is_ok told ≡ false →
    (opened_text (answer_of told) ≡ line_of open_word t ++ line_of end_word 0) ×
    (opened_replay (answer_of told) k ≡ over 0 k)
opened-err (Ok u) t k e h = clash {b = true} refl h
opened-err (Err r) t k e h = rw e (opened-refused (refusal_number r) k (eqb-false (refusal_number r) 0 (number_above r)))

-- and by whether it is an opening
pub opening-room : (r : List ℕ) → is_opening r ≡ true → 8 ≤ length r
unfolding is_opening
opening-room r h = leb-true 8 (length r) (and_both h).0

pub opens-torn : (room r : List ℕ) → is_opening r ≡ false
    → opens room r ≡ record { text = line_of torn_word 0; replay = over 0 0; room = room }
unfolding opens
opens-torn room r h = rw h

pub opens-made : (room r : List ℕ) → is_opening r ≡ true → opens room r ≡ record {
  text = opened_text (make_told (take (length_of r) room) (openings_of r));
  replay = opened_replay (make_told (take (length_of r) room) (openings_of r)) (length_of r);
  room = at_front (make_store (take (length_of r) room) (openings_of r)) room;
}
unfolding opens
opens-made room r h = rw h
