-- Before each turn the slots from i up to the one that ends at the place behind are a run. Assumes nothing.
use mathlib.Core.Path.{◌≡◌, refl, sym, ap, subst, ◌∙◌}
use mathlib.Core.List.{List}
use Prim.Native.Nat.{ℕ, ◌+◌, ◌*◌, ◌-◌, ◌/◌, ◌≤◌, ◌<◌}
use native.Mathlib.Omega.{arith}
use lib.Dec.{ltb}
use borrow.Author.Tests.{ltb-true, ltb-false}
use Rattle.wire.specs.Bytes.{Bytes, are_zero, part, field}
use Rattle.wire.proofs.PartLaws.{bytes-array}
use Rattle.wire.proofs.ChoiceLaws.{cases, clash}
use Rattle.slots.specs.Layout.{slot_size, records_from}
use Rattle.runs.specs.Run.{key_at, is_plain, Run}
use Rattle.runs.proofs.RunLaws.{sequence-at, word_same, same_word, run_none, run_more}
use Rattle.runs.proofs.run_end.Statement.{statement}
use Rattle.runs.proofs.run_end.Tie as tie

-- the index of the slot that ends at a place
abbrev index : (behind : ℕ) → ℕ
index behind = (behind - slot_size - records_from) / slot_size

-- after the slots up to index e, the last of which has a sequence
abbrev Up : List ℕ → (count i size last behind e : ℕ) → Type 0
Up s count i size last behind e =
    (Run s size i e × (e ≤ count) × (behind ≡ records_from + slot_size * e + slot_size)) ×
    ((i < e → last ≡ (key_at s (e - 1)).sequence) × (e ≡ i → last ≡ 0))

abbrev invariant-loop : tie.invariant-loop-behind
invariant-loop s count i size first word end last₀ behind₀ last behind =
    Up s count i size last behind (index behind)

abbrev decreases-loop : tie.decreases-loop-behind
decreases-loop s count i size first word end last₀ behind₀ last behind = end + 1 - behind

loop-holds : tie.Need-loop-behind-init invariant-loop decreases-loop
loop-holds c =
    let a = c.args in
    let e : a.i ≡ index (records_from + slot_size * a.i + slot_size) = omega arith in
    subst (Up a.s.now a.count a.i a.size 0 (records_from + slot_size * a.i + slot_size)) e
    ((run_none a.s.now a.size a.i, omega arith, refl), (λ l. absurd (omega arith), λ q. refl))

abbrev head : tie.After-u64_at invariant-loop decreases-loop → tie.At-loop-behind invariant-loop decreases-loop
head k = k.before.before

abbrev bytes : tie.At-loop-behind invariant-loop decreases-loop → List ℕ
bytes l = l.args.s.now

known : (l : tie.At-loop-behind invariant-loop decreases-loop) → Bytes (bytes l)
known l = bytes-array (bytes l) l.shared_slice_known-1.given

-- where its slot begins
at : (l : tie.At-loop-behind invariant-loop decreases-loop) →
    l.loop-behind.behind - slot_size ≡ records_from + slot_size * index l.loop-behind.behind
at l = omega (arith, l.loop-behind.invariant.0.2)

-- AT A SLOT: its first eight bytes and those of slot i
own-word : (k : tie.After-u64_at invariant-loop decreases-loop) → let l = head k in
    k.u64_at.result ≡ field (records_from + slot_size * index l.loop-behind.behind) 8 (bytes l)
own-word k =
    let l = head k in
    k.u64_at.ensures ∙ ap (λ (x : ℕ). field x 8 (bytes l)) (at l)

returns : tie.Need-returns-then-u64_at-word invariant-loop decreases-loop
returns c =
    let k = c.before in
    let l = head k in
    let a = l.args in
    let inv = l.loop-behind.invariant in
    record {
      run = inv.0.0;
      high = inv.0.1;
      stopped = λ m b n h o r p.
          c.if-u64_at-word.true
          (own-word k ∙
          same_word (bytes l) (known l) a.i (index l.loop-behind.behind) (omega arith) (omega arith) n b h ∙
          sym l.u64_at-word.ensures);
    }

-- ITS SEQUENCE
sequence : (k : tie.After-u64_at-next invariant-loop decreases-loop) → let l = head k.before.before in
    k.u64_at-next.result ≡ (key_at (bytes l) (index l.loop-behind.behind)).sequence
sequence k =
    let l = head k.before.before in
    k.u64_at-next.ensures ∙ ap (λ (x : ℕ). field (x + 8) 8 (bytes l)) (at l) ∙
    sym (sequence-at (bytes l) (index l.loop-behind.behind))

returns-2 : tie.Need-returns-then-next-last invariant-loop decreases-loop
returns-2 c =
    let k = c.before in
    let l = head k.before.before in
    let a = l.args in
    let inv = l.loop-behind.invariant in
    let low = inv.0.0.low in
    record {
      run = inv.0.0;
      high = inv.0.1;
      stopped = λ m b n h o r p.
          cases (ltb a.i (index l.loop-behind.behind))
          (λ f. let g = ltb-true a.i (index l.loop-behind.behind) f in
          omega (arith, c.if-next-last.true, sequence k, inv.1.0 g, r g))
          (λ f. let g = ltb-false a.i (index l.loop-behind.behind) f in
          omega (arith, c.if-next-last.true, sequence k, inv.1.1 (omega arith), o));
    }

-- THE BYTES BEHIND ITS KEY
plain : (k : tie.After-is_plain invariant-loop decreases-loop) → let l = head k.before.before.before.before in
    k.is_plain.result ≡ is_plain (bytes l) l.args.size (index l.loop-behind.behind)
plain k =
    let l = head k.before.before.before.before in
    k.is_plain.ensures ∙
    ap (λ (x : ℕ). are_zero (part (x + 16) l.args.size (bytes l))) (at l)

returns-3 : tie.Need-returns-then-not-is_plain invariant-loop decreases-loop
returns-3 c =
    let k = c.before in
    let l = head k.before.before.before.before in
    let inv = l.loop-behind.invariant in
    record {
      run = inv.0.0;
      high = inv.0.1;
      stopped = λ m b n h o r p.
          clash p (sym (plain k) ∙ c.if-not-is_plain.true);
    }

loop-again : tie.Need-loop-behind-preserved invariant-loop decreases-loop
loop-again c =
    let k = c.before in
    let word = k.before.before.before.before in
    let l = head word in
    let a = l.args in
    let s = bytes l in
    let e = index l.loop-behind.behind in
    let inv = l.loop-behind.invariant in
    let next = k.before.before in
    let seq = sequence next in
    let same = word_same s (known l) a.i e (omega arith) (omega arith)
    (sym (own-word word) ∙ k.if-u64_at-word.false ∙ l.u64_at-word.ensures) in
    let above : 1 ≤ (key_at s e).sequence = omega (arith, k.if-next-last.false, seq) in
    let rises : a.i < e → (key_at s (e - 1)).sequence < (key_at s e).sequence =
    λ f. omega (arith, k.if-next-last.false, seq, inv.1.0 f) in
    let run = run_more s a.size a.i e inv.0.0 same above rises
    (sym (plain k) ∙ c.if-not-is_plain.false) in
    let behind = inv.0.2 in
    let z : e + 1 ≡ index (l.loop-behind.behind + slot_size) = omega arith in
    let y : e ≡ e + 1 - 1 = omega arith in
    let low = inv.0.0.low in
    subst (Up s a.count a.i a.size next.u64_at-next.result (l.loop-behind.behind + slot_size)) z
    ((run, omega arith, omega arith), (λ f. seq ∙ ap (λ (x : ℕ). (key_at s x).sequence) y, λ f. absurd (omega arith)))

returns-4 : tie.Need-returns invariant-loop decreases-loop
returns-4 c =
    let inv = c.loop-behind.invariant in
    record { run = inv.0.0; high = inv.0.1; stopped = λ m b n h o r p. omega (arith, inv.0.2) }

-- the place is that of a slot, and in the loop that slot is one of the table's
from : (l : tie.At-loop-behind invariant-loop decreases-loop) → records_from + slot_size ≤ l.loop-behind.behind
from l = omega (arith, l.loop-behind.invariant.0.2)

within : (k : tie.In-loop-behind invariant-loop decreases-loop) →
    k.loop-behind.behind ≤ records_from + slot_size * k.args.count
within k = omega (arith, k.loop-behind.invariant.0.2)

pub run_end_spec : {M : Type 1} → statement M
run_end_spec =
    tie.close
    (tie.spec
    invariant-loop decreases-loop (λ c. omega arith) (λ c. omega arith) (λ c κs. omega arith) (λ c. omega arith) (λ c. omega arith)
    (λ c. omega arith) loop-holds
    (λ c. omega (arith, from c.before)) (λ c κs. omega (arith, within c, from c.before))
    (λ c. omega (arith, from (head c.before))) returns
    (λ c. omega (arith, within c.before.before)) (λ c κs. omega (arith, within c.before.before, from (head c.before)))
    (λ c. omega (arith, from (head c.before.before.before))) returns-2
    (λ c. omega (arith, within c.before.before.before.before))
    (λ c κs. omega (arith, within c.before.before.before.before, from (head c.before.before.before)))
    (λ c. omega (arith, from (head c.before.before.before.before.before))) returns-3
    (λ c. omega (arith, within c.before.before.before.before.before.before))
    (λ c. omega (arith, within c.before.before.before.before.before.before))
    loop-again (λ c. omega (arith, from c.before)) (λ c. omega (arith, from c.before)) returns-4)
