-- By the tests that led to each answer.
use Rattle.std.proofs.Common.{◌≡◌, ◌-◌, ◌≤◌, ℕ, List, not, length, drop, rules, tests, arith, lt-ltb, le-ltb}
use Rattle.std.proofs.Common.{length-drop}
use lib.Dec.{ltb}
use Rattle.wire.specs.Choice.{◌and◌, pick, is_in}
use Rattle.wire.specs.Bytes.{field, part}
use Rattle.reader.specs.Front.{front_of, least_record, greatest_record}
use Rattle.reader.specs.declared.Front.TheVariants.{Whole, Torn, Short}
use Rattle.reader.proofs.Reader.next.Goals as goal

pub returns-then-left-lt4 : goal.returns-then-left-lt4
unfolding front_of
returns-then-left-lt4 c =
    let s = c.args.self in
    rw (length-drop s.at s.src.now, lt-ltb (length s.src.now - s.at) 4 (omega arith))

-- the answer by the length that was read
front-read : (left at size : ℕ) (bs : List ℕ) {inside : _} → left ≡ length bs - at → 4 ≤ left → size ≡ field at 4 bs
    → inside ≡ is_in least_record greatest_record size
    → front_of (drop at bs) ≡ pick (not inside) Torn (pick (ltb left size) Short (Whole size))
unfolding front_of field part
front-read left at size bs l enough read h = rw (length-drop at bs, ← l, le-ltb left 4 enough, ← read, ← h)

pub returns-then-not-contains : goal.returns-then-not-contains
unfolding ◌and◌
returns-then-not-contains c =
    let s = c.args.self in
    let inside : c.contains.result ≡ is_in least_record greatest_record c.u32_at.result =
    rw (c.contains.ensures.value, c.new.ensures.start, c.new.ensures.end, c.new.ensures.exhausted)
    (search (rules, tests)) in
    let read = front-read c.saturating_sub-left.result s.at c.u32_at.result s.src.now (omega arith)
    (omega arith) c.u32_at.ensures inside in
    rw (read, c.if-not-contains.true)

pub returns-then-left-size : goal.returns-then-left-size
unfolding ◌and◌
returns-then-left-size c =
    let s = c.args.self in
    let inside : c.contains.result ≡ is_in least_record greatest_record c.u32_at.result =
    rw (c.contains.ensures.value, c.new.ensures.start, c.new.ensures.end, c.new.ensures.exhausted)
    (search (rules, tests)) in
    let read = front-read c.saturating_sub-left.result s.at c.u32_at.result s.src.now (omega arith)
    (omega arith) c.u32_at.ensures inside in
    rw (read, c.if-not-contains.false, lt-ltb _ _ c.if-left-size.true)

pub returns : goal.returns
unfolding ◌and◌
returns c =
    let s = c.args.self in
    let inside : c.contains.result ≡ is_in least_record greatest_record c.u32_at.result =
    rw (c.contains.ensures.value, c.new.ensures.start, c.new.ensures.end, c.new.ensures.exhausted)
    (search (rules, tests)) in
    let read = front-read c.saturating_sub-left.result s.at c.u32_at.result s.src.now (omega arith)
    (omega arith) c.u32_at.ensures inside in
    rw (read, c.if-not-contains.false, le-ltb c.saturating_sub-left.result c.u32_at.result (omega arith))
