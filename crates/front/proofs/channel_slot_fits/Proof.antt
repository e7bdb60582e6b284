-- The tests are those of `slot-free` and `slot-taken`. Assumes nothing.
use mathlib.Core.Path.{◌≡◌, refl, sym, ap, ◌∙◌}
use mathlib.Core.Bool.{Bool, true, false, not}
use mathlib.Core.List.{List, map}
use Prim.Native.Nat.{ℕ, ◌+◌, ◌*◌}
use native.Mathlib.Omega.{arith}
use lib.Dec.{ltb}
use Rattle.std.specs.Prelude.{is_some}
use Rattle.std.proofs.Math.Bool.{not-not}
use borrow.Author.Rules.{rules}
use Rattle.wire.specs.Choice.{◌and◌}
use Rattle.wire.proofs.ChoiceLaws.{and-false}
use Rattle.wire.proofs.PartLaws.{field-part}
use Rattle.slots.specs.Table.{same_number}
use Rattle.slots.specs.Layout.{header_size, slot_size, channel_bytes, channel_in, slot_in}
use Rattle.slots.specs.Fit.{is_below}
use Rattle.slots.specs.Scan.{slot_at, slots_from}
use Rattle.slots.proofs.SlotTestLaws.{find_at}
use Rattle.front.specs.EverySlot.{fits_below, is_exact, is_lone}
use Rattle.front.proofs.EverySlotLaws.{slot-free, slot-taken}
use Rattle.front.proofs.channel_slot_fits.Statement.{statement}
use Rattle.front.proofs.channel_slot_fits.Tie as tie

-- the slot, and those before it
abbrev slot : tie.Start → List ℕ
slot o = slot_at header_size o.args.s.now o.args.i

abbrev front : tie.Start → List (List ℕ)
front o = slots_from header_size o.args.i o.args.s.now 0

returns : tie.Need-returns-then-are_zero
returns c =
    let o = c.before.before.before in
    slot-free channel_bytes channel_in (fits_below o.args.next) (is_lone same_number) (slot o) (front o)
    c.are_zero.ensures c.if-are_zero.true

-- the number that is read
numbered : (x : tie.After-u32_at-number) → let o = x.before.before.before.before in
    x.u32_at-number.result ≡ (channel_in (slot o)).own.channel
unfolding channel_in
numbered x =
    let o = x in
    let at = header_size + slot_size * o.args.i in
    x.u32_at-number.ensures ∙ sym (field-part 4 4 at slot_size o.args.s.now (omega arith))

-- the end is not one that fits
returns-2 : tie.Need-returns-then-not-channel_fits
unfolding fits_below ◌and◌
returns-2 c =
    let call = c.channel_fits in
    let d = c.before.before.before in
    let o = d.before.before.before in
    let unfit = sym call.ensures ∙ c.if-not-channel_fits.true in
    let e : Bool = is_exact channel_bytes channel_in (slot o) in
    let low : Bool = is_below o.args.next (channel_in (slot o)) in
    slot-taken channel_bytes channel_in (fits_below o.args.next) (is_lone same_number) (slot o) (front o)
    d.are_zero.ensures d.if-are_zero.false {q = false}
    (sym (ap (λ (b : Bool). e and (b and low)) unfit ∙ and-false e)) refl

-- behind that test: what the mark and the number tell
told : (x : tie.After-is_channel_exact) → let n = x.before.before.before in
    let o = n.before.before.before.before in
    (x.is_channel_exact.result and ltb n.u32_at-number.result o.args.next) ≡
    (is_exact channel_bytes channel_in (slot o) and fits_below o.args.next (channel_in (slot o)))
unfolding fits_below is_below ◌and◌
told x =
    let call = x.channel_fits in
    let n = x.before.before.before in
    let fit = sym call.ensures ∙ x.if-not-channel_fits.false in
    rw (x.is_channel_exact.ensures, fit, numbered n)

returns-3 : tie.Need-returns-then-is_channel_exact-number
unfolding ◌and◌
returns-3 c =
    let k = c.before.before.before in
    let n = k.before.before.before.before in
    let d = n.before in
    let o = d.before.before.before in
    slot-taken channel_bytes channel_in (fits_below o.args.next) (is_lone same_number) (slot o) (front o)
    d.are_zero.ensures d.if-are_zero.false {q = true} (sym k.if-is_channel_exact-number.true ∙ told k.before)
    (rw (find_at (same_number (channel_in (slot o))) 0 (map (slot_in channel_in) (front o)), ← numbered n)
    (sym (not-not _) ∙ ap not (sym c.is_none.ensures ∙ ap is_some c.first_channel.ensures)))

returns-4 : tie.Need-returns
unfolding ◌and◌
returns-4 c =
    let d = c.before.before.before.before.before in
    let o = d.before.before.before in
    slot-taken channel_bytes channel_in (fits_below o.args.next) (is_lone same_number) (slot o) (front o)
    d.are_zero.ensures d.if-are_zero.false {q = false} (sym c.if-is_channel_exact-number.false ∙ told c.before) refl

pub channel_slot_fits_spec : {M : Type 1} → statement M
channel_slot_fits_spec =
    tie.close
    (tie.spec
    (λ c. search rules) (λ c. search rules) (λ c κs. search rules) returns (λ c. search rules) (λ c κs. search rules)
    (λ c κs. search rules) returns-2 (λ c κs. search rules) (λ c. search rules) (λ c κs. search rules)
    (λ c κs. search rules) returns-3 returns-4)
