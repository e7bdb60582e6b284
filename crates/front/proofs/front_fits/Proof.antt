-- The parts of `front_fits`. Assumes nothing.
use mathlib.Core.Path.{sym, ap, ◌∙◌}
use mathlib.Core.Bool.{Bool}
use Prim.Native.Nat.{ℕ}
use native.Mathlib.Omega.{arith}
use Rattle.wire.specs.Choice.{◌and◌}
use Rattle.slots.specs.Limits.{channel_limit}
use Rattle.slots.specs.Table.{same_number}
use Rattle.slots.specs.Layout.{header_size, channel_bytes, channel_in}
use Rattle.slots.specs.Scan.{slots_from}
use Rattle.front.specs.EverySlot.{every_slot, fits_below, is_lone, slot_fits, front_fits}
use Rattle.front.proofs.front_fits.Statement.{statement}
use Rattle.front.proofs.front_fits.Tie as tie

-- the channel ends, below a next number
abbrev ends : (next : ℕ) → tie.Start → Bool
ends n o =
    every_slot (slot_fits channel_bytes channel_in (fits_below n) (is_lone same_number))
    (slots_from header_size channel_limit o.args.s.now 0)

returns : tie.Need-returns-then-is_header_exact-next
unfolding front_fits ◌and◌
returns c =
    let header = c.before.before in
    let next = header.before in
    rw (← header.is_header_exact.ensures, ← next.u64_at-next.ensures)
    (c.channels_fit.ensures ∙
    sym (ap (λ (b : Bool). b and ends next.u64_at-next.result next.before.before) c.if-is_header_exact-next.true))

returns-2 : tie.Need-returns
unfolding front_fits ◌and◌
returns-2 c =
    let header = c.before in
    let next = header.before in
    rw (← header.is_header_exact.ensures, ← next.u64_at-next.ensures)
    (sym (ap (λ (b : Bool). b and ends next.u64_at-next.result next.before.before) c.if-is_header_exact-next.false))

pub front_fits_spec : {M : Type 1} → statement M
front_fits_spec =
    tie.close
    (tie.spec
    (λ c κs. omega arith) (λ c κs. (omega arith, omega arith)) (λ c κs. omega arith) returns returns-2)
