-- The channel end is the one that the scan finds. Assumes nothing.
use mathlib.Core.Path.{◌≡◌, sym, ◌∙◌}
use mathlib.Core.List.{List}
use Prim.Native.Nat.{ℕ, ◌<◌}
use native.Mathlib.Omega.{arith}
use Rattle.wire.specs.Choice.{◌and◌}
use Rattle.std.specs.Prelude.{Some}
use Rattle.slots.specs.Limits.{channel_limit}
use Rattle.slots.specs.Table.{is_numbered}
use Rattle.slots.specs.Layout.{store_in}
use Rattle.slots.specs.Scan.{holds, first_that}
use Rattle.slots.specs.Fit.{fits_end, record_fits}
use Rattle.slots.proofs.ScanLaws.{find-nothing, channel-found}
use Rattle.slots.proofs.SlotTestLaws.{channel-index}
use Rattle.wire.proofs.ChoiceLaws.{and-false}
use borrow.Author.Rules.{rules}
use Rattle.entries.proofs.record_fits.Statement.{statement}
use Rattle.entries.proofs.record_fits.Tie as tie

-- the slot that is found, and the bytes and the number that are searched
abbrev index : tie.In-Some → ℕ
index k = k.in-Some.j

abbrev bytes : tie.In-Some → List ℕ
bytes k = k.args.s.now

abbrev number : tie.In-Some → ℕ
number k = k.args.r.channel

found : (k : tie.In-Some) → first_that (is_numbered (number k)) (store_in (bytes k)).channels ≡ Some (index k)
found k = sym k.find_channel.ensures ∙ k.in-Some.is

below : (k : tie.In-Some) → index k < channel_limit
below k = channel-index (index k) (bytes k) (holds (is_numbered (number k))) (found k)

returns : tie.Need-returns-in_default
unfolding record_fits fits_end
returns c =
    let f = c in
    let a = f.args in
    let nothing = sym f.find_channel.ensures ∙ c.in_default.is in
    let none = find-nothing (is_numbered a.r.channel) 0 (store_in a.s.now).channels nothing in
    rw (record_fits, none, and-false)

mul-channel-at : tie.Need-overflow_mul-j
mul-channel-at c = omega (arith, below c)

add-channel-at : tie.Need-overflow_add-j
add-channel-at c = omega (arith, below c)

channel-at-requires : tie.Need-channel_at-c-requires
channel-at-requires c κs = omega (arith, below c)

returns-2 : tie.Need-returns
unfolding record_fits ◌and◌
returns-2 c =
    let k = c.before.before.before in
    rw (
      record_fits,
      channel-found (is_numbered (number k)) (index k) (bytes k) (found k),
      ← c.channel_at-c.ensures,
      ← c.fits_end.ensures,
    )

pub record_fits_spec : {M : Type 1} → statement M
record_fits_spec =
    tie.close
    (tie.spec
    (λ c κs. search rules) (λ c. search rules) (λ c. search rules) returns mul-channel-at add-channel-at
    channel-at-requires (λ c κs. search rules) returns-2)
