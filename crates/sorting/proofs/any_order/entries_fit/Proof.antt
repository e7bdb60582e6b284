-- The size; then the two parts of `entries-parts`. Assumes nothing.
use mathlib.Core.Path.{◌≡◌, sym, ◌∙◌}
use mathlib.Core.Bool.{true}
use mathlib.Core.List.{List}
use Prim.Native.Nat.{ℕ}
use native.Mathlib.Omega.{arith}
use lib.ListN.{length}
use Rattle.wire.specs.Choice.{◌and◌}
use Rattle.slots.specs.Layout.{room_in}
use Rattle.slots.specs.Fit.{size_fits, is_laid_out}
use Rattle.slots.proofs.FitLaws.{Sized, fits-size}
use Rattle.front.proofs.EverySlotLaws.{entries-parts}
use Rattle.sorting.proofs.any_order.entries_fit.Statement.{statement}
use Rattle.sorting.proofs.any_order.entries_fit.Tie as tie

-- behind the first test the number of bytes fits
abbrev bytes : tie.Else-not-size_fits → List ℕ
bytes k = k.args.s.now

fits : (k : tie.Else-not-size_fits) → size_fits (length (bytes k)) ≡ true
fits k = sym k.size_fits.ensures ∙ k.if-not-size_fits.false

sized : (k : tie.Else-not-size_fits) → Sized (length (bytes k))
sized k = fits-size (length (bytes k)) (fits k)

returns : tie.Need-returns-then-not-size_fits
unfolding is_laid_out ◌and◌
returns c =
    let call = c.size_fits in
    let unfit = sym call.ensures ∙ c.if-not-size_fits.true in
    rw unfit

sub-count : tie.Need-overflow_sub-count
sub-count c = omega (arith, (sized c).whole)

front-fits-requires : tie.Need-front_fits-requires
unfolding room_in
front-fits-requires c κs =
    let size = sized c in
    (omega (arith, size.high), omega (arith, size.whole))

records-fit-requires : tie.Need-records_fit-requires
unfolding room_in
records-fit-requires c κs = (sized c.before).whole

returns-2 : tie.Need-returns
unfolding room_in ◌and◌
returns-2 c =
    let k = c.before.before in
    rw (entries-parts (bytes k) (fits k), ← c.front_fits.ensures, ← c.records_fit.ensures)

pub entries_fit_spec : {M : Type 1} → statement M
entries_fit_spec =
    tie.close
    (tie.spec (λ c κs. tt) returns sub-count front-fits-requires records-fit-requires returns-2)
