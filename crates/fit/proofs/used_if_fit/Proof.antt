-- The size; then what stands before the packet records, and then these. Assumes nothing.
use mathlib.Core.Path.{◌≡◌, sym, ap, ◌∙◌}
use mathlib.Core.Bool.{Bool, true}
use mathlib.Core.List.{List}
use Prim.Native.Nat.{ℕ}
use native.Mathlib.Omega.{arith}
use lib.ListN.{length}
use borrow.Author.Tests.{not-true, not-false}
use Rattle.wire.specs.Choice.{◌and◌}
use Rattle.wire.proofs.ChoiceLaws.{and_assoc}
use Rattle.slots.specs.Table.{in_order, precedes}
use Rattle.slots.specs.Layout.{room_in, store_in}
use Rattle.slots.specs.Fit.{size_fits, entries_fit, store_fits, is_laid_out, is_fit}
use Rattle.slots.proofs.FitLaws.{Sized, fits-size}
use Rattle.front.specs.EverySlot.{front_fits}
use Rattle.fit.specs.Pass.{records_fit}
use Rattle.front.proofs.EverySlotLaws.{entries-parts}
use Rattle.fit.proofs.used_if_fit.Statement.{statement}
use Rattle.fit.proofs.used_if_fit.Tie as tie

-- fitness by its parts: the order of the packet records is asked last
fit_parts : (bs : List ℕ) → size_fits (length bs) ≡ true →
    is_fit bs ≡ (front_fits bs (room_in (length bs)) and records_fit bs (room_in (length bs)))
unfolding is_fit store_fits records_fit
fit_parts bs h =
    sym (and_assoc (is_laid_out bs) (entries_fit (store_in bs)) (in_order precedes (store_in bs).records)) ∙
    ap (λ (b : Bool). b and in_order precedes (store_in bs).records) (entries-parts bs h) ∙
    and_assoc (front_fits bs (room_in (length bs))) _ _

-- behind the first test the number of bytes fits
abbrev bytes : tie.Else-not-size_fits → List ℕ
bytes k = k.args.s.now

fits : (k : tie.Else-not-size_fits) → size_fits (length (bytes k)) ≡ true
fits k = sym k.size_fits.ensures ∙ k.if-not-size_fits.false

sized : (k : tie.Else-not-size_fits) → Sized (length (bytes k))
sized k = fits-size (length (bytes k)) (fits k)

returns : tie.Need-returns-then-not-size_fits
unfolding is_fit is_laid_out ◌and◌
returns c =
    let call = c.size_fits in
    let unfit = sym call.ensures ∙ c.if-not-size_fits.true in
    rw unfit

sub-count : tie.Need-overflow_sub-count
sub-count c = omega (arith, (sized c).whole)

front-fits-requires : tie.Need-front_fits-requires
unfolding room_in
front-fits-requires c κs =
    let size = sized c in
    (omega (arith, size.high), omega (arith, size.whole))

returns-2 : tie.Need-returns-then-not-front_fits
unfolding room_in ◌and◌
returns-2 c =
    let call = c.before in
    let k = call.before in
    let unfit = sym call.front_fits.ensures ∙ c.if-not-front_fits.true in
    rw (fit_parts (bytes k) (fits k), unfit)

records-used-requires : tie.Need-records_used-requires
unfolding room_in
records-used-requires c κs = (sized c.before.before).whole

returns-3 : tie.Need-returns
unfolding room_in ◌and◌
returns-3 c =
    let call = c.before.before in
    let k = call.before in
    let front = sym call.front_fits.ensures ∙ c.if-not-front_fits.false in
    rw (fit_parts (bytes k) (fits k), front) c.records_used.ensures

pub used_if_fit_spec : {M : Type 1} → statement M
used_if_fit_spec =
    tie.close
    (tie.spec (λ c κs. tt) returns sub-count front-fits-requires returns-2 records-used-requires returns-3)
