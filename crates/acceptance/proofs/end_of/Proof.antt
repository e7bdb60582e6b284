-- The end at the index that was found. Assumes nothing.
use mathlib.Core.Path.{◌≡◌, sym, ap, ◌∙◌}
use Prim.Native.Nat.{ℕ, ◌<◌}
use native.Mathlib.Omega.{arith}
use borrow.Author.Rules.{rules}
use Rattle.std.specs.Prelude.{Some}
use Rattle.slots.specs.Limits.{channel_limit}
use Rattle.slots.specs.Table.{is_numbered}
use Rattle.slots.specs.Layout.{store_in}
use Rattle.slots.specs.Scan.{holds, first_that}
use Rattle.slots.proofs.ScanLaws.{channel-found, find-nothing}
use Rattle.slots.proofs.SlotTestLaws.{channel-index}
use Rattle.rules.specs.Refusals.{or_none}
use Rattle.acceptance.proofs.end_of.Statement.{statement}
use Rattle.acceptance.proofs.end_of.Tie as tie

returns : tie.Need-returns-in_default
returns c =
    let k = c in
    let o = c in
    let told = sym o.requires.1 ∙ k.in_default.is in
    c.no_channel.ensures ∙
    sym (ap or_none (find-nothing (is_numbered o.args.number) 0 (store_in o.args.store.now).channels told))

-- the index that was found
abbrev start : tie.In-Some → tie.Start
start k = k.before.before

abbrev index : tie.In-Some → ℕ
index k = k.in-Some.j

found : (k : tie.In-Some) →
    first_that (is_numbered (start k).args.number) (store_in (start k).args.store.now).channels ≡ Some (index k)
found k = sym (start k).requires.1 ∙ k.in-Some.is

below : (k : tie.In-Some) → index k < channel_limit
below k =
    let o = start k in
    channel-index (index k) o.args.store.now (holds (is_numbered o.args.number)) (found k)

returns-2 : tie.Need-returns
returns-2 c =
    let k = c.before in
    let o = start k in
    c.channel_at.ensures ∙
    sym (ap or_none (channel-found (is_numbered o.args.number) (index k) o.args.store.now (found k)))

pub end_of_spec : {M : Type 1} → statement M
end_of_spec =
    tie.close
    (tie.spec
    (λ c. search rules) (λ c. search rules) (λ c κs. search rules) returns (λ c. omega (arith, below c))
    (λ c. omega (arith, below c)) (λ c κs. omega (arith, below c)) returns-2)
