-- A record is there where the scan finds one. Assumes nothing.
use mathlib.Core.Path.{ap, ◌∙◌}
use Rattle.std.specs.Prelude.{is_some}
use Rattle.slots.specs.Table.{has_key}
use Rattle.slots.specs.Layout.{store_in}
use Rattle.slots.proofs.TurnLaws.{records-from}
use Rattle.slots.proofs.SlotTestLaws.{find_at}
use borrow.Author.Rules.{rules}
use Rattle.entries.proofs.is_there.Statement.{statement}
use Rattle.entries.proofs.is_there.Tie as tie

returns : tie.Need-returns
returns c =
    let o = c in
    let a = o.args in
    let s = a.s.now in
    rw (find_at (has_key a.k) 0 (store_in s).records, records-from a.count s o.requires)
    (c.is_some.ensures ∙ ap is_some c.first_record.ensures)

pub is_there_spec : {M : Type 1} → statement M
is_there_spec =
    tie.close (tie.spec (λ c κs. search rules) (λ c κs. search rules) returns)
