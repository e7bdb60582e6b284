-- `position` finds the first zero byte, if there is one. Assumes nothing.
use Rattle.std.proofs.Common.{◌∙◌, rules, arith}
use borrow.Author.Tests.{tests}
use lib.Dec.{eqb}
use Rattle.std.proofs.lemmas.Iterator.{YieldsList-from_slice}
use Rattle.std.proofs.lemmas.Iterator.Search.{position_from_yields_List}
use Rattle.wire.specs.Bytes.{part}
use Rattle.wire.proofs.BytesLaws.{length_part}
use Rattle.wire.proofs.ArrayLaws.{range-part}
use Rattle.versions.proofs.LeadingLaws.{before-found}
use Rattle.versions.proofs.before_zero.Goals as goal

pub returns : goal.returns
returns c =
    let from = c.args.from in
    let size = c.args.size in
    let s = c.args.s.now in
    let found =
    position_from_yields_List (λ b. eqb b 0) _ _ c.position.result c.position.ensures.ran
    (YieldsList-from_slice (part from size s) (c.iter.ensures.rest ∙ range-part from size s))
    (λ x b q k. search (rules, tests)) in
    c.unwrap_or.ensures ∙ before-found (part from size s) size (length_part from size s (omega arith)) found
