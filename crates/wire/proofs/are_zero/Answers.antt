-- The words are zero where `all` says so, and the bytes behind them likewise. Assumes nothing.
use Rattle.std.proofs.Common.{rules}
use borrow.Author.Tests.{tests}
use lib.Dec.{eqb}
use Rattle.std.proofs.lemmas.Iterator.{YieldsList-from_slice}
use Rattle.std.proofs.lemmas.Iterator.Search.{all_from_yields_List}
use Rattle.wire.specs.Bytes.{part, field}
use Rattle.wire.proofs.BytesLaws.{bytes-part}
use Rattle.wire.proofs.PartLaws.{bytes-array}
use Rattle.wire.proofs.ArrayLaws.{range-part}
use Rattle.wire.proofs.ZeroLaws.{yields_words, word-differs, words-then}
use Rattle.wire.proofs.are_zero.Goals as goal

pub returns-then-all : goal.returns-then-all
returns-then-all c =
    let s = c.args.s.now in
    let cut = c.chunks_exact-words in
    let same = range-part c.args.from c.args.size s in
    let bytes = bytes-part c.args.from c.args.size s (bytes-array s c.type_inv.s) in
    let words_ran =
    all_from_yields_List (λ w. eqb (field 0 8 w) 0) _ _ c.all.result c.all.ensures.ran
    (yields_words cut.result cut.ensures.size) (λ x b q k. search (rules, tests)) in
    let bytes_ran =
    all_from_yields_List (λ b. eqb b 0) _ _ c.all-then-all.result c.all-then-all.ensures.ran
    (YieldsList-from_slice c.remainder-rest.result.now cc) (λ x b q k. search (rules, tests)) in
    words-then (part c.args.from c.args.size s) bytes (rw (cut.ensures.rest, same) at words_ran) c.if-all.true
    (rw (c.remainder-rest.ensures, cut.ensures.remainder, same) at bytes_ran)

pub returns-else-all : goal.returns-else-all
returns-else-all c =
    let s = c.args.s.now in
    let cut = c.chunks_exact-words in
    let same = range-part c.args.from c.args.size s in
    let bytes = bytes-part c.args.from c.args.size s (bytes-array s c.type_inv.s) in
    let ran =
    all_from_yields_List (λ w. eqb (field 0 8 w) 0) _ _ c.all.result c.all.ensures.ran
    (yields_words cut.result cut.ensures.size) (λ x b q k. search (rules, tests)) in
    word-differs (part c.args.from c.args.size s) bytes (rw (cut.ensures.rest, same) at ran) c.if-all.false
