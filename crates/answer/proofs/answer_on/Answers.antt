use Rattle.std.proofs.Common.{◌≡◌, sym, ap, ◌∙◌, true, false, List, [], ◌∷◌, ℕ, ◌+◌, ◌*◌, ◌<◌, arith}
use Rattle.std.specs.Prelude.{Option, Some, None}
use Rattle.std.proofs.Math.Option.{some}
use borrow.Author.Tests.{eq-eqb, ne_eqb}
use Rattle.wire.specs.Choice.{◌and◌}
use Rattle.wire.specs.Bytes.{part}
use Rattle.slots.specs.declared.Channel.{Channel}
use Rattle.slots.specs.Limits.{channel_limit}
use Rattle.slots.specs.Table.{is_numbered, find}
use Rattle.slots.specs.Layout.{header_size, slot_size, channel_in, store_in}
use Rattle.slots.specs.Scan.{holds, first_that}
use Rattle.slots.proofs.ScanLaws.{find-nothing, channel-found}
use Rattle.slots.proofs.SlotTestLaws.{channel-index}
use Rattle.datagram.specs.declared.kind.Kind.{Kind as Named}
use Rattle.datagram.specs.Kind.{Kind, kind_by, send, receive, write, acknowledge, only}
use Rattle.datagram.specs.Datagram.{Datagram, channel_from, datagram_of}
use Rattle.rules.specs.Refusals.{makes_end, first_given, table, or_none, end_for}
use Rattle.rules.proofs.RefusalLaws.{given_both}
use Rattle.verdicts.specs.Lines.{behind, number_behind}
use Rattle.answer.proofs.answer_on.Goals as goal

-- THE CHANNEL END that the scan of a store finds
module _ (s : List ℕ) (d : Datagram) (found : Option ℕ) (number : ℕ) (p : number ≡ d.channel)
    (q : found ≡ first_that (is_numbered number) (store_in s).channels) where
  scanned : found ≡ first_that (is_numbered d.channel) (store_in s).channels
  scanned = rw (← p) q

  index : {j : ℕ} → found ≡ Some j → first_that (is_numbered d.channel) (store_in s).channels ≡ Some j
  index h = sym scanned ∙ h

  below : {j : ℕ} → found ≡ Some j → j < channel_limit
  below {j} h = channel-index j s (holds (is_numbered d.channel)) (index h)

  there : {j : ℕ} → found ≡ Some j → (c : Channel) → c ≡ channel_in (part (header_size + slot_size * j) slot_size s) →
      find (is_numbered d.channel) (store_in s).channels ≡ some c
  there {j} h c e = channel-found (is_numbered d.channel) j s (index h) ∙ ap (λ (x : Channel). some x) (sym e)

-- the answer is that of the lines behind the first n, on the channel end that is found
abbrev Left : ℕ → Kind → List ℕ → Datagram → Channel → Type 0
Left n k s d c =
    number_behind 4 (some k) (store_in s) d (or_none (end_for (store_in s) d)) ≡
    number_behind n (some k) (store_in s) d c

past-5 : (k : Kind) (s : List ℕ) (d : Datagram) (c : Channel) → makes_end (some k) ≡ false →
    find (is_numbered d.channel) (store_in s).channels ≡ some c → Left 5 k s d c
unfolding number_behind behind table first_given
past-5 k s d c m there = rw (m, there)

pub returns-in_default : goal.returns-in_default
unfolding number_behind behind table first_given
returns-in_default c =
    let s = c.args.store.now in
    let d = datagram_of (some (kind_by c.args.kind)) c.args.datagram.now in
    let nothing = sym (scanned s d _ _ c.channel_in.ensures c.find_channel.ensures) ∙ c.in_default.is in
    let none = find-nothing (is_numbered d.channel) 0 (store_in s).channels nothing in
    rw (c.requires.1, none)

pub overflow_mul-j : goal.overflow_mul-j
overflow_mul-j c =
    let d = datagram_of (some (kind_by c.args.kind)) c.args.datagram.now in
    omega (arith, below c.args.store.now d _ _ c.channel_in.ensures c.find_channel.ensures c.in-Some.is)

pub overflow_add-j : goal.overflow_add-j
overflow_add-j c =
    let d = datagram_of (some (kind_by c.args.kind)) c.args.datagram.now in
    omega (arith, below c.args.store.now d _ _ c.channel_in.ensures c.find_channel.ensures c.in-Some.is)

pub channel_at-c-requires : goal.channel_at-c-requires
channel_at-c-requires c =
    let d = datagram_of (some (kind_by c.args.kind)) c.args.datagram.now in
    omega (
      arith,
      below c.args.store.now d _ _ c.channel_in.ensures c.find_channel.ensures c.in-Some.is,
      c.requires.0.records.size,
    )

pub returns-then-needs_open-c : goal.returns-then-needs_open-c
unfolding number_behind behind table first_given ◌and◌
returns-then-needs_open-c c =
    let s = c.args.store.now in
    let k = kind_by c.args.kind in
    let d = datagram_of (some k) c.args.datagram.now in
    let e = c.channel_at-c.result in
    let five = past-5 k s d e c.requires.1
    (there s d _ _ c.channel_in.ensures c.find_channel.ensures c.in-Some.is e c.channel_at-c.ensures) in
    sym (five ∙ rw (← c.needs_open.ensures, given_both, c.if-needs_open-c.true))

pub returns-then-x-c : goal.returns-then-x-c
unfolding number_behind behind table first_given ◌and◌
returns-then-x-c c =
    let s = c.args.store.now in
    let k = kind_by c.args.kind in
    let d = datagram_of (some k) c.args.datagram.now in
    let e = c.channel_at-c.result in
    let five = past-5 k s d e c.requires.1
    (there s d _ _ c.channel_in.ensures c.find_channel.ensures c.in-Some.is e c.channel_at-c.ensures) in
    let six : Left 6 k s d e = five ∙ rw (← c.needs_open.ensures, given_both, c.if-needs_open-c.false) in
    sym (six ∙ rw (c.requires.1, c.requires.0.context, ne_eqb _ _ c.if-x-c.true))

pub returns : goal.returns
unfolding number_behind behind table first_given ◌and◌
returns c =
    let s = c.args.store.now in
    let k = kind_by c.args.kind in
    let d = datagram_of (some k) c.args.datagram.now in
    let e = c.channel_at-c.result in
    let five = past-5 k s d e c.requires.1
    (there s d _ _ c.channel_in.ensures c.find_channel.ensures c.in-Some.is e c.channel_at-c.ensures) in
    let six : Left 6 k s d e = five ∙ rw (← c.needs_open.ensures, given_both, c.if-needs_open-c.false) in
    let seven : Left 7 k s d e = six ∙ rw (c.requires.1, c.requires.0.context, eq-eqb _ _ c.if-x-c.false) in
    c.answer_by_kind.ensures ∙ sym seven
