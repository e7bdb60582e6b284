-- `each-before` says that the test of each slot with those before it is the test of all. Assumes nothing.
use Rattle.std.proofs.Common.{◌≡◌, sym, ◌∙◌, ℕ, List, arith}
use Rattle.slots.specs.declared.Channel.{Channel}
use Rattle.slots.specs.Limits.{channel_limit}
use Rattle.slots.specs.Table.{is_numbered, same_number}
use Rattle.slots.specs.Layout.{header_size, channel_bytes, channel_in}
use Rattle.runs.specs.Each.{each}
use Rattle.runs.proofs.EachLaws.{up_none, up_more, up-all, up-fails}
use Rattle.front.specs.EverySlot.{fits_below, is_lone, slot_fits}
use Rattle.front.proofs.FieldLaws.{eqb_swap}
use Rattle.front.proofs.EverySlotLaws.{every_from}
use Rattle.front.proofs.BeforeLaws.{each-before}
use Rattle.front.proofs.channels_fit.Goals as goal
use Rattle.front.proofs.channels_fit.Invariants.{test}

same-turned : (x y : Channel) → same_number x y ≡ same_number y x
unfolding is_numbered
same-turned x y = eqb_swap y.own.channel x.own.channel

all : (s : List ℕ) (next : ℕ) → each (test s next) 0 channel_limit ≡
    every_from (slot_fits channel_bytes channel_in (fits_below next) (is_lone same_number)) header_size channel_limit s 0
all s n = each-before channel_bytes channel_in (fits_below n) same_number header_size s same-turned channel_limit

pub loop-i-init : goal.loop-i-init
loop-i-init c = up_none _ 0

pub returns-then-not-channel_slot_fits : goal.returns-then-not-channel_slot_fits
returns-then-not-channel_slot_fits c =
    let a = c.args in
    up-fails (test a.s.now a.next) 0 channel_limit c.loop-i.i c.loop-i.invariant (omega arith)
    (sym c.channel_slot_fits.ensures ∙ c.if-not-channel_slot_fits.true) ∙ all a.s.now a.next

pub loop-i-preserved : goal.loop-i-preserved
loop-i-preserved c =
    up_more (test c.args.s.now c.args.next) 0 c.loop-i.i c.loop-i.invariant
    (sym c.channel_slot_fits.ensures ∙ c.if-not-channel_slot_fits.false)

pub returns : goal.returns
returns c =
    let a = c.args in
    up-all (test a.s.now a.next) 0 channel_limit c.loop-i.i c.loop-i.invariant (omega arith) (omega arith) ∙ all a.s.now a.next
