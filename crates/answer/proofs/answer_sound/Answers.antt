use Rattle.std.proofs.Common.{◌≡◌, refl, sym, ap, ◌∙◌, true, false, Bool, List, ℕ, ◌≤◌, length, arith}
use Rattle.std.proofs.Math.Option.{some}
use Rattle.wire.specs.Choice.{◌or◌}
use Rattle.wire.specs.Bytes.{field}
use Rattle.slots.specs.declared.Channel.{Channel}
use Rattle.slots.specs.Height.{own_height, own_time}
use Rattle.slots.specs.Layout.{room_in, Store, store_in}
use Rattle.slots.specs.Fit.{is_fit}
use Rattle.slots.proofs.FitLaws.{Sized, fits-size}
use Rattle.slots.proofs.FitRecordLaws.{fit-in-order}
use Rattle.slots.proofs.HeldLaws.{fit-exact}
use Rattle.datagram.specs.declared.Context.{Context}
use Rattle.datagram.specs.Kind.{Kind, kind_of, only, size_of}
use Rattle.datagram.specs.Datagram.{kind_in, context_in, Datagram, datagram_of, datagram_in}
use Rattle.datagram.proofs.DatagramLaws.{Sound, sound-is}
use Rattle.rules.specs.Refusals.{makes_end, first_given, goes_back, table, or_none, end_for}
use Rattle.rules.proofs.KindLaws.{of-kinds}
use Rattle.verdicts.specs.Lines.{behind, number_behind}
use Rattle.answer.proofs.answer_sound.Goals as goal

sized : (s : List ℕ) → is_fit s ≡ true → Sized (length s)
sized s h = fits-size (length s) (fit-exact s h).size

long : (d : List ℕ) (k : Kind) → Sound d → kind_of (kind_in d) ≡ some k → size_of (some k) ≤ length d
long d k h p = rw p at h.size

-- THE CLOCK
clock : (s d : List ℕ) (x : Context) (h t : ℕ) (r : Bool) → x ≡ context_in d → h ≡ field 8 8 s → t ≡ field 16 8 s →
    ((store : Store) → store.height ≡ own_height h → store.time ≡ own_time t → r ≡ goes_back store x) →
    goes_back (store_in s) (context_in d) ≡ r
unfolding store_in
clock s d x h t r e p q f = rw (← e) (sym (f (store_in s) (ap own_height (sym p)) (ap own_time (sym q))))

pub context_in-x-requires : goal.context_in-x-requires
context_in-x-requires c = omega (arith, (sound-is c.args.datagram.now c.requires.1).size)

pub u64_at-requires : goal.u64_at-requires
u64_at-requires c = omega (arith, (sized c.args.store.now c.requires.0).whole)

pub u64_at-requires-2 : goal.u64_at-requires-2
u64_at-requires-2 c = omega (arith, (sized c.args.store.now c.requires.0).whole)

pub overflow_sub-count : goal.overflow_sub-count
overflow_sub-count c = omega (arith, (sized c.args.store.now c.requires.0).whole)

pub returns-then-goes_back : goal.returns-then-goes_back
unfolding number_behind behind table first_given datagram_in
returns-then-goes_back c =
    let at =
    clock c.args.store.now c.args.datagram.now c.context_in-x.result c.u64_at.result c.u64_at-2.result
    c.goes_back.result c.context_in-x.ensures c.u64_at.ensures c.u64_at-2.ensures c.goes_back.ensures in
    rw (at, c.if-goes_back.true)

-- THE KIND: the answer is that of the lines behind the fourth, and for a kind that makes an end that of those behind
-- the seventh, on whatever end
module _ (s d : List ℕ) (k : Kind) (p : kind_of (kind_in d) ≡ some k) where
  past-4 : goes_back (store_in s) (context_in d) ≡ false → (c : Channel) →
      number_behind 3 (datagram_in d).kind (store_in s) (datagram_in d) c ≡
      number_behind 4 (some k) (store_in s) (datagram_of (some k) d) c
  unfolding number_behind behind table first_given datagram_in
  past-4 h c = rw (p, h)

  end-sent : or_none (end_for (store_in s) (datagram_in d)) ≡ or_none (end_for (store_in s) (datagram_of (some k) d))
  unfolding datagram_in
  end-sent = rw p refl

making : (k : Kind) (s : Store) (d : Datagram) (c e : Channel) → makes_end (some k) ≡ true →
    number_behind 4 (some k) s d c ≡ number_behind 7 (some k) s d e
unfolding number_behind behind table first_given only ◌or◌
making k s d c e h =
    of-kinds (λ x. number_behind 4 x s d c ≡ number_behind 7 x s d e) makes_end refl (some k) (refl, (refl, tt)) h

pub answer_by_kind-requires : goal.answer_by_kind-requires
unfolding room_in
answer_by_kind-requires c =
    record {
      records = fit-in-order c.args.store.now c.requires.0;
      long = long _ _ (sound-is c.args.datagram.now c.requires.1) c.requires.2;
      context = sym c.context_in-x.ensures;
    }

pub answer_on-requires : goal.answer_on-requires
unfolding room_in
answer_on-requires c = (
  record {
    records = fit-in-order c.args.store.now c.requires.0;
    long = long _ _ (sound-is c.args.datagram.now c.requires.1) c.requires.2;
    context = sym c.context_in-x.ensures;
  },
  sym c.makes_end.ensures ∙ c.if-makes_end.false,
)

pub returns-then-makes_end : goal.returns-then-makes_end
returns-then-makes_end c =
    let s = c.args.store.now in
    let d = c.args.datagram.now in
    let at =
    clock s d c.context_in-x.result c.u64_at.result c.u64_at-2.result c.goes_back.result c.context_in-x.ensures
    c.u64_at.ensures c.u64_at-2.ensures c.goes_back.ensures in
    let named = or_none (end_for (store_in s) (datagram_in d)) in
    c.answer_by_kind.ensures ∙
    sym (past-4 s d _ c.requires.2 (at ∙ c.if-goes_back.false) named ∙
    making _ (store_in s) _ named c.no_channel.result (sym c.makes_end.ensures ∙ c.if-makes_end.true))

pub returns : goal.returns
returns c =
    let s = c.args.store.now in
    let d = c.args.datagram.now in
    let at =
    clock s d c.context_in-x.result c.u64_at.result c.u64_at-2.result c.goes_back.result c.context_in-x.ensures
    c.u64_at.ensures c.u64_at-2.ensures c.goes_back.ensures in
    c.answer_on.ensures ∙
    rw (end-sent s d _ c.requires.2)
    (sym (past-4 s d _ c.requires.2 (at ∙ c.if-goes_back.false) _))
