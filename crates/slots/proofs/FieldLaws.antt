-- What a derived comparison computes, field by field, is what the definitions say. Assumes nothing.
use mathlib.Core.Bool.{◌&&◌, ◌||◌}
use Rattle.std.specs.Ordering.{nat_cmp, partial_lt, is_lt, is_le, is_some_and, partial_ordering_then}
use Rattle.std.proofs.Common.{Option, Some, Ordering}
use Rattle.wire.proofs.Prelude.{◌≡◌, refl, sym, ap, ◌∙◌, Bool, true, false, ℕ, eqb, ltb, leb, not, arith}
use Rattle.wire.proofs.Prelude.{ltb-true, ltb-false, eqb-true, eqb-false, ne_eqb, le-leb, le-ltb, lt-ltb}
use borrow.Author.Tests.{lt-leb}
use Rattle.wire.specs.Names.{◌and◌, ◌or◌, pick}
use Rattle.wire.proofs.Laws.{cases}
use Rattle.wire.proofs.ZeroLaws.{pointwise-same}
use Rattle.slots.specs.declared.Timeout.{Timeout}
use Rattle.slots.specs.declared.PortChannel.{PortChannel}
use Rattle.slots.specs.declared.Record.{Record}
use Rattle.slots.specs.Names.{Key, key_of, has_key, same_timeout, same_port_channel, is_before, is_past}
use Rattle.slots.specs.contracts.KeyPartialOrd.TheImpl.{partial_cmp-value as key_cmp}

-- EQUAL: `==` joins the fields by `&&`
pub and-both : (a b : Bool) → a and b ≡ (a && b)
unfolding ◌and◌
and-both true b = refl
and-both false b = refl

pub or-either : (a b : Bool) → a or b ≡ (a || b)
unfolding ◌or◌
or-either true b = refl
or-either false b = refl

pub same-timeout : (t u : Timeout) → same_timeout t u ≡ (eqb t.height u.height && eqb t.time u.time)
unfolding same_timeout
same-timeout t u = and-both (eqb t.height u.height) (eqb t.time u.time)

pub same-port-channel : (a b : PortChannel) →
    same_port_channel a b ≡ (eqb a.port b.port && eqb a.channel b.channel)
unfolding same_port_channel
same-port-channel a b = and-both (eqb a.port b.port) (eqb a.channel b.channel)

-- a record has a key where its own is equal to that one
pub has-equal-key : (k x : Key) (r : Record) → x ≡ key_of r →
    has_key k r ≡ (eqb x.channel k.channel && (eqb x.kind k.kind && eqb x.sequence k.sequence))
unfolding has_key ◌and◌
has-equal-key k x r e =
    swap (eqb r.kind k.kind) (eqb r.channel k.channel) (eqb r.sequence k.sequence) ∙
    ap (λ (q : Key). eqb q.channel k.channel && (eqb q.kind k.kind && eqb q.sequence k.sequence)) (sym e)
  where
    swap : (a b c : Bool) → a and b and c ≡ (b && (a && c))
    swap true true c = refl
    swap true false c = refl
    swap false true c = refl
    swap false false c = refl

-- BELOW: `<` compares the last field by its order, and each field before it where that one is equal
pub below-last : (x y : ℕ) → is_some_and is_lt (Some (nat_cmp x y)) ≡ ltb x y
below-last x y =
    cases (ltb x y)
    (λ e. rw e)
    (λ e. cases (eqb x y) (λ f. rw (e, f)) (λ f. rw (e, f)))

pub up-to-last : (x y : ℕ) → is_some_and is_le (Some (nat_cmp x y)) ≡ leb x y
up-to-last x y =
    cases (ltb x y)
    (λ e. let d = le-leb x y (omega (arith, ltb-true x y e)) in rw (e, d))
    (λ e. cases (eqb x y)
    (λ f. let d = le-leb x y (omega (arith, eqb-true x y f)) in rw (e, f, d))
    (λ f. let d = lt-leb x y (omega (arith, ltb-false x y e, eqb-false x y f)) in rw (e, f, d)))

-- a limit is at or below what is compared with it, and not the default, which is 0
pub past-default : (l n m z : ℕ) (b : Bool) → l ≡ m → z ≡ 0 →
    b ≡ (not (eqb l z) && is_some_and is_le (Some (nat_cmp l n))) → b ≡ is_past m n
unfolding is_past ◌and◌
past-default l n m z b d e h = h ∙ rw (d, e, up-to-last m n) (cases (eqb m 0)
    (λ f. let g = le-ltb 0 m (omega (arith, eqb-true m 0 f)) in rw (f, g))
    (λ f. let g = lt-ltb 0 m (omega (arith, eqb-false m 0 f)) in rw (f, g)))

below-first : (x y : ℕ) (o : Option Ordering) →
    is_some_and is_lt (partial_ordering_then (Some (nat_cmp x y)) o) ≡
    pick (eqb x y) (is_some_and is_lt o) (ltb x y)
below-first x y o =
    cases (ltb x y)
    (λ e. let d = ne_eqb x y (λ q. omega (arith, ltb-true x y e)) in rw (e, d))
    (λ e. cases (eqb x y) (λ f. rw (e, f)) (λ f. rw (e, f)))

pub before-fields : (a b : Key) → partial_lt key_cmp.it a b ≡ is_before a b
unfolding is_before
before-fields a b =
    below-first a.channel b.channel _ ∙
    ap (λ (z : Bool). pick (eqb a.channel b.channel) z (ltb a.channel b.channel))
    (below-first a.kind b.kind _ ∙
    ap (λ (z : Bool). pick (eqb a.kind b.kind) z (ltb a.kind b.kind)) (below-last a.sequence b.sequence))

pub ruleset by_fields = (pointwise-same, and-both, or-either, same-timeout, same-port-channel, below-last, before-fields)
