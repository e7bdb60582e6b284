-- Laws of keys by channel, then kind: which of two is ahead. Assumes nothing.
use mathlib.Core.Path.{◌≡◌, ◌∙◌}
use mathlib.Core.Bool.{true}
use mathlib.Core.Logic.{inl, inr}
use native.Mathlib.Omega.{arith}
use lib.Dec.{eqb}
use borrow.Author.Tests.{eqb-true, ltb-true, eq-eqb, ne_eqb, lt-ltb}
use Rattle.wire.proofs.ChoiceLaws.{cases}
use Rattle.slots.specs.declared.Key.{Key}
use Rattle.slots.specs.Table.{is_before}
use Rattle.slots.proofs.KeyLaws.{before-is}
use Rattle.runs.specs.Run.{Ahead}
use Rattle.fit.specs.Pass.{is_ahead}

-- AS A TEST, and in the order of keys
pub is-ahead : (a b : Key) → is_ahead a b ≡ true → Ahead a b
is-ahead a b h =
    cases (eqb a.channel b.channel)
    (λ e. inr (eqb-true a.channel b.channel e, ltb-true a.kind b.kind (rw e at h)))
    (λ e. inl (ltb-true a.channel b.channel (rw e at h)))

pub ahead-is : (a b : Key) → Ahead a b → is_ahead a b ≡ true
ahead-is a b (inl l) = rw (ne_eqb a.channel b.channel (λ q. omega arith), lt-ltb a.channel b.channel l)
ahead-is a b (inr (e, l)) = rw (eq-eqb a.channel b.channel e, lt-ltb a.kind b.kind l)

pub ahead_before : (a b : Key) → Ahead a b → is_before a b ≡ true
ahead_before a b (inl l) = before-is a b (inl l)
ahead_before a b (inr (e, l)) = before-is a b (inr (e, inl l))

pub ahead-onward : (a b c : Key) → Ahead a b → Ahead b c → Ahead a c
ahead-onward a b c (inl p) (inl q) = inl (omega arith)
ahead-onward a b c (inl p) (inr q) = inl (omega (arith, q.0))
ahead-onward a b c (inr p) (inl q) = inl (omega (arith, p.0))
ahead-onward a b c (inr p) (inr q) = inr (p.0 ∙ q.0, omega (arith, p.1, q.1))

-- one of the same kind and channel, before or behind
pub ahead-alike : (a b c : Key) → a.channel ≡ b.channel → a.kind ≡ b.kind → Ahead b c → Ahead a c
ahead-alike a b c h k (inl p) = inl (omega arith)
ahead-alike a b c h k (inr p) = inr (h ∙ p.0, omega (arith, p.1))

pub alike-ahead : (a b c : Key) → b.channel ≡ c.channel → b.kind ≡ c.kind → Ahead a b → Ahead a c
alike-ahead a b c h k (inl p) = inl (omega arith)
alike-ahead a b c h k (inr p) = inr (p.0 ∙ h, omega (arith, p.1))
