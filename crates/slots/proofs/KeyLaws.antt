-- Laws of the keys of packet records: when two are the same, and their strict order. Assumes nothing.
use Rattle.wire.proofs.Prelude.{◌≡◌, sym, ap, ◌∙◌, true, false, ◌⊎◌, inl, inr, arith, ◌≤◌, ◌<◌, eqb, eqb-true}
use Rattle.wire.proofs.Prelude.{eqb-false, ltb-true, ltb-false, eq-eqb, ne_eqb, lt-ltb}
use Rattle.wire.proofs.Laws.{and_both, both-and, cases}
use Rattle.slots.specs.declared.Record.{Record}
use Rattle.slots.specs.Names.{Key, key_of, has_key, same_key, is_before, precedes}
use Rattle.slots.proofs.OrderLaws.{Strict}

pub key-of : (k : Key) (r : Record) → has_key k r ≡ true → key_of r ≡ k
unfolding has_key
key-of k r h =
    let a = eqb-true r.kind k.kind (and_both (and_both h).0).0 in
    let b = eqb-true r.channel k.channel (and_both (and_both h).0).1 in
    let c = eqb-true r.sequence k.sequence (and_both h).1 in
    λ i. record { kind = a i; channel = b i; sequence = c i }

pub has-key : (k : Key) (r : Record) → key_of r ≡ k → has_key k r ≡ true
unfolding has_key
has-key k r e =
    both-and (both-and (eq-eqb r.kind k.kind (ap (λ (q : Key). q.kind) e))
    (eq-eqb r.channel k.channel (ap (λ (q : Key). q.channel) e)))
    (eq-eqb r.sequence k.sequence (ap (λ (q : Key). q.sequence) e))

pub not_key : (k : Key) (r : Record) → (key_of r ≡ k → ⊥) → has_key k r ≡ false
not_key k r h = cases (has_key k r) (λ e. absurd (h (key-of k r e))) (λ e. e)

-- KEYS IN ORDER
abbrev pub Before : Key → Key → Type 0
Before a b =
    (a.channel < b.channel) ⊎
    ((a.channel ≡ b.channel) × ((a.kind < b.kind) ⊎ ((a.kind ≡ b.kind) × (a.sequence < b.sequence))))

pub is-before : (a b : Key) → is_before a b ≡ true → Before a b
unfolding is_before
is-before a b h =
    cases (eqb a.channel b.channel)
    (λ p. inr (
      eqb-true a.channel b.channel p,
      cases (eqb a.kind b.kind)
          (λ q. inr (eqb-true a.kind b.kind q, ltb-true a.sequence b.sequence (cc)))
          (λ q. inl (ltb-true a.kind b.kind (cc))),
    ))
    (λ p. inl (ltb-true a.channel b.channel (cc)))

pub before-is : (a b : Key) → Before a b → is_before a b ≡ true
unfolding is_before
before-is a b (inl l) =
    let p = ne_eqb a.channel b.channel (λ q. omega arith) in
    let z = lt-ltb a.channel b.channel l in
    cc
before-is a b (inr (e, inl l)) =
    let p = eq-eqb a.channel b.channel e in
    let q = ne_eqb a.kind b.kind (λ q. omega arith) in
    let z = lt-ltb a.kind b.kind l in
    cc
before-is a b (inr (e, inr (f, l))) =
    let p = eq-eqb a.channel b.channel e in
    let q = eq-eqb a.kind b.kind f in
    let z = lt-ltb a.sequence b.sequence l in
    cc

before-onward : (a b c : Key) → Before a b → Before b c → Before a c
before-onward a b c (inl p) (inl q) = inl (omega arith)
before-onward a b c (inl p) (inr q) = inl (omega (arith, q.0))
before-onward a b c (inr p) (inl q) = inl (omega (arith, p.0))
before-onward a b c (inr (d, inl p)) (inr (e, inl q)) = inr (d ∙ e, inl (omega arith))
before-onward a b c (inr (d, inl p)) (inr (e, inr q)) = inr (d ∙ e, inl (omega (arith, q.0)))
before-onward a b c (inr (d, inr p)) (inr (e, inl q)) = inr (d ∙ e, inl (omega (arith, p.0)))
before-onward a b c (inr (d, inr p)) (inr (e, inr q)) = inr (d ∙ e, inr (p.0 ∙ q.0, omega (arith, p.1, q.1)))

before-not-own : (a : Key) → is_before a a ≡ false
before-not-own a = cases (is_before a a) (λ e. absurd (no (is-before a a e))) (λ e. e)
  where
    no : Before a a → ⊥
    no (inl p) = omega arith
    no (inr (e, inl p)) = omega arith
    no (inr (e, inr p)) = omega (arith, p.1)

-- of two keys that differ one is before the other
pub before-other : (a b : Key) → (a ≡ b → ⊥) → is_before a b ≡ false → is_before b a ≡ true
unfolding is_before
before-other a b n h =
    before-is b a (cases (eqb a.channel b.channel)
    (λ p. inr (
      sym (eqb-true a.channel b.channel p),
      cases (eqb a.kind b.kind)
          (λ q. inr (
            sym (eqb-true a.kind b.kind q),
            last (eqb-true a.channel b.channel p)
                (eqb-true a.kind b.kind q) (ltb-false a.sequence b.sequence (cc)),
          ))
          (λ q. inl (omega (arith, eqb-false a.kind b.kind q, ltb-false a.kind b.kind (cc)))),
    ))
    (λ p. inl (omega (arith, eqb-false a.channel b.channel p, ltb-false a.channel b.channel (cc)))))
  where
    last : a.channel ≡ b.channel → a.kind ≡ b.kind → b.sequence ≤ a.sequence → b.sequence < a.sequence
    last p q l =
        cases (eqb a.sequence b.sequence)
        (λ e. let r = eqb-true a.sequence b.sequence e in absurd
        (n (λ i. record { kind = q i; channel = p i; sequence = r i })))
        (λ e. omega (arith, eqb-false a.sequence b.sequence e))

pub strict : Strict precedes
strict =
    record {
      not_own = λ x. before-not-own (key_of x);
      onward = λ x y z p q.
          before-is (key_of x) (key_of z)
          (before-onward (key_of x) (key_of y) (key_of z) (is-before (key_of x) (key_of y) p)
          (is-before (key_of y) (key_of z) q));
    }

pub same-not-before : (x y : Record) → same_key x y ≡ true → precedes x y ≡ false
same-not-before x y h = ap (is_before (key_of x)) (key-of (key_of x) y h) ∙ before-not-own (key_of x)
