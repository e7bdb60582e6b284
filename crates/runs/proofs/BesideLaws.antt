-- Laws of companions: where they are, if a run before holds them, and whether one is there. Assumes nothing.
use mathlib.Core.Path.{◌≡◌, sym, ap, ◌∙◌}
use mathlib.Core.Bool.{true, false}
use mathlib.Core.List.{List}
use mathlib.Core.Logic.{inl, inr}
use Prim.Native.Nat.{ℕ, suc, ◌+◌, ◌≤◌, ◌<◌}
use native.Mathlib.Omega.{arith}
use lib.Dec.{ltb, eqb}
use borrow.Author.Tests.{eqb-true, eqb-false, ltb-true, ltb-false, eq-eqb, lt-ltb}
use Rattle.wire.specs.Choice.{◌and◌, pick}
use Rattle.wire.proofs.ChoiceLaws.{cases, clash, and_both, both-and, of-pick}
use Rattle.slots.specs.declared.Key.{Key}
use Rattle.slots.specs.Table.{has_key}
use Rattle.slots.proofs.KeyLaws.{has-key, not_key}
use Rattle.runs.specs.Run.{record_at, key_at, Ahead, OwnRun, Passed, companion_of, has_before, Beside, Reached}
use Rattle.runs.proofs.EachLaws.{any_at, any_none}

-- A COMPANION IS THERE where it is at the first slot whose sequence is not below
module _ (bs : List ℕ) (kind q i e : ℕ) (b : Beside bs kind q i e) (k : ℕ) (low : i ≤ k) (high : k < e) (m : ℕ)
    (reached : Reached bs q i (key_at bs k).sequence m) where
  there : m < i → (key_at bs m).sequence ≡ (key_at bs k).sequence → has_before bs kind k ≡ true
  unfolding has_before
  there l h =
      let p = b.kinds m reached.low l in
      let c = b.channels m reached.low l ∙ sym (b.run.channels k low high) in
      any_at (λ x. has_key (companion_of kind (key_at bs k)) (record_at bs x)) k m (omega arith)
      (has-key (companion_of kind (key_at bs k)) (record_at bs m)
      (λ x. record { kind = p x; channel = c x; sequence = h x }))

  -- no other slot has its key
  other : (m < i → (key_at bs m).sequence ≡ (key_at bs k).sequence → ⊥) → (x : ℕ) → x < k →
      key_at bs x ≡ companion_of kind (key_at bs k) → ⊥
  other absent x l h =
      let p : (key_at bs x).kind ≡ kind = ap (λ (y : Key). y.kind) h in
      let n : (key_at bs x).sequence ≡ (key_at bs k).sequence = ap (λ (y : Key). y.sequence) h in
      let c : (key_at bs x).channel ≡ (key_at bs i).channel =
      ap (λ (y : Key). y.channel) h ∙ b.run.channels k low high in
      cases (ltb x i)
      (λ f. let below = ltb-true x i f in
      cases (ltb x q) (λ g. b.before x (ltb-true x q g) p c)
      (λ g. let from = ltb-false x q g in
      cases (ltb x m) (λ o. omega (arith, reached.below x from (ltb-true x m o), n))
      (λ o. let over = ltb-false x m o in
      let stop = reached.stopped (omega arith) in
      cases (eqb m x)
      (λ s. absent (omega arith) (ap (λ (y : ℕ). (key_at bs y).sequence) (eqb-true m x s) ∙ n))
      (λ s. omega (arith, b.rises m x reached.low (omega (arith, eqb-false m x s)) below, stop, n)))))
      (λ f. let from = ltb-false x i f in omega (arith, b.run.kinds x from (omega arith), b.own, p))

  pub companion-there : has_before bs kind k ≡ (ltb m i and eqb (key_at bs m).sequence (key_at bs k).sequence)
  unfolding has_before
  companion-there =
      cases (ltb m i and eqb (key_at bs m).sequence (key_at bs k).sequence)
      (λ h. there (ltb-true m i (and_both h).0) (eqb-true _ _ (and_both h).1) ∙ sym h)
      (λ h.
      any_none (λ x. has_key (companion_of kind (key_at bs k)) (record_at bs x)) k
      (λ x l. not_key (companion_of kind (key_at bs k)) (record_at bs x)
      (other (λ n o. clash (both-and (lt-ltb m i n) (eq-eqb _ _ o)) h) x l)) ∙ sym h)

  -- what was passed stays below the next record
  pub passed-next : k + 1 < e → (x : ℕ) → q ≤ x → x < m → (key_at bs x).sequence < (key_at bs (k + 1)).sequence
  passed-next l x a c =
      omega (arith, reached.below x a c, b.run.rises k (k + 1) low (omega arith) l)

-- THE RUN BEFORE is that of the companions, or none is before
ahead-not : (a b c : Key) → Ahead a b → Ahead b c → a.channel ≡ c.channel → c.kind ≡ suc a.kind → ⊥
ahead-not a b c (inl p) (inl q) h k = omega arith
ahead-not a b c (inl p) (inr q) h k = omega (arith, q.0)
ahead-not a b c (inr p) (inl q) h k = omega (arith, p.0)
ahead-not a b c (inr p) (inr q) h k = omega (arith, p.1, q.1)

ahead-other : (a b : Key) → Ahead a b → a.channel ≡ b.channel → a.kind ≡ b.kind → ⊥
ahead-other a b (inl p) h k = omega arith
ahead-other a b (inr p) h k = omega (arith, p.1)

pub beside-run : (bs : List ℕ) (kind p i e : ℕ) → OwnRun bs i e → Passed bs p i → (key_at bs i).kind ≡ suc kind →
    Beside bs kind
    (pick (ltb p i and eqb (key_at bs p).kind kind and eqb (key_at bs p).channel (key_at bs i).channel) p i) i e
beside-run bs kind p i e r t own =
    of-pick (λ q. Beside bs kind q i e)
    (ltb p i and eqb (key_at bs p).kind kind and eqb (key_at bs p).channel (key_at bs i).channel) p i
    (λ h.
    let l = ltb-true p i (and_both (and_both h).0).0 in
    let k = eqb-true (key_at bs p).kind kind (and_both (and_both h).0).1 in
    let c = eqb-true (key_at bs p).channel (key_at bs i).channel (and_both h).1 in
    let run = t.run l in
    record {
      run = r;
      low = t.low;
      own = own;
      kinds = λ m a o. run.kinds m a o ∙ k;
      channels = λ m a o. run.channels m a o ∙ c;
      rises = run.rises;
      before = λ m a o n. ahead-other (key_at bs m) (key_at bs p) (t.before m a) (n ∙ sym c) (o ∙ sym k);
    })
    (λ h.
    record {
      run = r;
      low = omega arith;
      own = own;
      kinds = λ m a o. absurd (omega arith);
      channels = λ m a o. absurd (omega arith);
      rises = λ m x a o n. absurd (omega arith);
      before = none h;
    })
  where
    none : (ltb p i and eqb (key_at bs p).kind kind and eqb (key_at bs p).channel (key_at bs i).channel) ≡ false →
        (m : ℕ) → m < i → (key_at bs m).kind ≡ kind → (key_at bs m).channel ≡ (key_at bs i).channel → ⊥
    none h m l k c =
        let near = t.near (omega arith) in
        cases (ltb m p)
        (λ f. ahead-not (key_at bs m) (key_at bs p) (key_at bs i) (t.before m (ltb-true m p f)) (t.follows near) c
        (own ∙ ap suc (sym k)))
        (λ f. let g = ltb-false m p f in
        let run = t.run near in
        clash
        (both-and (both-and (lt-ltb p i near) (eq-eqb _ _ (sym (run.kinds m g l) ∙ k)))
        (eq-eqb _ _ (sym (run.channels m g l) ∙ c))) h)
