-- A counter of an end that rises with each call of one sort: while the end counts, it is one more than there were such
-- calls at the end. Where there is no end yet, there was no such call. Assumes nothing.
use Rattle.wire.proofs.Prelude.{◌≡◌, refl, sym, ap, subst, subst₂, ◌∙◌, Bool, true, false, List, inl, inr, ◌⊎◌, Option}
use Rattle.wire.proofs.Prelude.{none, some, ℕ, zero, suc, arith, eqb, take, eqb-true, eq-eqb}
use Rattle.wire.specs.Names.{◌and◌}
use Rattle.wire.proofs.Laws.{and_both, both-and, clash, cases}
use Rattle.slots.specs.declared.Channel.{Channel}
use Rattle.slots.specs.Names.{channel_at, store_in, Store}
use Rattle.slots.proofs.Laws.{channel-number}
use Rattle.openings.specs.Opening.{opening_of}
use Rattle.rules.specs.Names.{makes_end, fold, Side, Call, datagram_got, how_many, is_on, is_accepted}
use Rattle.rules.proofs.Growth.{Grown}
use Rattle.rules.proofs.Step.{Step, Fresh, makes-fresh, Change, unchanged, changed, added, left_end, own-found}
use Rattle.rules.proofs.Step.{own-grown, own-after, change}
use Rattle.rules.proofs.History.{side-refl, as-made, World, ledger, Turn, Quiet, turn, turn-count, quiet-count}

-- which ends count, what they count by, which calls are counted, and at the end of which number
module _ (w : World) (counts : Channel → Type 0) (counter : Channel → ℕ) (sort : Call → Bool)
    (channel_of : Call → ℕ) where
  abbrev step_of : {z : Side} {i : ℕ} (u : Turn w z i) → Step (ledger w z i) (datagram_got u.call) (ledger w z (suc i))
  step_of u = u.acts.acted.step

  abbrev is_counted : Side → (channel : ℕ) → Call → Bool
  is_counted z n c = is_on z c and sort c and eqb (channel_of c) n

  abbrev Counted : (calls : ℕ) → Option Channel → Type 0
  Counted m none = m ≡ 0
  Counted m (some c) = counts c → counter c ≡ suc m

  -- a counted call is about the end of its number, whose counter rises
  pub record Rises {z : Side} {i : ℕ} (u : Turn w z i) : Type 0 where
    pub old : makes_end (datagram_got u.call).kind ≡ false
    pub number : (step_of u).channel.own.channel ≡ channel_of u.call
    pub rises : counts (left_end (step_of u)) → counter (left_end (step_of u)) ≡ suc (counter (step_of u).channel)

  -- each counted call is an accepted one, and another call leaves the counter
  module _ (accepted : (c : Call) → sort c ≡ true → is_accepted c ≡ true)
      (back : (c e : Channel) → Grown c e → counts e → counts c) (first : (o : List ℕ) → counter (opening_of o) ≡ 1)
      (fresh : (n : ℕ) (e : Channel) → Fresh n e → counter e ≡ 1)
      (rises : (z : Side) (i : ℕ) (u : Turn w z i) → sort u.call ≡ true → Rises u)
      (stays : (z : Side) (i : ℕ) (u : Turn w z i) → sort u.call ≡ false → counts (left_end (step_of u)) →
      counter (left_end (step_of u)) ≡ counter (step_of u).channel) where
    made_counted : (z : Side) (n : ℕ) → Counted 0 (channel_at n (store_in (w.start z)).channels)
    made_counted z n = go (channel_at n (store_in (w.start z)).channels) refl
      where
        go : (x : Option Channel) → channel_at n (store_in (w.start z)).channels ≡ x → Counted 0 x
        go none e = refl
        go (some c) e = λ k. as-made (w.start z) (w.made z) (λ c. counter c ≡ 1) first n c e

    counted_next : {z : Side} {i : ℕ} (u : Turn w z i) (n m : ℕ) → is_counted z n u.call ≡ true →
        Counted m (channel_at n (ledger w z i).channels) → Counted (suc m) (channel_at n (ledger w z (suc i)).channels)
    counted_next {z} {i} u n m q x =
        let st = step_of u in
        let a = and_both q in
        let r = rises z i u (and_both a.0).1 in
        let number = sym (r.number ∙ eqb-true (channel_of u.call) n a.1) in
        let f = ap (λ (k : ℕ). channel_at k (ledger w z i).channels) number ∙ own-found st r.old in
        let g = ap (λ (k : ℕ). channel_at k (ledger w z (suc i)).channels) number ∙ own-after st r.old in
        let v : Counted m (some st.channel) = subst (Counted m) f x in
        subst (Counted (suc m)) (sym g) (λ k. r.rises k ∙ ap suc (v (back _ _ (own-grown st) k)))

    counted-still : {z : Side} {i : ℕ} (u : Turn w z i) (n m : ℕ) → is_counted z n u.call ≡ false →
        Counted m (channel_at n (ledger w z i).channels) → Counted m (channel_at n (ledger w z (suc i)).channels)
    counted-still {z} {i} u n m q x = go (change (step_of u) n)
      where
        other : (step_of u).channel.own.channel ≡ n → sort u.call ≡ false
        other number =
            cases (sort u.call)
            (λ s. clash (both-and (both-and (rw u.acts.side (side-refl z)) s)
            (eq-eqb (channel_of u.call) n (sym (rises z i u s).number ∙ number))) q) (λ s. s)

        go : Change (ledger w z i) (datagram_got u.call) (ledger w z (suc i)) (step_of u).channel
            (left_end (step_of u)) n → Counted m (channel_at n (ledger w z (suc i)).channels)
        go (unchanged e) = subst (Counted m) (sym e) x
        go (changed f g) =
            let v : Counted m (some (step_of u).channel) = subst (Counted m) f x in
            let o = other (channel-number n (ledger w z i).channels (step_of u).channel f) in
            subst (Counted m) (sym g) (λ k. stays z i u o k ∙ v (back _ _ (own-grown (step_of u)) k))
        go (added y f g) =
            let e : m ≡ 0 = subst (Counted m) f x in
            subst (Counted m) (sym g) (λ k. fresh _ _ (makes-fresh y) ∙ ap suc (sym e))

    counted-at : (z : Side) (n i : ℕ) →
        Counted (how_many (is_counted z n) (take i w.calls)) (channel_at n (ledger w z i).channels)
    unfolding fold
    counted-at z n zero = made_counted z n
    counted-at z n (suc i) = go (turn w z i) (counted-at z n i)
      where
        have : ℕ
        have = how_many (is_counted z n) (take i w.calls)

        now : Option Channel
        now = channel_at n (ledger w z (suc i)).channels

        go : Quiet w z i ⊎ Turn w z i → Counted have (channel_at n (ledger w z i).channels) →
            Counted (how_many (is_counted z n) (take (suc i) w.calls)) now
        go (inl q) x =
            subst₂ (λ (s : Store) (m : ℕ). Counted m (channel_at n s.channels)) (sym q.same)
            (sym (quiet-count w q sort (λ c. eqb (channel_of c) n) accepted)) x
        go (inr u) x =
            let t = turn-count w u (is_counted z n) in
            cases (is_counted z n u.call)
            (λ q.
            let m : how_many (is_counted z n) (take (suc i) w.calls) ≡ suc have = (rw q at t) ∙ omega arith in
            subst (λ (m : ℕ). Counted m now) (sym m) (counted_next u n have q x))
            (λ q.
            let m : how_many (is_counted z n) (take (suc i) w.calls) ≡ have = (rw q at t) ∙ omega arith in
            subst (λ (m : ℕ). Counted m now) (sym m) (counted-still u n have q x))

    pub counted-end : (z : Side) (n i : ℕ) (c : Channel) → channel_at n (ledger w z i).channels ≡ some c → counts c →
        counter c ≡ suc (how_many (is_counted z n) (take i w.calls))
    counted-end z n i c f = subst (Counted (how_many (is_counted z n) (take i w.calls))) f (counted-at z n i)
