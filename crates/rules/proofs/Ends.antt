-- Ends through a list of calls: an end that is there stays, grown; numbers rise; what holds of an end in a state, since
-- it came into it. Assumes nothing.
use Rattle.wire.proofs.Prelude.{◌≡◌, sym, ap, subst, ◌∙◌, inl, inr, ◌⊎◌, ⊎_elim, none, some, ℕ, ◌≤◌, ◌<◌, zero, suc}
use Rattle.wire.proofs.Prelude.{arith, leb, length, leb-true, leb-false, le-leb}
use Rattle.wire.proofs.Laws.{cases}
use Rattle.slots.specs.declared.Channel.{Channel}
use Rattle.slots.specs.Names.{state_init, state_open, channel_at, commitment_key, lookup, store_in, Store}
use Rattle.slots.proofs.Laws.{channel-number, next_low, number-below, fit-numbers}
use Rattle.openings.proofs.MakerLaws.{made-lookup}
use Rattle.datagram.specs.Names.{Datagram}
use Rattle.rules.specs.Names.{number_after, EndEdit, fold, Side, EndsStay, NumbersRise}
use Rattle.rules.proofs.VerdictLaws.{OneEnd, one-sym}
use Rattle.rules.proofs.Growth.{Grown, grown-refl, grown-trans, grown-one}
use Rattle.rules.proofs.Step.{Step, makes-fresh, Turns, standing, growing, joining, Change, unchanged, changed}
use Rattle.rules.proofs.Step.{added, later-some, left_end, turns, next-left, change, later}
use Rattle.rules.proofs.Opening.{Sending, sending-stays, Was}
use Rattle.rules.proofs.History.{made-read, World, ledger, Turn, Quiet, turn, kept, ledger-fits}

pub either : (a b : ℕ) → (a ≤ b) ⊎ (b ≤ a)
either a b = cases (leb a b) (λ q. inl (leb-true a b q)) (λ q. let l = leb-false a b q in inr (omega arith))

-- ONE STEP AND A NUMBER: the next one does not fall, and one below it that no end has stays so
next-rises : {s t : Store} {d : Datagram} → Step s d t → s.next ≤ t.next
unfolding number_after
next-rises {s} {t} {d} st = subst (λ (n : ℕ). s.next ≤ n) (sym (next-left st)) (go (turns st))
  where
    go : {x : EndEdit} → Turns s d st.channel x → s.next ≤ number_after x s.next
    go standing = omega arith
    go (growing o g) = omega arith
    go (joining k ok m) = omega arith

stays-unused : {s t : Store} {d : Datagram} (n : ℕ) → Step s d t → n < s.next → channel_at n s.channels ≡ none →
    channel_at n t.channels ≡ none
stays-unused {s} {t} {d} n st l h = go (change st n)
  where
    go : Change s d t st.channel (left_end st) n → channel_at n t.channels ≡ none
    go (unchanged q) = q ∙ h
    go (changed f g) = let z : ◌≡◌ {A = ℕ} 0 1 = cc in absurd (omega arith)
    go (added {x = x} m f g) =
        absurd (omega (arith, (makes-fresh m).number, channel-number n t.channels x g))

module _ (w : World) where
  -- AN END STAYS
  pub stays-there : (z : Side) (i j n : ℕ) (c : Channel) → i ≤ j → channel_at n (ledger w z i).channels ≡ some c →
      (e : Channel) × (channel_at n (ledger w z j).channels ≡ some e) × Grown c e
  stays-there z i j n c l h =
      kept w (λ (s : Store). (e : Channel) × (channel_at n s.channels ≡ some e) × Grown c e)
      (λ s t d st p.
      let q = later-some s.next (channel_at n s.channels) (channel_at n t.channels) p.0 (later st n) p.1 in
      (q.0, q.1, grown-trans p.2 q.2)) z i j l (c, h, grown-refl c)

  pub ends-stay : EndsStay w.start w.calls
  ends-stay z i j n c l h =
      let a = stays-there z i j n c l h in
      let g = a.2 in (
        a.0,
        a.1,
        record {
          own = g.own;
          order = g.order;
          version = g.version;
          port = g.port;
          counterparty = g.counterparty;
          opened = λ q. le-leb state_open a.0.state (g.state.opened (leb-true state_open c.state q));
          closed = g.state.closed;
        },
      )

  -- an end of a number grows into what stands there later
  pub grows-into : (z : Side) (i j n : ℕ) (c e : Channel) → i ≤ j → channel_at n (ledger w z i).channels ≡ some c →
      channel_at n (ledger w z j).channels ≡ some e → Grown c e
  grows-into z i j n c e l f g =
      let a = stays-there z i j n c l f in
      let b = a.1 in
      let x : a.0 ≡ e = cc in
      subst (Grown c) x a.2

  -- so it is one end at two times, where it is not INIT at either
  pub one_end : (z : Side) (i j n : ℕ) (c e : Channel) → channel_at n (ledger w z i).channels ≡ some c →
      channel_at n (ledger w z j).channels ≡ some e →
      (c.state ≡ state_init → ⊥) → (e.state ≡ state_init → ⊥) → OneEnd c e
  one_end z i j n c e f g p q =
      ⊎_elim (λ l. grown-one (grows-into z i j n c e l f g) p)
      (λ l. one-sym (grown-one (grows-into z j i n e c l g f) q)) (either i j)

  -- NUMBERS RISE
  pub numbers-rise : NumbersRise w.start w.calls
  numbers-rise z i j n c l f g =
      let s = ledger w z i in
      let fits = fit-numbers s (ledger-fits w z i) in
      let low = next_low s.next s.channels fits in
      let above = cases (leb s.next n) (λ q. leb-true s.next n q)
      (λ q. absurd (never (leb-false s.next n q))) in
      (omega arith, λ m e h. let k = number-below s.next s.channels fits m e h in omega arith)
    where
      never : n < (ledger w z i).next → ⊥
      never k =
          let p = kept w (λ (s : Store). (n < s.next) × (channel_at n s.channels ≡ none))
          (λ s t d st h. (omega (arith, next-rises st, h.0), stays-unused n st h.0 h.1)) z i j l (k, f) in
          let q = p.1 in
          let v : ◌≡◌ {A = ℕ} 0 1 = cc in
          omega arith

  -- COMMITMENTS stand on ends that have opened
  pub sends-opened : (z : Side) (i : ℕ) → Sending (ledger w z i)
  unfolding fold
  sends-opened z i =
      kept w Sending (λ s t d st o. sending-stays st o) z 0 i (omega arith) (λ n m r h.
      let k = w.made z in
      let e = ap (λ (s : Store). lookup (commitment_key n m) s.records) (made-read (w.start z) k) ∙
      made-lookup (length k.slice) k.openings (commitment_key n m) in
      let v : ◌≡◌ {A = ℕ} 0 1 = cc in
      absurd (omega arith))

  -- WHAT HOLDS OF ENDS IN A STATE: it held of those that were made, it stays as they grow, and holds of one that comes
  -- into it
  module _ (P : Channel → Type 0) (R : Side → ℕ → Channel → Type 0)
      (made : (z : Side) (n : ℕ) (c : Channel) → channel_at n (store_in (w.start z)).channels ≡ some c → P c → R z 0 c)
      (grows : (z : Side) (i : ℕ) (c e : Channel) → Grown c e → P c → R z i c → R z (suc i) e)
      (comes : (z : Side) (i : ℕ) (u : Turn w z i) (n : ℕ) (e : Channel) →
      channel_at n (ledger w z (suc i)).channels ≡ some e → P e →
      Was u.acts.acted.step P n e ⊎ R z (suc i) e) where
    pub holds-since : (z : Side) (i n : ℕ) (c : Channel) → channel_at n (ledger w z i).channels ≡ some c → P c → R z i c
    unfolding fold
    holds-since z zero n c h p = made z n c h p
    holds-since z (suc i) n c h p = go (turn w z i) (holds-since z i n)
      where
        go : Quiet w z i ⊎ Turn w z i → ((c : Channel) → channel_at n (ledger w z i).channels ≡ some c → P c →
            R z i c) → R z (suc i) c
        go (inl q) ih =
            grows z i c c (grown-refl c) p (ih c (ap (λ (s : Store). channel_at n s.channels) (sym q.same) ∙ h) p)
        go (inr u) ih =
            ⊎_elim (λ x. grows z i x.end c x.grown x.was (ih x.end x.found x.was)) (λ r. r)
            (comes z i u n c h p)
