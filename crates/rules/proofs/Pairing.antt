-- With paired openings and true verdicts of the steps by which ends open, each end that has opened names an end that
-- names it, and two that name one end are one. Pairing is used here and nowhere else. Assumes nothing.
use Rattle.wire.proofs.Prelude.{◌≡◌, refl, sym, ap, ◌∙◌, true, inl, inr, ⊎_elim, some, ℕ, ◌≤◌, suc, arith, leb-true}
use Rattle.wire.specs.Names.{◌or◌}
use Rattle.slots.specs.declared.PortChannel.{PortChannel}
use Rattle.slots.specs.declared.Channel.{Channel}
use Rattle.slots.specs.Names.{state_open, no_version, channel_at, store_in}
use Rattle.slots.proofs.Laws.{channel-number}
use Rattle.openings.specs.Opening.{opening_of}
use Rattle.datagram.specs.Names.{only, body, has_part, end_verdict_part, body_of}
use Rattle.rules.specs.Names.{opens_end, fold, Side, across, datagram_got, Paired, StayPaired, OpensOnce, Honest}
use Rattle.rules.specs.Names.{NoneIsPaired}
use Rattle.rules.proofs.KindLaws.{of-kinds}
use Rattle.rules.proofs.VerdictLaws.{Partners, partners-one, one-refl}
use Rattle.rules.proofs.Growth.{Grown, grown-one, grown-begun}
use Rattle.rules.proofs.Opening.{Opens, opened-by}
use Rattle.rules.proofs.History.{as-made, made_none, World, ledger, Turn}
use Rattle.rules.proofs.Ends.{stays-there, one_end, sends-opened, holds-since}
use Rattle.rules.proofs.Block.{seen}

module _ (w : World) where
  -- THE PARTNER of an end: the end that it names is there, is not INIT and names it
  pub record Partner (z : Side) (i : ℕ) (c : Channel) : Type 0 where
    pub end : Channel
    pub found : channel_at c.counterparty.channel (ledger w (across z) i).channels ≡ some end
    pub partners : Partners c end

  -- it stays, and so it does for the end as it grows
  partner-later : (z : Side) (i j : ℕ) (c : Channel) → i ≤ j → Partner z i c → Partner z j c
  partner-later z i j c l p =
      let a = stays-there w (across z) i j _ p.end l p.found in
      let b = p.partners.begun in
      record {
        end = a.0;
        found = a.1;
        partners = partners-one p.partners (one-refl c) (grown-one a.2 b) (grown-begun a.2 b);
      }

  partner-grown : (z : Side) (i : ℕ) (c e : Channel) → Grown c e → state_open ≤ c.state → Partner z i c →
      Partner z (suc i) e
  partner-grown z i c e g l p =
      let m = grown-one g (λ q. omega arith) in
      partner-later z i (suc i) e (omega arith) (record {
        end = p.end;
        found = ap (λ (x : PortChannel). channel_at x.channel (ledger w (across z) i).channels)
            (sym m.counterparty) ∙ p.found;
        partners = partners-one p.partners m (one-refl p.end) p.partners.begun;
      })

  module _ (pairs : Paired w.start) (honest : Honest opens_end w.start w.calls) where
    -- as the stores were made
    partner-made : (z : Side) (n : ℕ) (c : Channel) → channel_at n (store_in (w.start z)).channels ≡ some c →
        Partner z 0 c
    unfolding fold opening_of
    partner-made z n c h =
        let q = pairs z n c h in
        let made : Channel → Type 0 = λ e. (e.state ≡ state_open) × (e.version ≡ no_version) in
        let a = as-made (w.start z) (w.made z) made (λ o. (refl, refl)) n c h in
        let b = as-made (w.start (across z)) (w.made (across z)) made (λ o. (refl, refl)) _ q.0 q.1 in
        let k = b.0 in
        record {
          end = q.0;
          found = q.1;
          partners = record { peers = q.2; version = b.1 ∙ sym a.1; begun = λ e. omega arith };
        }

    -- as the step's verdict shows it
    partner-shown : (z : Side) (i : ℕ) (u : Turn w z i) (c : Channel) → Opens u.acts.acted.step c → Partner z i c
    unfolding body has_part only ◌or◌
    partner-shown z i u c o =
        let p = o.partner in
        let x = seen w opens_end honest z i u o.kind (of-kinds (λ y. has_part end_verdict_part (body_of y) ≡ true)
        opens_end refl (datagram_got u.call).kind (refl, (refl, tt)) o.kind) in
        partner-later z x.time i c x.earlier (record {
          end = x.end;
          found =
              ap (λ (e : PortChannel). channel_at e.channel (ledger w (across z) x.time).channels)
              (sym p.peers.own) ∙ x.found;
          partners = partners-one p (one-refl c) x.alike.one (λ e. p.begun (x.alike.state ∙ e));
        })

    -- EVERY END THAT HAS OPENED has its partner
    pub partner : (z : Side) (i n : ℕ) (c : Channel) → channel_at n (ledger w z i).channels ≡ some c →
        state_open ≤ c.state → Partner z i c
    partner =
        holds-since w (λ c. state_open ≤ c.state) Partner (λ z n c f l. partner-made z n c f) partner-grown
        (λ z i u n e h l. ⊎_elim (λ x. inl x)
        (λ o. inr (partner-later z i (suc i) e (omega arith) (partner-shown z i u e o)))
        (opened-by u.acts.acted.step (sends-opened w z i) n e h l))

    pub stay-paired : StayPaired w.start w.calls
    stay-paired z i n c h o =
        let p = partner z i n c h (leb-true state_open c.state o) in
        (p.end, p.found, p.partners.peers, p.partners.version)

    -- TWO ENDS THAT NAME ONE END are one
    pub one-names : (z : Side) (i j n m : ℕ) (c e : Channel) → channel_at n (ledger w z i).channels ≡ some c →
        channel_at m (ledger w z j).channels ≡ some e →
        state_open ≤ c.state → state_open ≤ e.state → c.counterparty.channel ≡ e.counterparty.channel →
        c.own ≡ e.own
    one-names z i j n m c e f g k l q =
        let p = partner z i n c f k in
        let r = partner z j m e g l in
        let a = one_end w (across z) i j c.counterparty.channel p.end r.end p.found
        (ap (λ (x : ℕ). channel_at x (ledger w (across z) j).channels) q ∙ r.found) p.partners.begun
        r.partners.begun in
        sym p.partners.peers.counterparty ∙ a.counterparty ∙ r.partners.peers.counterparty

    pub opens-once : OpensOnce w.start w.calls
    opens-once z i j n m c e f g k l q =
        let o = one-names z i j n m c e f g (leb-true state_open c.state k) (leb-true state_open e.state l) q in
        sym (channel-number n _ c f) ∙ ap (λ (x : PortChannel). x.channel) o ∙ channel-number m _ e g

-- STORES WITH NO OPENINGS are paired
pub none-is-paired : NoneIsPaired
none-is-paired start made empty z n c h = absurd (made_none (start z) (made z) (empty z) n c h)
