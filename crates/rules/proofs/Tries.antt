-- With true verdicts of tries, a TRYOPEN end names an initiator's end. Assumes nothing.
use Rattle.wire.proofs.Prelude.{◌≡◌, refl, sym, ap, ◌∙◌, [], ◌∷◌, inl, inr, ⊎_elim, ℕ, suc, arith}
use Rattle.wire.specs.Names.{◌or◌}
use Rattle.slots.specs.declared.PortChannel.{PortChannel}
use Rattle.slots.specs.declared.Channel.{Channel}
use Rattle.slots.specs.Names.{state_try_open, state_open, channel_at}
use Rattle.openings.specs.Opening.{opening_of}
use Rattle.datagram.specs.Names.{only, body, has_part, open_try}
use Rattle.rules.specs.Names.{Side, across, Initiator, TriesAnswer, Honest}
use Rattle.rules.proofs.Growth.{Grown, grown-refl, grown-one}
use Rattle.rules.proofs.Opening.{Tries, tried-by}
use Rattle.rules.proofs.History.{as-made, World, ledger, Turn}
use Rattle.rules.proofs.Ends.{holds-since}
use Rattle.rules.proofs.Block.{seen}

module _ (w : World) (honest : Honest (only (open_try ∷ [])) w.start w.calls) where
  -- as the try's verdict shows it
  initiator-shown : (z : Side) (i : ℕ) (u : Turn w z i) (c : Channel) → Tries u.acts.acted.step c →
      Initiator w.start w.calls z i c
  unfolding body has_part only ◌or◌
  initiator-shown z i u c o =
      let k = o.kind in
      let x = seen w (only (open_try ∷ [])) honest z i u (ap (only (open_try ∷ [])) k) (rw k refl) in
      let l = x.alike.one in
      let b = o.initiator in
      record {
        place = x.time;
        earlier = x.earlier;
        end = x.end;
        found =
            ap (λ (e : PortChannel). channel_at e.channel (ledger w (across z) x.time).channels) (sym b.own) ∙
            x.found;
        init = sym x.alike.state ∙ b.init;
        own = sym l.own ∙ b.own;
        port = ap (λ (e : PortChannel). e.port) (sym l.counterparty) ∙ b.port;
        order = sym l.order ∙ b.order;
        version = sym l.version ∙ b.version;
      }

  -- and from then on
  initiator-later : (z : Side) (i : ℕ) (c e : Channel) → Grown c e → c.state ≡ state_try_open →
      Initiator w.start w.calls z i c → Initiator w.start w.calls z (suc i) e
  initiator-later z i c e g k p =
      let l = grown-one g (λ q. omega arith) in
      let m = p.earlier in
      record {
        place = p.place;
        earlier = omega arith;
        end = p.end;
        found =
            ap (λ (x : PortChannel). channel_at x.channel (ledger w (across z) p.place).channels)
            (sym l.counterparty) ∙ p.found;
        init = p.init;
        own = p.own ∙ l.counterparty;
        port = p.port ∙ ap (λ (x : PortChannel). x.port) l.own;
        order = p.order ∙ l.order;
        version = p.version ∙ l.version;
      }

  pub tries-answer : TriesAnswer w.start w.calls
  unfolding opening_of
  tries-answer =
      holds-since w (λ c. c.state ≡ state_try_open) (Initiator w.start w.calls)
      (λ z n c f k.
      let o = as-made (w.start z) (w.made z) (λ c. c.state ≡ state_open) (λ o. refl) n c f in
      absurd (omega arith)) initiator-later
      (λ z i u n e h k. ⊎_elim (λ x. inl x)
      (λ o. inr (initiator-later z i e e (grown-refl e) k (initiator-shown z i u e o)))
      (tried-by u.acts.acted.step n e h k))
