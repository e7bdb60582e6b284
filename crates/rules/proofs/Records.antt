-- One accepted call and the packet records: what it writes and what it frees. Assumes nothing.
use Rattle.wire.proofs.Prelude.{◌≡◌, refl, sym, ap, subst, subst₂, ◌∙◌, true, not, false, List, inl, inr, ◌⊎◌, ⊎_elim}
use Rattle.wire.proofs.Prelude.{Option, none, some, ℕ, ◌+◌, ◌<◌, arith}
use Rattle.wire.specs.Names.{◌or◌, is_some, no_digest}
use Rattle.wire.proofs.Laws.{clash, not_some, none-if}
use Rattle.slots.specs.declared.Channel.{Channel}
use Rattle.slots.specs.declared.Record.{Record}
use Rattle.slots.specs.declared.Key.{Key}
use Rattle.slots.specs.Names.{state_open, commitment_kind, receipt_kind, acknowledgement_kind, timeout_receipt_kind, has_free}
use Rattle.slots.specs.Names.{channel_at, commitment_key, receipt_key, acknowledgement_key, timeout_receipt_key, key_of}
use Rattle.slots.specs.Names.{lookup, Store, may_have_receipt, may_have_timeout_receipt, is_taken, is_received, store_fits}
use Rattle.slots.proofs.Laws.{Single, insert-keeps, insert-from, remove-from, lookup-remove-other, fit-single}
use Rattle.slots.proofs.Laws.{committed-end, lapsed-end}
use Rattle.datagram.specs.declared.Packet.{Packet}
use Rattle.datagram.specs.Names.{only, send, receive, write, Datagram}
use Rattle.rules.specs.Names.{plain_record, counted, received_end, comes_late, Edit, keeps, writes, frees}
use Rattle.rules.specs.Names.{is_committed, makes_end, sent_packet, commitment, sends, receives}
use Rattle.rules.specs.Names.{writes_acknowledgement, acknowledges, times_out, makes, moves, edited, applied}
use Rattle.rules.specs.Names.{Effect}
use Rattle.rules.proofs.KindLaws.{finishes_packet, finishes-old, record-timed-out}
use Rattle.rules.proofs.VerdictLaws.{has-values}
use Rattle.rules.proofs.OrderingLaws as ordering
use Rattle.rules.proofs.ReceivedLaws as received
use Rattle.rules.proofs.Step.{How, sending, receiving, writing, acknowledging, timing, making, moving, Step}
use Rattle.rules.proofs.Step.{end_left, left_end, own-number, own-found}

-- A NEW ONE, by its key, is a send's commitment, an unordered end's receipt, a timeout receipt of what was not taken,
-- or an acknowledgement of what is received; `e` is the end as it is left
pub data New (s : Store) (d : Datagram) (c e : Channel) : Key → Record → Type 0 where
  commits : d.kind ≡ some send → c.state ≡ state_open → e.next.send ≡ c.next.send + 1 →
      New s d c e (commitment_key c.own.channel c.next.send) (commitment (sent_packet c d))
  receipts : d.kind ≡ some receive → may_have_receipt e ≡ true →
      New s d c e (receipt_key c.own.channel d.packet.sequence)
      (plain_record receipt_kind c.own.channel d.packet.sequence no_digest)
  timeout_receipts : d.kind ≡ some receive → is_taken s.records c d.packet.sequence ≡ false →
      may_have_timeout_receipt e d.packet.sequence ≡ true →
      New s d c e (timeout_receipt_key c.own.channel d.packet.sequence)
      (plain_record timeout_receipt_kind c.own.channel d.packet.sequence no_digest)
  acknowledgements : d.kind ≡ some write → is_received s.records c d.sequence ≡ true →
      New s d c e (acknowledgement_key c.own.channel d.sequence)
      (plain_record acknowledgement_kind c.own.channel d.sequence d.digest)

new-key : {s : Store} {d : Datagram} {c e : Channel} {k : Key} {r : Record} → New s d c e k r → key_of r ≡ k
unfolding commitment sent_packet plain_record
new-key (commits k o g) = refl
new-key (receipts k o) = refl
new-key (timeout_receipts k t a) = refl
new-key (acknowledgements k g) = refl

-- a new one has room and a key of its own; one that becomes free is a commitment that is there
pub data Legal (s : Store) (d : Datagram) (c e : Channel) : Edit → Type 0 where
  keeping : Legal s d c e keeps
  adding : {k : Key} {r : Record} → New s d c e k r → has_free s.records ≡ true →
      lookup (key_of r) s.records ≡ none → Legal s d c e (writes r)
  freeing : {n m : ℕ} → is_some (lookup (commitment_key n m) s.records) ≡ true →
      Legal s d c e (frees (commitment_key n m))

pub committed-there : (rs : List (Option Record)) (p : Packet) → is_committed rs p ≡ true →
    is_some (lookup (commitment_key p.source.channel p.sequence) rs) ≡ true
unfolding is_committed
committed-there rs p h =
    ap is_some (has-values p.timeout p.digest (lookup (commitment_key p.source.channel p.sequence) rs)
    h).there

-- next send is not in use
unused : (s : Store) (c : Channel) → store_fits s ≡ true → channel_at c.own.channel s.channels ≡ some c →
    lookup (commitment_key c.own.channel c.next.send) s.records ≡ none
unused s c f h =
    none-if (lookup (commitment_key c.own.channel c.next.send) s.records) (λ r e.
    let a = committed-end s c.own.channel c.next.send r f e in
    let b = a.1 in
    let q : a.0 ≡ c = cc in
    let l : c.next.send < c.next.send = rw q at a.2 in
    omega arith)

-- no timeout receipt is there of what was not taken
pub timeout-receipt-absent : (s : Store) (c : Channel) (n : ℕ) → store_fits s ≡ true →
    channel_at c.own.channel s.channels ≡ some c → is_taken s.records c n ≡ false →
    lookup (timeout_receipt_key c.own.channel n) s.records ≡ none
timeout-receipt-absent s c n f h t =
    none-if (lookup (timeout_receipt_key c.own.channel n) s.records) (λ r e.
    let a = lapsed-end s c.own.channel n r f e in
    let b = a.1 in
    let q : a.0 ≡ c = cc in
    let x = subst (λ (x : Channel). may_have_timeout_receipt x n ≡ true) q a.2 in
    clash (received.lapsed-taken s.records c n x) t)

legal-of : {s : Store} {d : Datagram} {c : Channel} {e : Effect} → store_fits s ≡ true →
    (makes_end d.kind ≡ false → channel_at c.own.channel s.channels ≡ some c) →
    (finishes_packet d.kind ≡ true → c.own.channel ≡ d.packet.source.channel) → How s d c e →
    Legal s d c (end_left c e.ends) e.edit
unfolding sends receives writes_acknowledgement acknowledges times_out makes moves commitment sent_packet plain_record
    counted only ◌or◌
legal-of {s} {c = c} f h w (sending k ok) =
    adding (commits k ok.state refl) ok.room (unused s c f (h (ap makes_end k)))
legal-of {s} {d} {c} f h w (receiving k ok) =
    let n = d.packet.sequence in
    let late = comes_late d in
    let room = ordering.record-room c late (has_free s.records) ok.room in
    ordering.by-record (Legal s d c (received_end c)) c late n
    (λ q.
    let t = received.take-new s.records c n ok.in_order ok.new in
    adding (timeout_receipts k t (ordering.lapse-may c late n q ok.in_order)) (room.0 q)
    (timeout-receipt-absent s c n f (h (ap makes_end k)) t)) keeping
    (λ q. adding (receipts k (ordering.receipt-may c q)) (room.1 q)
    (ordering.receipt-absent s.records c n q ok.new))
legal-of f h w (writing k ok) = adding (acknowledgements k ok.received) ok.room (not_some _ (ap not ok.new))
legal-of {s} {d} {c} f h w (acknowledging k ok) =
    freeing {n = c.own.channel} {m = d.packet.sequence}
    (rw (w (ap finishes_packet k)) (committed-there s.records d.packet ok.committed))
legal-of {s} {d} {c} f h w (timing k ok) =
    freeing {n = c.own.channel} {m = d.packet.sequence}
    (rw (w (record-timed-out d.kind k)) (committed-there s.records d.packet ok.committed))
legal-of f h w (making k ok m) = keeping
legal-of f h w (moving k m) = keeping

module _ {s t : Store} {d : Datagram} (st : Step s d t) where
  pub single : Single s.records
  single = fit-single s st.fits

  pub legal : Legal s d st.channel (left_end st) st.effect.edit
  legal = legal-of st.fits (own-found st) (λ k. own-number st (finishes-old d.kind k) ∙ st.shape.from_source k)
      st.how

  pub records-left : t.records ≡ edited st.effect.edit s.records
  unfolding applied
  records-left = ap (λ (x : Store). x.records) st.left

  -- a record that is there was there, or is new
  pub record-from : (k : Key) (r : Record) → lookup k t.records ≡ some r →
      (lookup k s.records ≡ some r) ⊎ New s d st.channel (left_end st) k r
  unfolding edited
  record-from k r h = go st.effect.edit legal (ap (lookup k) (sym records-left) ∙ h)
    where
      go : (e : Edit) → Legal s d st.channel (left_end st) e → lookup k (edited e s.records) ≡ some r →
          (lookup k s.records ≡ some r) ⊎ New s d st.channel (left_end st) k r
      go e keeping l = inl l
      go e (adding {r = x} by room new) l =
          ⊎_elim (λ q. inr (subst₂ (New s d st.channel (left_end st)) (sym (new-key by) ∙ q.0) (sym q.1) by))
          (λ q. inl q) (insert-from s.records single x room new k r l)
      go e (freeing {n = c} {m = m} there) l = inl (remove-from s.records single (commitment_key c m) k r l)

  -- a record that is no commitment stays
  pub record-stays : (k : Key) → (k.kind ≡ commitment_kind → ⊥) → is_some (lookup k s.records) ≡ true →
      is_some (lookup k t.records) ≡ true
  unfolding edited
  record-stays k n h = ap (λ (rs : List (Option Record)). is_some (lookup k rs)) records-left ∙
      go st.effect.edit legal
    where
      go : (e : Edit) → Legal s d st.channel (left_end st) e → is_some (lookup k (edited e s.records)) ≡ true
      go e keeping = h
      go e (adding {r = r} _ room new) = insert-keeps s.records single r room new k h
      go e (freeing {n = c} {m = m} there) =
          ap is_some (lookup-remove-other s.records single (commitment_key c m) k
          (λ q. n (ap (λ (x : Key). x.kind) (sym q)))) ∙ h
