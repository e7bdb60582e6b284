-- What the test of all packet records tells of each, beside those before it; and back. Assumes nothing.
use mathlib.Core.Path.{◌≡◌, refl, sym, ap, ◌∙◌}
use mathlib.Core.Bool.{true, false}
use mathlib.Core.List.{List}
use mathlib.Core.Option.{Option, none, some}
use Prim.Native.Nat.{ℕ, ◌+◌, ◌≤◌, ◌<◌}
use native.Mathlib.Omega.{arith}
use lib.Dec.{ltb, eqb}
use lib.ListN.{length, get_or}
use borrow.Author.Tests.{eqb-true, eqb-false, ltb-true, ltb-false, not-true}
use Rattle.wire.specs.Choice.{◌or◌, ◌and◌}
use Rattle.wire.specs.Bytes.{are_zero}
use Rattle.wire.proofs.ChoiceLaws.{cases, clash, and_both, both-and, some_is}
use Rattle.slots.specs.declared.Channel.{Channel}
use Rattle.slots.specs.declared.Record.{Record}
use Rattle.slots.specs.declared.Key.{Key}
use Rattle.slots.specs.Codes.{receipt_kind, acknowledgement_kind, timeout_receipt_kind}
use Rattle.slots.specs.Table.{has_key, is_before, precedes, channel_at, receipt_key, timeout_receipt_key}
use Rattle.slots.specs.Layout.{records_from, size_for, record_bytes, record_in, store_in}
use Rattle.slots.specs.Ordering.{has_receipt, is_lapsed, is_received}
use Rattle.slots.specs.Ordering.{may_have_timeout_receipt}
use Rattle.slots.specs.Fit.{record_fits, fits_end}
use Rattle.slots.specs.Scan.{slot_at, slots_from, used_slots}
use Rattle.slots.proofs.ScanLaws.{length-slots}
use Rattle.slots.proofs.TurnLaws.{records-from}
use Rattle.slots.proofs.ChannelLaws.{channel-number}
use Rattle.slots.proofs.KeyLaws.{key-of, has-key, strict}
use Rattle.slots.proofs.OrderLaws.{rising, in-order}
use Rattle.runs.specs.Run.{record_at, key_at, companion_of, has_before, has_companion}
use Rattle.runs.proofs.EachLaws.{any_at, any_some}
use Rattle.front.specs.EverySlot.{is_exact, anywhere, slot_fits}
use Rattle.fit.specs.Pass.{records_fit}
use Rattle.front.proofs.IndexLaws.{slot-some, slot-none, not_none, every-index, index-every}
use Rattle.fit.proofs.IndexLaws.{rising-index, upto-rising, upto-used, Upto, behind-index}
use Rattle.fit.proofs.BesideEndLaws.{end-beside, beside_end, end-received, end-lapsed, beside-apart}
use Rattle.fit.proofs.FittingLaws.{kind-not-before, Fitting, Taken, slot-index, entry-index, found-index}
use Rattle.fit.proofs.FittingLaws.{index-found}

module _ (bs : List ℕ) (n : ℕ) (size : length bs ≡ size_for n) where
  abbrev rs : List (Option Record)
  rs = (store_in bs).records

  -- THE WHOLE TELLS OF EACH
  module _ (whole : records_fit bs n ≡ true) where
    pub order : (m k : ℕ) → m < k → k < n → Taken bs k → Taken bs m × (is_before (key_at bs m) (key_at bs k) ≡ true)
    unfolding records_fit
    order m k l h t =
        let r = rising-index precedes rs (rising precedes strict rs (and_both whole).1) m k (record_at bs k) l
        (entry-index bs n size k h t) in
        let slot = sym (slot-index bs n size m (omega arith)) ∙ r.1 in
        let own : Taken bs m =
        cases (are_zero (slot_at records_from bs m)) (λ z. not_none (sym slot ∙ slot-none record_in _ z)) (λ z. z) in
        let e : r.0 ≡ record_at bs m = some_is (sym slot ∙ slot-some record_in _ own) in
        (own, ap (λ (x : Record). precedes x (record_at bs k)) (sym e) ∙ r.2)

    slot-fits : (k : ℕ) → k < n → Taken bs k → (is_exact record_bytes record_in (slot_at records_from bs k) ≡ true) ×
        (record_fits (store_in bs) (record_at bs k) ≡ true)
    unfolding records_fit slot_fits ◌or◌
    slot-fits k l t =
        let h = every-index (slot_fits record_bytes record_in (record_fits (store_in bs)) anywhere) records_from n bs
        (and_both whole).0 k l in
        let e : (is_exact record_bytes record_in (slot_at records_from bs k) and record_fits (store_in bs) (record_at bs k)
        and true) ≡ true = rw t at h in
        and_both (and_both e).0

    -- an entry of a lower kind on its channel stands before it
    before-index : (m k : ℕ) → m < n → k < n → Taken bs m → Taken bs k → (key_at bs m).channel ≡ (key_at bs k).channel →
        (key_at bs m).kind < (key_at bs k).kind → m < k
    before-index m k l h t u c less =
        cases (ltb m k) (λ e. ltb-true m k e)
        (λ e. let low = ltb-false m k e in
        cases (eqb m k)
        (λ f. absurd (omega (arith, less, ap (λ (x : ℕ). (key_at bs x).kind) (eqb-true m k f))))
        (λ f. clash (order k m (omega (arith, eqb-false m k f)) l t).1
        (kind-not-before (key_at bs k) (key_at bs m) (sym c) less)))

    -- on the end that it is found by
    module _ (k : ℕ) (l : k < n) (t : Taken bs k) (c : Channel)
        (found : channel_at (key_at bs k).channel (store_in bs).channels ≡ some c) where
      own-number : c.own.channel ≡ (key_at bs k).channel
      own-number = channel-number (key_at bs k).channel (store_in bs).channels c found

      fits-end : fits_end (store_in bs) (record_at bs k) (some c) ≡ true
      unfolding record_fits
      fits-end =
          ap (fits_end (store_in bs) (record_at bs k)) (sym found) ∙ (and_both (slot-fits k l t).1).1

      -- a receipt that is there stands before its acknowledgement
      receipt-before : (key_at bs k).kind ≡ acknowledgement_kind →
          has_receipt rs c (key_at bs k).sequence ≡ true → has_companion bs k ≡ true
      unfolding has_before
      receipt-before e h =
          let f = found-index bs n size (receipt_key c.own.channel (key_at bs k).sequence) h in
          let m = f.0 in
          let key = f.3 in
          let ch : (key_at bs m).channel ≡ (key_at bs k).channel = ap (λ (x : Key). x.channel) key ∙ own-number in
          let kind : (key_at bs m).kind ≡ receipt_kind = ap (λ (x : Key). x.kind) key in
          let low = before-index m k f.1 l f.2 t ch (omega arith) in
          rw e
          (any_at (λ x. has_key (companion_of receipt_kind (key_at bs k)) (record_at bs x)) k m low
          (has-key (companion_of receipt_kind (key_at bs k)) (record_at bs m)
          (λ x. record { kind = kind x; channel = ch x; sequence = (key x).sequence })))

    -- no acknowledgement stands before its timeout receipt
    module _ (k : ℕ) (l : k < n) (t : Taken bs k) (c : Channel)
        (found : channel_at (key_at bs k).channel (store_in bs).channels ≡ some c)
        (e : (key_at bs k).kind ≡ timeout_receipt_kind) where
      lapsed : is_lapsed rs c (key_at bs k).sequence ≡ true
      unfolding is_lapsed may_have_timeout_receipt
      lapsed =
          let own = own-number k l t c found in
          both-and (and_both (end-lapsed (store_in bs) (record_at bs k) c (fits-end k l t c found) e)).0
          (index-found bs n size k l t (timeout_receipt_key c.own.channel (key_at bs k).sequence)
          (λ x. record { kind = e x; channel = sym own x; sequence = (key_at bs k).sequence }))

      received-before : (m : ℕ) → m < k → key_at bs m ≡ companion_of acknowledgement_kind (key_at bs k) →
          is_received rs c (key_at bs k).sequence ≡ true
      received-before m low key =
          let at = (order m k low l t).0 in
          let ch = ap (λ (x : Key). x.channel) key in
          let q = ap (λ (x : Key). x.sequence) key in
          let there = ap (λ (x : ℕ). channel_at x (store_in bs).channels) ch ∙ found in
          ap (is_received rs c) (sym q) ∙
          end-received (store_in bs) (record_at bs m) c (fits-end m (omega arith) at c there)
          (ap (λ (x : Key). x.kind) key)

      apart-before : has_companion bs k ≡ false
      unfolding has_before is_received
      apart-before =
          rw e
          (cases (has_before bs acknowledgement_kind k)
          (λ h.
          let f = any_some (λ x. has_key (companion_of acknowledgement_kind (key_at bs k)) (record_at bs x)) k h in
          let key = key-of (companion_of acknowledgement_kind (key_at bs k)) (record_at bs f.0) f.2 in
          let r = received-before f.0 f.1 key in
          clash lapsed (not-true (is_lapsed rs c (key_at bs k).sequence) (and_both r).1)) (λ h. h))

    pub fits-before : (k : ℕ) → k < n → Taken bs k → Fitting bs k
    unfolding record_fits fits_end
    fits-before k l t =
        let own = slot-fits k l t in
        let both = and_both own.1 in
        let x = some_end (channel_at (key_at bs k).channel (store_in bs).channels) both.1 in
        record {
          exact = own.0;
          sequence = both.0;
          end = x.0;
          found = x.1;
          fits =
              end-beside (store_in bs) (record_at bs k) x.0 (fits-end k l t x.0 x.1) (has_companion bs k)
              (λ e m h. receipt-before k l t x.0 x.1 e h) (λ e. apart-before k l t x.0 x.1 e);
        }
      where
        some_end : (x : Option Channel) → fits_end (store_in bs) (record_at bs k) x ≡ true →
            (c : Channel) × (x ≡ some c)
        some_end none h = clash {b = false} h refl
        some_end (some c) h = (c, refl)

  -- EACH TELLS OF THE WHOLE: the first i records are in use and in order, and what is behind them is free
  module _ (i : ℕ) (within : i ≤ n) (used : (k : ℕ) → k < i → Taken bs k) (fitting : (k : ℕ) → k < i → Fitting bs k)
      (ordered : (m k : ℕ) → m < k → k < i → is_before (key_at bs m) (key_at bs k) ≡ true)
      (free : (k : ℕ) → i ≤ k → k < n → are_zero (slot_at records_from bs k) ≡ true) where
    -- a timeout receipt stands behind its acknowledgement, and so none is there
    not-lapsed : (k : ℕ) → k < i → (key_at bs k).kind ≡ acknowledgement_kind → (c : Channel) →
        c.own.channel ≡ (key_at bs k).channel → is_lapsed rs c (key_at bs k).sequence ≡ false
    unfolding is_lapsed has_before
    not-lapsed k l e c own =
        cases (is_lapsed rs c (key_at bs k).sequence)
        (λ h.
        let f = found-index bs n size (timeout_receipt_key c.own.channel (key_at bs k).sequence) (and_both h).1 in
        let m = f.0 in
        let key = f.3 in
        let kind : (key_at bs m).kind ≡ timeout_receipt_kind = ap (λ (x : Key). x.kind) key in
        let ch : (key_at bs k).channel ≡ (key_at bs m).channel = sym (ap (λ (x : Key). x.channel) key ∙ own) in
        let q : (key_at bs k).sequence ≡ (key_at bs m).sequence = sym (ap (λ (x : Key). x.sequence) key) in
        let below : m < i =
        cases (ltb m i) (λ a. ltb-true m i a) (λ a. clash (free m (ltb-false m i a) f.1) f.2) in
        let low : k < m =
        cases (ltb k m) (λ a. ltb-true k m a)
        (λ a. cases (eqb k m)
        (λ b. absurd (omega (arith, kind, e, ap (λ (x : ℕ). (key_at bs x).kind) (eqb-true k m b))))
        (λ b. clash (ordered m k (omega (arith, ltb-false k m a, eqb-false k m b)) l)
        (kind-not-before (key_at bs m) (key_at bs k) (sym ch) (omega arith)))) in
        clash (companion m k low kind (λ x. record { kind = e x; channel = ch x; sequence = q x }))
        (beside-apart (store_in bs) (record_at bs m) (fitting m below).end (has_companion bs m) (fitting m below).fits
        kind)) (λ h. h)
      where
        companion : (m x : ℕ) → x < m → (key_at bs m).kind ≡ timeout_receipt_kind →
            key_at bs x ≡ companion_of acknowledgement_kind (key_at bs m) → has_companion bs m ≡ true
        companion m x low kind key =
            rw kind
            (any_at (λ y. has_key (companion_of acknowledgement_kind (key_at bs m)) (record_at bs y)) m x low
            (has-key (companion_of acknowledgement_kind (key_at bs m)) (record_at bs x) key))

    -- what stands before is there
    receipt : (k : ℕ) → k < i → (key_at bs k).kind ≡ acknowledgement_kind → (c : Channel) →
        c.own.channel ≡ (key_at bs k).channel → has_companion bs k ≡ true →
        has_receipt rs c (key_at bs k).sequence ≡ true
    unfolding has_before
    receipt k l e c own h =
        let f = any_some (λ x. has_key (companion_of receipt_kind (key_at bs k)) (record_at bs x)) k (rw e at h) in
        let key = key-of (companion_of receipt_kind (key_at bs k)) (record_at bs f.0) f.2 in
        let m = f.1 in
        index-found bs n size f.0 (omega arith) (used f.0 (omega arith))
        (receipt_key c.own.channel (key_at bs k).sequence)
        (key ∙ (λ x. record { kind = receipt_kind; channel = sym own x; sequence = (key_at bs k).sequence }))

    entry-fits : (k : ℕ) → k < i → record_fits (store_in bs) (record_at bs k) ≡ true
    unfolding record_fits
    entry-fits k l =
        let f = fitting k l in
        let own = channel-number (key_at bs k).channel (store_in bs).channels f.end f.found in
        both-and f.sequence
        (ap (fits_end (store_in bs) (record_at bs k)) f.found ∙
        beside_end (store_in bs) (record_at bs k) f.end (has_companion bs k) f.fits
        (λ e m h. receipt k l e f.end own h) (λ e. not-lapsed k l e f.end own))

    slot-passes : (k : ℕ) → k < n →
        slot_fits record_bytes record_in (record_fits (store_in bs)) anywhere (slot_at records_from bs k)
        (slots_from records_from n bs (k + 1)) ≡ true
    unfolding slot_fits ◌or◌
    slot-passes k l =
        cases (ltb k i)
        (λ a. let m = ltb-true k i a in
        rw (used k m) (both-and (both-and (fitting k m).exact (entry-fits k m)) refl))
        (λ a. rw (free k (ltb-false k i a) l))

    at : (k : ℕ) → k < i → get_or rs k none ≡ some (record_at bs k)
    at k l = entry-index bs n size k (omega arith) (used k l)

    upto : Upto precedes i rs
    upto = (
      λ k l. (record_at bs k, at k l),
      λ k l.
          cases (ltb k n)
          (λ a. slot-index bs n size k (ltb-true k n a) ∙ slot-none record_in _ (free k l (ltb-true k n a)))
          (λ a.
          behind-index rs k
          (omega (
            arith,
            ltb-false k n a,
            ap length (records-from n bs size),
            length-slots record_in records_from n bs,
          ))),
      λ m k x y l h e f.
          ap (λ (z : Record). precedes z y) (some_is (sym e ∙ at m (omega arith))) ∙
          ap (λ (z : Record). precedes (record_at bs m) z) (some_is (sym f ∙ at k h)) ∙ ordered m k l h,
    )

    pub all_fit : (records_fit bs n ≡ true) × (used_slots rs ≡ i)
    unfolding records_fit
    all_fit = (
      both-and
          (index-every (slot_fits record_bytes record_in (record_fits (store_in bs)) anywhere) records_from n bs slot-passes)
          (in-order precedes rs (upto-rising precedes i rs upto)),
      upto-used precedes i rs upto,
    )
