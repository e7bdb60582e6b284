-- What a fit store tells of its records: they are in order, so that no key stands twice; a commitment's sequence is
-- below its end's next send, and a timeout receipt stands where its end may have it. Assumes nothing.
use Rattle.wire.proofs.Prelude.{◌≡◌, refl, sym, ap, ◌∙◌, true, false, List, Option, none, some, ℕ, ◌<◌, ltb, length}
use Rattle.wire.proofs.Prelude.{ltb-true}
use Rattle.wire.specs.Names.{◌and◌}
use Rattle.wire.proofs.Laws.{and_both, clash}
use Rattle.slots.specs.declared.Channel.{Channel}
use Rattle.slots.specs.declared.Record.{Record}
use Rattle.slots.specs.Names.{Key, commitment_key, timeout_receipt_key, key_of, has_key, lookup, channel_at, Store}
use Rattle.slots.specs.Names.{may_have_timeout_receipt, has_zero_timeouts_and_digest, fits_end, record_fits}
use Rattle.slots.specs.Names.{entries_fit, store_fits, is_laid_out, is_fit, room_in, store_in}
use Rattle.slots.specs.Scan.{RecordsInOrder}
use Rattle.slots.proofs.TableLaws.{Each, all-each, each-find, find-passes}
use Rattle.slots.proofs.KeyLaws.{key-of}
use Rattle.slots.proofs.RecordLaws.{Single, Ordered, ordered-single}
use Rattle.slots.proofs.FitLaws.{fits-size}

pub fit-ordered : (s : Store) → store_fits s ≡ true → Ordered s.records
unfolding store_fits
fit-ordered s h = (and_both h).1

pub fit-in-order : (bs : List ℕ) → is_fit bs ≡ true → RecordsInOrder bs (room_in (length bs))
unfolding is_fit is_laid_out
fit-in-order bs h =
    let z = fits-size (length bs) (and_both (and_both h).0).0 in
    record { low = z.low; size = z.whole; order = fit-ordered (store_in bs) (and_both h).1 }

pub fit-single : (s : Store) → store_fits s ≡ true → Single s.records
fit-single s h = ordered-single s.records (fit-ordered s h)

pub fit-records : (s : Store) → store_fits s ≡ true → Each (λ r. record_fits s r ≡ true) s.records
unfolding store_fits entries_fit
fit-records s h = all-each (record_fits s) s.records (and_both (and_both h).0).1

-- THE END of a record that is there, which it fits
fits-some : (s : Store) (r : Record) (x : Option Channel) → fits_end s r x ≡ true →
    (c : Channel) × (x ≡ some c) × (fits_end s r (some c) ≡ true)
unfolding fits_end
fits-some s r none h = clash {b = false} h refl
fits-some s r (some c) h = (c, refl, h)

record-end : (s : Store) (k : Key) (r : Record) → store_fits s ≡ true → lookup k s.records ≡ some r →
    (key_of r ≡ k) × ((c : Channel) × (channel_at k.channel s.channels ≡ some c) × (fits_end s r (some c) ≡ true))
unfolding record_fits
record-end s k r f h =
    let key = key-of k r (find-passes (has_key k) s.records r h) in
    let e = each-find (λ r. record_fits s r ≡ true) (has_key k) s.records r (fit-records s f) h in
    let o = fits-some s r (channel_at r.channel s.channels) (and_both e).1 in
    (key, (o.0, ap (λ (k : Key). channel_at k.channel s.channels) (sym key) ∙ o.1, o.2))

pub record-channel : (s : Store) (k : Key) (r : Record) → store_fits s ≡ true → lookup k s.records ≡ some r →
    (c : Channel) × (channel_at k.channel s.channels ≡ some c)
record-channel s k r f h = let o = (record-end s k r f h).1 in (o.0, o.1)

-- a commitment's sequence is below next send
pub committed-end : (s : Store) (n m : ℕ) (r : Record) → store_fits s ≡ true →
    lookup (commitment_key n m) s.records ≡ some r →
    (c : Channel) × (channel_at n s.channels ≡ some c) × (m < c.next.send)
unfolding fits_end
committed-end s n m r f h =
    let o = record-end s (commitment_key n m) r f h in
    let k = ap (λ (k : Key). k.kind) o.0 in
    let q = ap (λ (k : Key). k.sequence) o.0 in
    let e = o.1.2 in
    let z : ltb r.sequence o.1.0.next.send ≡ true = cc in
    (o.1.0, o.1.1, ltb-true m o.1.0.next.send (ap (λ (n : ℕ). ltb n o.1.0.next.send) (sym q) ∙ z))

-- a timeout receipt stands where its end may have it
pub lapsed-end : (s : Store) (n m : ℕ) (r : Record) → store_fits s ≡ true →
    lookup (timeout_receipt_key n m) s.records ≡ some r →
    (c : Channel) × (channel_at n s.channels ≡ some c) × (may_have_timeout_receipt c m ≡ true)
unfolding fits_end
lapsed-end s n m r f h =
    let o = record-end s (timeout_receipt_key n m) r f h in
    let c = o.1.0 in
    let k = ap (λ (k : Key). k.kind) o.0 in
    let q = ap (λ (k : Key). k.sequence) o.0 in
    let e = o.1.2 in
    let z : (may_have_timeout_receipt c r.sequence and has_zero_timeouts_and_digest r) ≡ true = cc in
    (c, o.1.1, ap (λ (n : ℕ). may_have_timeout_receipt c n) (sym q) ∙ (and_both z).0)
