-- What the converter leaves: a fit store, the same records, every byte before them kept; and only one list of bytes is
-- that. Assumes nothing.
use Rattle.wire.proofs.Prelude.{◌≡◌, refl, sym, ap, subst, ◌∙◌, Bool, true, false, List, ◌++◌, append_assoc, Option}
use Rattle.wire.proofs.Prelude.{none, some, ℕ, arith, length, take, drop, length-append, take_at, drop_at}
use lib.ListN.{take-append-drop}
use Rattle.wire.specs.Names.{pick, Bytes}
use Rattle.wire.proofs.Laws.{and_both, both-and}
use Rattle.slots.specs.declared.Channel.{Channel}
use Rattle.slots.specs.declared.Record.{Record}
use Rattle.slots.specs.declared.Key.{Key}
use Rattle.slots.specs.Names.{lookup, count, channel_at, Store, records_from, size_for}
use Rattle.slots.specs.Names.{channel_bytes, record_bytes, table_bytes, header_bytes, bytes_of, store_in}
use Rattle.slots.specs.Names.{fits_end, record_fits, entries_fit, store_fits, is_fit, is_fit_any_order}
use Rattle.slots.specs.Effect.{with_records}
use Rattle.slots.proofs.TableLaws.{each_map, all-each, each_all}
use Rattle.slots.proofs.OrderingLaws.{received-alike}
use Rattle.slots.proofs.LayoutLaws.{RecordFields, StoreFields, length-header, length-channel, length-table}
use Rattle.slots.proofs.LayoutLaws.{size_of, bytes-of, read_back}
use Rattle.slots.proofs.FitLaws.{fit-store, fit-fields, fit_of}
use Rattle.slots.proofs.FitRecordLaws.{fit-ordered, fit-single}
use Rattle.slots.proofs.HeldLaws.{Held, fit-exact, held-records}
use Rattle.slots.proofs.EffectLaws.{exact-room}
use Rattle.slots.proofs.RecordOrderLaws.{ordered-alike}
use Rattle.sorting.specs.Sorted.{sorted}
use Rattle.sorting.proofs.SettleLaws.{ordered-sorted, lookup-sorted, count-sorted, length-sorted, each-sorted}
use Rattle.sorting.proofs.PassLaws.{any-order-exact, any-order-entries, any-order-single, any-order-fields}
use Rattle.store.specs.Convert.{convert_told, convert_store, Converted, Converts}

-- A RECORD fits beside records among which the same ones are found
end-alike : (s t : Store) (r : Record) (x : Option Channel) →
    ((k : Key) → lookup k s.records ≡ lookup k t.records) → fits_end s r x ≡ fits_end t r x
unfolding fits_end
end-alike s t r none h = refl
end-alike s t r (some c) h = rw (received-alike s.records t.records c r.sequence h)

-- ALL BYTES before the records, and those of the records
module _ (s : Store) where
  before : List ℕ
  before =
      header_bytes s.height.0 s.time.0 (length s.records) s.next ++ table_bytes channel_bytes s.channels

  split : bytes_of s ≡ before ++ table_bytes record_bytes s.records
  unfolding before bytes_of
  split =
      sym (append_assoc (header_bytes s.height.0 s.time.0 (length s.records) s.next)
      (table_bytes channel_bytes s.channels) (table_bytes record_bytes s.records))

  before-size : StoreFields s → length before ≡ records_from
  unfolding before
  before-size f =
      let sized = each_map (λ c k. length-channel c k.size) s.channels f.channels in
      length-append (header_bytes s.height.0 s.time.0 (length s.records) s.next) _ ∙
      omega (
        arith,
        length-header s.height.0 s.time.0 (length s.records) s.next,
        length-table channel_bytes s.channels sized,
        f.slots,
      )

  take-before : StoreFields s → take records_from (bytes_of s) ≡ before
  take-before f =
      ap (take records_from) split ∙ take_at before (table_bytes record_bytes s.records) records_from (before-size f)

  drop-before : StoreFields s → drop records_from (bytes_of s) ≡ table_bytes record_bytes s.records
  drop-before f =
      ap (drop records_from) split ∙ drop_at before (table_bytes record_bytes s.records) records_from (before-size f)

-- CONVERTED
module _ (bs : List ℕ) (bytes : Bytes bs) (fit : is_fit_any_order bs ≡ true) where
  abbrev old : Store
  old = store_in bs

  abbrev new : Store
  new = with_records (store_in bs) (sorted (store_in bs).records)

  old-fields : StoreFields old
  old-fields = any-order-fields bs fit bytes

  new-fields : StoreFields new
  new-fields =
      let held : Held old bs = record { bytes = sym (any-order-exact bs fit).laid; fields = old-fields } in
      (held-records held (bytes_of new) (sorted old.records) (length-sorted old.records)
      (each-sorted old.records RecordFields old-fields.records) refl).fields

  found : (k : Key) → lookup k new.records ≡ lookup k old.records
  found = lookup-sorted old.records (any-order-single bs fit)

  new-fits : store_fits new ≡ true
  unfolding store_fits entries_fit record_fits
  new-fits =
      let rs = old.records in
      let entries = and_both (any-order-entries bs fit) in
      let one : (r : Record) → record_fits old r ≡ true → record_fits new r ≡ true =
      λ r h. both-and (and_both h).0
      (end-alike new old r (channel_at r.channel old.channels) found ∙ (and_both h).1) in
      both-and
      (both-and entries.0 (each_all (record_fits new) (sorted rs) (each-sorted rs (λ r. record_fits new r ≡ true)
      (each_map one rs (all-each (record_fits old) rs entries.1)))))
      (ordered-sorted rs (any-order-single bs fit))

  kept : before new ≡ before old
  unfolding before
  kept = rw (length-sorted old.records)

  left : convert_store bs ≡ bytes_of new
  unfolding convert_store
  left = ap (λ (b : Bool). pick b (bytes_of new) bs) fit

  convert-bytes : Bytes (convert_store bs)
  convert-bytes = rw left (bytes-of new new-fields)

  pub converted : Converted bs (convert_store bs)
  converted =
      let laid = (any-order-exact bs fit).laid in
      let n = length-sorted old.records in
      subst (Converted bs) (sym left) (record {
        fit = fit_of new new-fields new-fits;
        size = size_of new new-fields ∙ ap size_for n ∙ sym (size_of old old-fields) ∙ ap length laid;
        before =
            take-before new new-fields ∙ kept ∙ sym (take-before old old-fields) ∙ ap (take records_from) laid;
        same = λ k. ap (λ (s : Store). lookup k s.records) (read_back new new-fields) ∙ found k;
        many =
            ap (λ (s : Store). count (λ r. true) s.records) (read_back new new-fields) ∙
            count-sorted old.records (λ r. true);
      })

-- REFUSED, and nothing changed
pub convert-refused : (bs : List ℕ) → is_fit_any_order bs ≡ false → (convert_told bs ≡ 1) × (convert_store bs ≡ bs)
unfolding convert_told convert_store
convert-refused bs h = (rw (convert_told, h), rw (convert_store, h))

-- ONCE
records-end : (bs : List ℕ) → Bytes bs → is_fit bs ≡ true →
    drop records_from bs ≡ table_bytes record_bytes (store_in bs).records
records-end bs bytes fit =
    ap (drop records_from) (sym (fit-exact bs fit).laid) ∙ drop-before (store_in bs) (fit-fields bs bytes fit)

pub converted-once : (bs x y : List ℕ) → Bytes x → Bytes y → Converted bs x → Converted bs y → x ≡ y
converted-once bs x y bx by p q =
    let same : (store_in x).records ≡ (store_in y).records =
    ordered-alike (store_in x).records (store_in y).records (fit-ordered (store_in x) (fit-store x p.fit))
    (fit-ordered (store_in y) (fit-store y q.fit))
    (omega (arith, exact-room x (fit-exact x p.fit), exact-room y (fit-exact y q.fit), p.size, q.size))
    (λ k. p.same k ∙ sym (q.same k)) in
    sym (take-append-drop records_from x) ∙ ap (λ (b : List ℕ). b ++ drop records_from x) (p.before ∙ sym q.before) ∙
    ap (λ (b : List ℕ). take records_from y ++ b)
    (records-end x bx p.fit ∙ ap (table_bytes record_bytes) same ∙ sym (records-end y by q.fit)) ∙
    take-append-drop records_from y

-- a fit store stays
fit-any-order : (bs : List ℕ) → is_fit bs ≡ true → is_fit_any_order bs ≡ true
unfolding is_fit is_fit_any_order store_fits
fit-any-order bs h =
    both-and (both-and (and_both h).0 (and_both (and_both h).1).0) (fit-single (store_in bs) (fit-store bs h))

pub convert-fit : (bs : List ℕ) → Bytes bs → is_fit bs ≡ true → convert_store bs ≡ bs
convert-fit bs bytes fit =
    let any = fit-any-order bs fit in
    converted-once bs (convert_store bs) bs (convert-bytes bs bytes any) bytes (converted bs bytes any)
    record { fit = fit; size = refl; before = refl; same = λ k. refl; many = refl }

pub converts : Converts
unfolding convert_told
converts =
    record {
      converted = λ bs bytes fit. (rw (convert_told, fit), converted bs bytes fit);
      refused = convert-refused;
      once = converted-once;
      stays = λ bs bytes fit. (rw (convert_told, fit-any-order bs fit), convert-fit bs bytes fit);
    }
