-- Bytes stored over slots, the times or the next channel number of a store's bytes are the bytes of the store with that
-- part replaced, and slots of packet records are read as their bytes. Assumes nothing.
use mathlib.Core.Path.{◌≡◌, sym, ap, ◌∙◌}
use mathlib.Core.Bool.{true}
use mathlib.Core.List.{List, [], ◌∷◌, ◌++◌, append_assoc, append-nil}
use mathlib.Core.Option.{Option}
use Prim.Native.Nat.{ℕ, ◌+◌, ◌*◌, ◌≤◌, ◌<◌}
use native.Mathlib.Omega.{arith}
use lib.ListN.{length, take, drop, replicate, length-append}
use lib.Seq.{sets, length-sets, drop-append-add}
use Rattle.wire.specs.Bytes.{Bytes, little, part, patch, digest_size}
use Rattle.wire.proofs.BytesLaws.{length-little, length_part}
use Rattle.wire.proofs.PatchLaws.{patch-behind, patch-middle}
use Rattle.slots.specs.declared.OwnHeight.{OwnHeight}
use Rattle.slots.specs.declared.OwnTime.{OwnTime}
use Rattle.slots.specs.declared.Channel.{Channel}
use Rattle.slots.specs.declared.Record.{Record}
use Rattle.slots.specs.Limits.{channel_limit, version_size}
use Rattle.slots.specs.Codes.{store_kind}
use Rattle.slots.specs.Layout.{Store, header_size, slot_size, records_from, size_for, room_in}
use Rattle.slots.specs.Layout.{channel_bytes, record_bytes, slot_bytes, table_bytes, header_bytes, bytes_of}
use Rattle.slots.specs.Layout.{channel_in, record_in, store_in}
use Rattle.slots.specs.Fit.{size_fits}
use Rattle.slots.specs.Effect.{Exact, with_times, with_next, with_channel_slot, with_records}
use Rattle.slots.proofs.LayoutLaws.{length-header, length-channel, length-record, length-table}
use Rattle.slots.proofs.FitLaws.{fits-size, length-read, each_read}
use Rattle.slots.proofs.TableBytesLaws.{each-drop, SlotsSized, patch-slot, patch-slots, drop-slots, take-slots}

-- THE WHOLE
abbrev header_of : Store → List ℕ
header_of s = header_bytes s.height.0 s.time.0 (length s.records) s.next

header-size : (s : Store) → length (header_of s) ≡ header_size
header-size s = length-header s.height.0 s.time.0 (length s.records) s.next

-- the sizes that its parts have
pub record Sizes (s : Store) : Type 0 where
  pub slots : length s.channels ≡ channel_limit
  pub channels : SlotsSized channel_bytes s.channels
  pub records : SlotsSized record_bytes s.records

module _ (s : Store) (sizes : Sizes s) where
  pub patch-channel : (j : ℕ) (x : Option Channel) → SlotsSized channel_bytes (x ∷ []) → j < channel_limit →
      patch (header_size + slot_size * j) (slot_bytes channel_bytes x) (bytes_of s) ≡ bytes_of (with_channel_slot s j x)
  unfolding bytes_of
  patch-channel j x l h =
      let cs : List ℕ = table_bytes channel_bytes s.channels in
      let rs : List ℕ = table_bytes record_bytes s.records in
      let place : header_size + slot_size * j ≡ length (header_of s) + slot_size * j = omega (arith, header-size s) in
      let b : j < length s.channels = omega (arith, sizes.slots) in
      rw (
        place,
        patch-behind (header_of s) (slot_size * j) (slot_bytes channel_bytes x) (cs ++ rs),
        patch-slot channel_bytes x j s.channels rs l sizes.channels b,
      )

  abbrev channels : List ℕ
  channels = table_bytes channel_bytes s.channels

  records-place : (i : ℕ) → records_from + slot_size * i ≡ length (header_of s) + (length channels + slot_size * i)
  records-place i =
      omega (arith, header-size s, sizes.slots, length-table channel_bytes s.channels sizes.channels)

  patch-records : (i : ℕ) (rs : List (Option Record)) → SlotsSized record_bytes rs →
      i + length rs ≤ length s.records →
      patch (records_from + slot_size * i) (table_bytes record_bytes rs) (bytes_of s) ≡
      bytes_of (with_records s (sets s.records i rs))
  unfolding bytes_of
  patch-records i rs l h =
      let new : List ℕ = table_bytes record_bytes rs in
      let old : List ℕ = table_bytes record_bytes s.records in
      let slots = patch-slots record_bytes rs i s.records [] l sizes.records h in
      rw (
        records-place i,
        patch-behind (header_of s) (length channels + slot_size * i) new (channels ++ old),
        patch-behind channels (slot_size * i) new old,
        length-sets s.records i rs,
      )
      (ap (λ (bs : List ℕ). header_of s ++ (channels ++ bs)) (simp append-nil at slots))

  part-records : (i n : ℕ) →
      part (records_from + slot_size * i) (slot_size * n) (bytes_of s) ≡
      table_bytes record_bytes (take n (drop i s.records))
  unfolding bytes_of part
  part-records i n =
      let all : List ℕ = table_bytes record_bytes s.records in
      let behind = drop-slots record_bytes i s.records sizes.records in
      let sized = each-drop (λ r. length (record_bytes r) ≡ slot_size) i s.records sizes.records in
      rw (
        records-place i,
        drop-append-add (header_of s) (channels ++ all) (length channels + slot_size * i),
        drop-append-add channels all (slot_size * i),
        behind,
      )
      (take-slots record_bytes n (drop i s.records) sized)

-- over a part of the header, which has a part before it and the rest behind it
patch-within : (i : ℕ) (new front old rest : List ℕ) (s t : Store) → length front ≡ i → length new ≡ length old →
    bytes_of s ≡ front ++ (old ++ rest) → bytes_of t ≡ front ++ (new ++ rest) → patch i new (bytes_of s) ≡ bytes_of t
patch-within i new front old rest s t l m p q = ap (patch i new) p ∙ patch-middle i new front old rest l m ∙ sym q

module _ (s : Store) where
  tables : List ℕ
  tables = table_bytes channel_bytes s.channels ++ table_bytes record_bytes s.records

  front : List ℕ
  front = little 4 (size_for (length s.records)) ++ (little 2 store_kind ++ little 2 channel_limit)

  times : OwnHeight → OwnTime → List ℕ
  times h t = little 8 h.0 ++ little 8 t.0

  pub patch-times : (h : OwnHeight) (t : OwnTime) →
      patch 8 (little 8 h.0 ++ little 8 t.0) (bytes_of s) ≡ bytes_of (with_times s h t)
  unfolding bytes_of header_bytes tables front times
  patch-times h t =
      let rest : List ℕ = little 4 (length s.records) ++ (little 8 s.next ++ (replicate 28 0 ++ tables)) in
      patch-within 8 (times h t) front (times s.height s.time) rest s (with_times s h t)
      (simp (length-append, length-little)) (simp (length-append, length-little))
      (simp append_assoc) (simp append_assoc)

  pub patch-next : (n : ℕ) → patch 28 (little 8 n) (bytes_of s) ≡ bytes_of (with_next s n)
  unfolding bytes_of header_bytes tables front times
  patch-next n =
      let before : List ℕ = front ++ (times s.height s.time ++ little 4 (length s.records)) in
      patch-within 28 (little 8 n) before (little 8 s.next) (replicate 28 0 ++ tables) s (with_next s n)
      (simp (length-append, length-little)) (simp length-little) (simp append_assoc) (simp append_assoc)

-- BYTES THAT ARE EXACT
sizes-read : (bs : List ℕ) → Bytes bs → size_fits (length bs) ≡ true → Sizes (store_in bs)
unfolding store_in channel_in record_in
sizes-read bs b h =
    let z = fits-size (length bs) h in
    record {
      slots = length-read channel_in channel_limit (drop header_size bs);
      channels =
          each_read (λ c. length (channel_bytes c) ≡ slot_size) channel_in channel-in header_size channel_limit bs
          (omega arith) b;
      records =
          each_read (λ r. length (record_bytes r) ≡ slot_size) record_in record-in records_from (room_in (length bs)) bs
          (omega arith) b;
    }
  where
    channel-in : (p : List ℕ) → length p ≡ slot_size → Bytes p → length (channel_bytes (channel_in p)) ≡ slot_size
    channel-in p l k = length-channel (channel_in p) (length_part 40 version_size p (omega arith))

    record-in : (p : List ℕ) → length p ≡ slot_size → Bytes p → length (record_bytes (record_in p)) ≡ slot_size
    record-in p l k = length-record (record_in p) (length_part 32 digest_size p (omega arith))

module _ (bs : List ℕ) (exact : Exact bs) where
  exact-so : (i : ℕ) (new : List ℕ) (s : Store) → patch i new (bytes_of (store_in bs)) ≡ bytes_of s →
      patch i new bs ≡ bytes_of s
  exact-so i new s p = ap (patch i new) (sym exact.laid) ∙ p

  pub exact-times : (h : OwnHeight) (t : OwnTime) →
      patch 8 (little 8 h.0 ++ little 8 t.0) bs ≡ bytes_of (with_times (store_in bs) h t)
  exact-times h t = exact-so 8 _ _ (patch-times (store_in bs) h t)

  pub exact-next : (n : ℕ) → patch 28 (little 8 n) bs ≡ bytes_of (with_next (store_in bs) n)
  exact-next n = exact-so 28 _ _ (patch-next (store_in bs) n)

  module _ (bytes : Bytes bs) where
    pub exact-channel : (j : ℕ) (x : Option Channel) → SlotsSized channel_bytes (x ∷ []) → j < channel_limit →
        patch (header_size + slot_size * j) (slot_bytes channel_bytes x) bs ≡ bytes_of (with_channel_slot (store_in bs) j x)
    exact-channel j x l h =
        exact-so _ _ _ (patch-channel (store_in bs) (sizes-read bs bytes exact.size) j x l h)

    pub exact-records : (i : ℕ) (rs : List (Option Record)) → SlotsSized record_bytes rs →
        i + length rs ≤ length (store_in bs).records →
        patch (records_from + slot_size * i) (table_bytes record_bytes rs) bs ≡
        bytes_of (with_records (store_in bs) (sets (store_in bs).records i rs))
    exact-records i rs l h =
        exact-so _ _ _ (patch-records (store_in bs) (sizes-read bs bytes exact.size) i rs l h)

    pub exact-part : (i n : ℕ) →
        part (records_from + slot_size * i) (slot_size * n) bs ≡
        table_bytes record_bytes (take n (drop i (store_in bs).records))
    exact-part i n =
        ap (part (records_from + slot_size * i) (slot_size * n)) (sym exact.laid) ∙
        part-records (store_in bs) (sizes-read bs bytes exact.size) i n

    pub exact-sized : SlotsSized record_bytes (store_in bs).records
    exact-sized = (sizes-read bs bytes exact.size).records

-- and have room for every slot of theirs
pub exact-room : (bs : List ℕ) → Exact bs → length bs ≡ size_for (length (store_in bs).records)
unfolding store_in
exact-room bs exact =
    let z = fits-size (length bs) exact.size in
    let n = length-read record_in (room_in (length bs)) (drop records_from bs) in
    omega arith

pub ruleset has_room = (exact-room)
