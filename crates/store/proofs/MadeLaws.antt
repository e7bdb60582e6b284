-- Laws of what the maker writes: a header, the channel records in order, and zeros behind them. Assumes nothing.
use mathlib.Core.Path.{◌≡◌, refl, sym, ◌∙◌}
use mathlib.Core.List.{List, [], ◌++◌, append_assoc, append-nil}
use mathlib.Core.Option.{Option, none}
use Prim.Native.Nat.{ℕ, zero, suc, ◌+◌, ◌*◌, ◌-◌, ◌/◌}
use native.Mathlib.Omega.{arith}
use lib.ListN.{length, replicate, length-append, length-replicate, replicate-append-replicate}
use borrow.Author.Tests.{ne_eqb}
use Rattle.wire.specs.Bytes.{little, patch}
use Rattle.wire.proofs.EveryLaws.{every_of}
use Rattle.wire.proofs.BytesLaws.{length-little}
use Rattle.wire.proofs.PatchLaws.{patch-append, patch-then, patch-front}
use Rattle.slots.specs.declared.Record.{Record}
use Rattle.slots.specs.Limits.{channel_limit}
use Rattle.slots.specs.Codes.{store_kind}
use Rattle.slots.specs.Layout.{slot_size, header_size, size_for, room_in}
use Rattle.slots.specs.Layout.{channel_bytes, record_bytes, slot_bytes, table_bytes, header_bytes, bytes_of}
use Rattle.openings.specs.Opening.{opening_size, openings_in, opening_of, ends_of}
use Rattle.openings.specs.Maker.{least_above, make_number, made_store, make_told, make_store}
use Rattle.openings.proofs.MakerLaws.{made, each-ends}
use Rattle.slots.proofs.TableLaws.{Each}
use Rattle.slots.proofs.LayoutLaws.{length-header, length-table}
use Rattle.slots.proofs.TableBytesLaws.{table-append}
use Rattle.openings.proofs.OpeningLaws.{length-ends, length-opened}

-- TABLES
module _ {A : Type 0} (f : A → List ℕ) where
  table-free : (n : ℕ) → table_bytes f (replicate n none) ≡ replicate (slot_size * n) 0
  unfolding table_bytes slot_bytes
  table-free zero = refl
  table-free (suc n) =
      let z : slot_size + slot_size * n ≡ slot_size * suc n = omega arith in
      rw (table-free n, replicate-append-replicate {A = ℕ} slot_size (slot_size * n) 0, z)

-- FIELD BY FIELD
sixteen-zeros : replicate 16 0 ≡ little 8 0 ++ little 8 0
unfolding little
sixteen-zeros = refl

pub patch-header : (n m : ℕ) (bs : List ℕ)
    → patch 0 (header_bytes 0 0 n m) bs
    ≡ patch 36 (replicate 28 0)
    (patch 28 (little 8 m)
    (patch 24 (little 4 n)
    (patch 8 (replicate 16 0)
    (patch 6 (little 2 channel_limit) (patch 0 (little 4 (size_for n) ++ little 2 store_kind) bs)))))
unfolding header_bytes
patch-header n m bs =
    rw sixteen-zeros (simp (patch-append, length-append, length-little))

-- THE WHOLE
patch-whole : (xs bs : List ℕ) → length xs ≡ length bs → patch 0 xs bs ≡ xs
patch-whole xs bs l =
    let front = patch-front xs bs [] l in
    simp append-nil at front

-- a made store is a header, the ends, and zeros
made-parts : (n : ℕ) (os : List ℕ) → make_number n os ≡ 0
    → bytes_of (made_store n os)
    ≡ header_bytes 0 0 (room_in n) (least_above (ends_of os)) ++
    (table_bytes channel_bytes (ends_of os) ++ replicate (n - (header_size + slot_size * (length os / opening_size))) 0)
unfolding bytes_of made_store
made-parts n os h =
    let m = made n os h in
    let k : ℕ = length os / opening_size in
    let ends : List ℕ = table_bytes channel_bytes (ends_of os) in
    let free : ℕ = slot_size * (channel_limit - k) in
    let records : ℕ = slot_size * room_in n in
    let rest : free + records ≡ n - (header_size + slot_size * k) = omega (arith, m.sized.whole, m.few) in
    rw (
      length-replicate {A = Option Record} (room_in n) none,
      table-append channel_bytes (ends_of os) (replicate (channel_limit - k) none),
      table-free channel_bytes (channel_limit - k),
      table-free record_bytes (room_in n),
      append_assoc ends (replicate free 0) (replicate records 0),
      replicate-append-replicate {A = ℕ} free records 0,
      rest,
    )

ends-sized : (os : List ℕ) → Each (λ c. length (channel_bytes c) ≡ slot_size) (ends_of os)
ends-sized os =
    each-ends (λ c. length (channel_bytes c) ≡ slot_size) os
    (every_of (λ o. length (channel_bytes (opening_of o)) ≡ slot_size) length-opened (openings_in os))

-- and written so
pub patch-made : (bs os : List ℕ) → make_number (length bs) os ≡ 0
    → patch (header_size + slot_size * (length os / opening_size))
    (replicate (length bs - (header_size + slot_size * (length os / opening_size))) 0)
    (patch header_size (table_bytes channel_bytes (ends_of os))
    (patch 0 (header_bytes 0 0 (room_in (length bs)) (least_above (ends_of os))) bs))
    ≡ bytes_of (made_store (length bs) os)
patch-made bs os h =
    let m = made (length bs) os h in
    let from : ℕ = header_size + slot_size * (length os / opening_size) in
    let next : ℕ = least_above (ends_of os) in
    let header : List ℕ = header_bytes 0 0 (room_in (length bs)) next in
    let ends : List ℕ = table_bytes channel_bytes (ends_of os) in
    let zeros : List ℕ = replicate (length bs - from) 0 in
    let lh : length header ≡ header_size = length-header 0 0 (room_in (length bs)) next in
    let le : length ends ≡ slot_size * (length os / opening_size) =
    length-table channel_bytes (ends_of os) (ends-sized os) ∙ omega (arith, length-ends os) in
    let lz : length zeros ≡ length bs - from = length-replicate (length bs - from) 0 in
    let whole : length (header ++ (ends ++ zeros)) ≡ length bs =
    simp length-append (omega (arith, lh, le, lz, m.sized.whole, m.few)) in
    patch-then header_size (slot_size * (length os / opening_size)) ends zeros (patch 0 header bs) le
    ∙ patch-then 0 header_size header (ends ++ zeros) bs lh
    ∙ patch-whole (header ++ (ends ++ zeros)) bs whole
    ∙ sym (made-parts (length bs) os h)

-- a refusal leaves all bytes as they are
pub make-refused : (bs os : List ℕ) → (make_told bs os ≡ 0 → ⊥) → make_store bs os ≡ bs
unfolding make_store
make-refused bs os h = rw (make_store, ne_eqb (make_told bs os) 0 h)
