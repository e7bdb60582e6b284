-- A record by the index of its slot, and what is known of it beside those before it. Assumes nothing.
use mathlib.Core.Path.{◌≡◌, sym, ap, ◌∙◌}
use mathlib.Core.Bool.{true, false}
use mathlib.Core.List.{List}
use mathlib.Core.Option.{Option, none, some}
use Prim.Native.Nat.{ℕ, ◌<◌}
use native.Mathlib.Omega.{arith}
use lib.Dec.{leb}
use lib.ListN.{length, get_or}
use borrow.Author.Tests.{eq-eqb, ne_eqb, le-ltb}
use Rattle.wire.specs.Choice.{is_some}
use Rattle.wire.specs.Bytes.{are_zero}
use Rattle.wire.proofs.ChoiceLaws.{cases, some-if, some_is}
use Rattle.slots.specs.declared.Channel.{Channel}
use Rattle.slots.specs.declared.Record.{Record}
use Rattle.slots.specs.declared.Key.{Key}
use Rattle.slots.specs.Table.{key_of, has_key, lookup, is_before, channel_at}
use Rattle.slots.specs.Layout.{records_from, size_for, record_bytes, record_in, slot_in, store_in}
use Rattle.slots.specs.Scan.{slot_at}
use Rattle.slots.proofs.ScanLaws.{slot-at, length-slots}
use Rattle.slots.proofs.TurnLaws.{records-from}
use Rattle.slots.proofs.TableLaws.{find-passes}
use Rattle.slots.proofs.KeyLaws.{key-of, has-key}
use Rattle.runs.specs.Run.{record_at, key_at, has_companion, fits_beside}
use Rattle.front.specs.EverySlot.{is_exact}
use Rattle.front.proofs.IndexLaws.{slot-some, slot-none, not_none, index-find, find-index}

-- of two keys of one channel that of the higher kind is not before
pub kind-not-before : (a b : Key) → a.channel ≡ b.channel → b.kind < a.kind → is_before a b ≡ false
unfolding is_before
kind-not-before a b c l =
    let e = eq-eqb a.channel b.channel c in
    let f = ne_eqb a.kind b.kind (λ q. omega arith) in
    let g = le-ltb a.kind b.kind (omega arith) in
    rw (e, f, g)

-- WHAT IS KNOWN OF A RECORD beside those before it, on its channel end
pub record Fitting (bs : List ℕ) (k : ℕ) : Type 0 where
  pub exact : is_exact record_bytes record_in (slot_at records_from bs k) ≡ true
  pub sequence : leb 1 (key_at bs k).sequence ≡ true
  pub end : Channel
  pub found : channel_at (key_at bs k).channel (store_in bs).channels ≡ some end
  pub fits : fits_beside (has_companion bs k) (record_at bs k) end ≡ true

abbrev pub Taken : List ℕ → (k : ℕ) → Type 0
Taken bs k = are_zero (slot_at records_from bs k) ≡ false

module _ (bs : List ℕ) (n : ℕ) (size : length bs ≡ size_for n) where
  abbrev rs : List (Option Record)
  rs = (store_in bs).records

  pub slot-index : (k : ℕ) → k < n → get_or rs k none ≡ slot_in record_in (slot_at records_from bs k)
  slot-index k l =
      ap (λ (xs : List (Option Record)). get_or xs k none) (records-from n bs size) ∙
      slot-at record_in records_from n k bs l

  pub entry-index : (k : ℕ) → k < n → Taken bs k → get_or rs k none ≡ some (record_at bs k)
  entry-index k l h = slot-index k l ∙ slot-some record_in (slot_at records_from bs k) h

  -- a record that is found stands at an index
  pub found-index : (k : Key) → is_some (lookup k rs) ≡ true →
      (m : ℕ) × (m < n) × Taken bs m × (key_at bs m ≡ k)
  found-index k h =
      let f = some-if (lookup k rs) h in
      let i = find-index (has_key k) rs f.0 f.1 in
      let m = i.0 in
      let l : m < n =
      omega (arith, i.1, ap length (records-from n bs size), length-slots record_in records_from n bs) in
      let slot = sym (slot-index m l) ∙ i.2 in
      let t : Taken bs m =
      cases (are_zero (slot_at records_from bs m)) (λ z. not_none (sym slot ∙ slot-none record_in _ z)) (λ z. z) in
      let r : record_at bs m ≡ f.0 = some_is (sym (slot-some record_in _ t) ∙ slot) in
      (m, l, t, ap key_of r ∙ key-of k f.0 (find-passes (has_key k) rs f.0 f.1))

  pub index-found : (m : ℕ) → m < n → Taken bs m → (k : Key) → key_at bs m ≡ k → is_some (lookup k rs) ≡ true
  index-found m l t k e =
      index-find (has_key k) rs m (record_at bs m) (entry-index m l t) (has-key k (record_at bs m) e)
