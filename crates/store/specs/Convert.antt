-- The converter: the packet records of a store that is fit, but perhaps for the order, are put in order.
use Rattle.std.specs.Prelude.{◌≡◌, true, false, List, ℕ, length, take}
use Rattle.wire.specs.Choice.{pick}
use Rattle.wire.specs.Bytes.{Bytes}
use Rattle.slots.specs.declared.Key.{Key}
use Rattle.slots.specs.Table.{count, lookup}
use Rattle.slots.specs.Layout.{records_from, bytes_of, store_in}
use Rattle.slots.specs.Fit.{is_fit, is_fit_any_order}
use Rattle.slots.specs.Effect.{with_records}
use Rattle.sorting.specs.Sorted.{sorted}

-- what it answers, and what it leaves: 1, and nothing changed, where the store is not fit in any order
unfoldable pub convert_told : List ℕ → ℕ
convert_told bs = pick (is_fit_any_order bs) 0 1

unfoldable pub convert_store : List ℕ → List ℕ
convert_store bs = pick (is_fit_any_order bs) (bytes_of (with_records (store_in bs) (sorted (store_in bs).records))) bs

-- CONVERTED: a fit store of the same length, with every byte before the packet records kept; the same record is found
-- by every key, and there are as many
pub record Converted (bs after : List ℕ) : Type 0 where
  pub fit : is_fit after ≡ true
  pub size : length after ≡ length bs
  pub before : take records_from after ≡ take records_from bs
  pub same : (k : Key) → lookup k (store_in after).records ≡ lookup k (store_in bs).records
  pub many : count (λ r. true) (store_in after).records ≡ count (λ r. true) (store_in bs).records

-- WHAT IS PROMISED: a store that is fit, but perhaps for the order, is converted; any other answers 1 and stays. It is
-- converted to one list of bytes and no other, so a fit store stays
pub record Converts : Type 0 where
  pub converted : (bs : List ℕ) → Bytes bs → is_fit_any_order bs ≡ true →
      (convert_told bs ≡ 0) × Converted bs (convert_store bs)
  pub refused : (bs : List ℕ) → is_fit_any_order bs ≡ false → (convert_told bs ≡ 1) × (convert_store bs ≡ bs)
  pub once : (bs x y : List ℕ) → Bytes x → Bytes y → Converted bs x → Converted bs y → x ≡ y
  pub stays : (bs : List ℕ) → Bytes bs → is_fit bs ≡ true → (convert_told bs ≡ 0) × (convert_store bs ≡ bs)
