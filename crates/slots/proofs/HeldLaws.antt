-- Effects one after another: bytes that hold a store whose fields fit are exact, are read as that store, and hold the
-- next store after each effect. Assumes nothing.
use mathlib.Core.Path.{◌≡◌, sym, ap, ◌∙◌}
use mathlib.Core.Bool.{true}
use mathlib.Core.List.{List, [], ◌∷◌}
use mathlib.Core.Option.{Option}
use Prim.Native.Nat.{ℕ, ◌^◌, ◌<◌}
use lib.ListN.{length, length-set}
use Rattle.wire.proofs.ChoiceLaws.{and_both}
use Rattle.wire.proofs.BytesLaws.{same-eq}
use Rattle.slots.specs.declared.OwnHeight.{OwnHeight}
use Rattle.slots.specs.declared.OwnTime.{OwnTime}
use Rattle.slots.specs.declared.Channel.{Channel}
use Rattle.slots.specs.declared.Record.{Record}
use Rattle.slots.specs.Layout.{Store, bytes_of, store_in}
use Rattle.slots.specs.Fit.{size_fits, is_laid_out, is_fit}
use Rattle.slots.specs.Effect.{Exact, with_times, with_next, with_channel_slot, with_records}
use Rattle.slots.proofs.TableLaws.{Each}
use Rattle.slots.proofs.LayoutLaws.{ChannelFields, RecordFields, StoreFields, read_back, size_of}
use Rattle.slots.proofs.FitLaws.{size-fits}
use Rattle.slots.proofs.TableBytesLaws.{each_set}

pub record Held (s : Store) (bs : List ℕ) : Type 0 where
  pub bytes : bs ≡ bytes_of s
  pub fields : StoreFields s

pub laid-exact : (bs : List ℕ) → is_laid_out bs ≡ true → Exact bs
unfolding is_laid_out
laid-exact bs h = record { size = (and_both h).0; laid = same-eq (bytes_of (store_in bs)) bs (and_both h).1 }

pub fit-exact : (bs : List ℕ) → is_fit bs ≡ true → Exact bs
unfolding is_fit
fit-exact bs h = laid-exact bs (and_both h).0

-- what is made of a held store, call by call
module _ {s : Store} {bs : List ℕ} (h : Held s bs) where
  pub held-store : store_in bs ≡ s
  held-store = ap store_in h.bytes ∙ read_back s h.fields

  pub held-exact : Exact bs
  held-exact =
      record {
        size =
            ap (λ (l : List ℕ). size_fits (length l)) h.bytes ∙ ap size_fits (size_of s h.fields) ∙
            size-fits (length s.records) h.fields.low h.fields.high;
        laid = ap bytes_of held-store ∙ sym h.bytes;
      }

-- EACH EFFECT
module _ {s : Store} {bs : List ℕ} (h : Held s bs) (next : List ℕ) where
  held_after : (g : Store → Store) → StoreFields (g s) → next ≡ bytes_of (g (store_in bs)) → Held (g s) next
  held_after g f e = record { bytes = e ∙ ap (λ (u : Store). bytes_of (g u)) (held-store h); fields = f }

  pub held-times : (k : OwnHeight) (t : OwnTime) → k.0 < 256 ^ 8 → t.0 < 256 ^ 8 →
      next ≡ bytes_of (with_times (store_in bs) k t) → Held (with_times s k t) next
  held-times k t p q e =
      let f = h.fields in
      held_after (λ u. with_times u k t)
      record {
        height = p;
        time = q;
        next = f.next;
        slots = f.slots;
        low = f.low;
        high = f.high;
        channels = f.channels;
        records = f.records;
      } e

  pub held_next : (n : ℕ) → n < 256 ^ 8 → next ≡ bytes_of (with_next (store_in bs) n) → Held (with_next s n) next
  held_next n p e =
      let f = h.fields in
      held_after (λ u. with_next u n)
      record {
        height = f.height;
        time = f.time;
        next = p;
        slots = f.slots;
        low = f.low;
        high = f.high;
        channels = f.channels;
        records = f.records;
      } e

  pub held-channel : (j : ℕ) (x : Option Channel) → Each ChannelFields (x ∷ []) →
      next ≡ bytes_of (with_channel_slot (store_in bs) j x) → Held (with_channel_slot s j x) next
  held-channel j x p e =
      let f = h.fields in
      held_after (λ u. with_channel_slot u j x)
      record {
        height = f.height;
        time = f.time;
        next = f.next;
        slots = length-set s.channels j x ∙ f.slots;
        low = f.low;
        high = f.high;
        channels = each_set ChannelFields x j s.channels p f.channels;
        records = f.records;
      } e

  pub held-records : (rs : List (Option Record)) → length rs ≡ length s.records → Each RecordFields rs →
      next ≡ bytes_of (with_records (store_in bs) rs) → Held (with_records s rs) next
  held-records rs n p e =
      let f = h.fields in
      held_after (λ u. with_records u rs)
      record {
        height = f.height;
        time = f.time;
        next = f.next;
        slots = f.slots;
        low = rw n f.low;
        high = rw n f.high;
        channels = f.channels;
        records = p;
      } e
