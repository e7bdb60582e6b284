-- The end is stored at its slot; where there is none, all stay. Assumes nothing.
use Rattle.std.proofs.Common.{arith, rules, ◌≡◌, sym, subst, ℕ, List, get_or, true, Fits, w8}
use Rattle.std.proofs.Math.Option.{some}
use Rattle.wire.specs.Bytes.{same}
use Rattle.wire.proofs.Laws.{both-and}
use Rattle.wire.proofs.PartLaws.{bytes-array}
use Rattle.wire.proofs.BytesLaws.{eq-same}
use Rattle.slots.specs.declared.Channel.{Channel}
use Rattle.slots.specs.Layout.{bytes_of, store_in}
use Rattle.slots.specs.Effect.{Exact, with_channel_slot}
use Rattle.slots.specs.Fit.{is_laid_out, entries_fit}
use Rattle.slots.proofs.Laws.{ChannelFields}
use Rattle.slots.proofs.FitLaws.{laid-fields}
use Rattle.slots.proofs.HeldLaws.{Held, held-store, held-channel}
use Rattle.acceptance.proofs.put_end.Goals as goal

laid : (bs : List ℕ) → Exact bs → is_laid_out bs ≡ true
unfolding is_laid_out
laid bs exact =
    let xs : List ℕ = bytes_of (store_in bs) in
    both-and exact.size (subst (λ (ys : List ℕ). same xs ys ≡ true) exact.laid (eq-same xs))

-- the bytes tell the store with the end
told : (bs : List ℕ) → Exact bs → ((k : ℕ) → Fits w8 (get_or bs k 0)) → entries_fit (store_in bs) ≡ true →
    (j : ℕ) (c : Channel) → ChannelFields c → {t : List ℕ} → t ≡ bytes_of (with_channel_slot (store_in bs) j (some c)) →
    store_in t ≡ with_channel_slot (store_in bs) j (some c)
told bs exact bytes fit j c f {t} e =
    let held : Held (store_in bs) bs =
    record { bytes = sym exact.laid; fields = laid-fields bs (bytes-array bs bytes) (laid bs exact) fit } in
    held-store (held-channel held t j (some c) (f, tt) e)

pub returns-in-Puts-clause-told : goal.returns-in-Puts-clause-told
returns-in-Puts-clause-told c =
    let fields : ChannelFields c.in-Puts.c =
    record {
      state = omega arith;
      order = omega arith;
      own = record { port = omega arith; channel = omega arith };
      counterparty = record { port = omega arith; channel = omega arith };
      next = record { send = omega arith; receive = omega arith; acknowledge = omega arith };
      size = search rules;
      bytes = bytes-array c.in-Puts.c.version (λ i. search rules);
    } in
    rw (c.in-Some.is, c.in-Puts.is)
    (told c.args.store.now c.requires.0 (λ k. search rules) c.requires.1 c.in-Some.j c.in-Puts.c fields c.set_channel.ensures)

pub returns-in-Adds-clause-told : goal.returns-in-Adds-clause-told
returns-in-Adds-clause-told c =
    let fields : ChannelFields c.in-Adds.c =
    record {
      state = omega arith;
      order = omega arith;
      own = record { port = omega arith; channel = omega arith };
      counterparty = record { port = omega arith; channel = omega arith };
      next = record { send = omega arith; receive = omega arith; acknowledge = omega arith };
      size = search rules;
      bytes = bytes-array c.in-Adds.c.version (λ i. search rules);
    } in
    rw (c.in-Some.is, c.in-Adds.is)
    (told c.args.store.now c.requires.0 (λ k. search rules) c.requires.1 c.in-Some.j c.in-Adds.c fields c.set_channel-in-Adds.ensures)
