-- A slot of 64 bytes is read and stored field by field. Assumes nothing.
use mathlib.Core.Path.{◌≡◌, refl, sym, ap, ◌∙◌}
use mathlib.Core.List.{List, [], ◌∷◌, ◌++◌}
use Prim.Native.Nat.{ℕ, ◌+◌, ◌≤◌}
use native.Mathlib.Nat.{add_assoc, add-zero}
use native.Mathlib.Omega.{arith}
use lib.ListN.{length, get_or, set, length-append}
use Rattle.wire.specs.Bytes.{little, part, field, patch, digest_size}
use Rattle.wire.proofs.BytesLaws.{length-little}
use Rattle.wire.proofs.PartLaws.{part-part, field-part, byte-part}
use Rattle.wire.proofs.PatchLaws.{patch-append}
use Rattle.slots.specs.declared.PortChannel.{PortChannel}
use Rattle.slots.specs.declared.Timeout.{Timeout}
use Rattle.slots.specs.declared.Channel.{Channel}
use Rattle.slots.specs.declared.Record.{Record}
use Rattle.slots.specs.Limits.{version_size}
use Rattle.slots.specs.Codes.{channel_kind}
use Rattle.slots.specs.Layout.{slot_size, channel_in, channel_bytes, record_in, record_bytes}
use Rattle.slots.specs.Table.{key_of}
use Rattle.slots.specs.Part.{port_channel_in, timeout_in}

-- A PART OF A RECORD is read where it stands in the bytes
module _ (i at m : ℕ) (bs : List ℕ) where
  pub end-part : i + 6 ≤ m → port_channel_in i (part at m bs) ≡ port_channel_in (at + i) bs
  end-part h =
      rw (add_assoc at i 2, field-part i 2 at m bs (omega arith), field-part (i + 2) 4 at m bs (omega arith))

  timeout-part : i + 16 ≤ m → timeout_in i (part at m bs) ≡ timeout_in (at + i) bs
  timeout-part h =
      rw (add_assoc at i 8, field-part i 8 at m bs (omega arith), field-part (i + 8) 8 at m bs (omega arith))

module _ (at : ℕ) (bs : List ℕ) where
  -- READ
  number : (i n : ℕ) → i + n ≤ slot_size → {x : ℕ} → x ≡ field (at + i) n bs → x ≡ field i n (part at slot_size bs)
  number i n h p = p ∙ sym (field-part i n at slot_size bs h)

  pub channel-read : {p c s r a : ℕ} {e : PortChannel} {v : List ℕ} → p ≡ field (at + 8) 2 bs →
      c ≡ field (at + 4) 4 bs → e ≡ port_channel_in (at + 10) bs → s ≡ field (at + 16) 8 bs → r ≡ field (at + 24) 8 bs →
      a ≡ field (at + 32) 8 bs → v ≡ part (at + 40) version_size bs →
      record {
        state = get_or bs (at + 2) 0;
        order = get_or bs (at + 3) 0;
        own = record { port = p; channel = c };
        counterparty = e;
        next = record { send = s; receive = r; acknowledge = a };
        version = v;
      } ≡ channel_in (part at slot_size bs)
  unfolding channel_in
  channel-read p c e s r a v = λ i.
      record {
        state = sym (byte-part 2 at slot_size bs (omega arith)) i;
        order = sym (byte-part 3 at slot_size bs (omega arith)) i;
        own = record { port = number 8 2 (omega arith) p i; channel = number 4 4 (omega arith) c i };
        counterparty = (e ∙ sym (end-part 10 at slot_size bs (omega arith))) i;
        next =
            record {
              send = number 16 8 (omega arith) s i;
              receive = number 24 8 (omega arith) r i;
              acknowledge = number 32 8 (omega arith) a i;
            };
        version = (v ∙ sym (part-part 40 version_size at slot_size bs (omega arith))) i;
      }

  pub record-read : {k c n : ℕ} {t : Timeout} {d : List ℕ} → k ≡ field at 2 bs → c ≡ field (at + 4) 4 bs →
      n ≡ field (at + 8) 8 bs → t ≡ timeout_in (at + 16) bs → d ≡ part (at + 32) digest_size bs →
      record { kind = k; channel = c; sequence = n; timeout = t; digest = d } ≡ record_in (part at slot_size bs)
  unfolding record_in
  record-read k c n t d = λ i.
      record {
        kind = (k ∙ sym (rw add-zero at (field-part 0 2 at slot_size bs (omega arith)))) i;
        channel = number 4 4 (omega arith) c i;
        sequence = number 8 8 (omega arith) n i;
        timeout = (t ∙ sym (timeout-part 16 at slot_size bs (omega arith))) i;
        digest = (d ∙ sym (part-part 32 digest_size at slot_size bs (omega arith))) i;
      }

  -- the key of a packet record leads it
  pub key_read : (k c n : ℕ) → k ≡ field at 2 bs → c ≡ field (at + 4) 4 bs → n ≡ field (at + 8) 8 bs →
      record { channel = c; kind = k; sequence = n } ≡ key_of (record_in (part at slot_size bs))
  key_read k c n p q r = ap key_of (record-read p q r refl refl)

  -- STORED
  bytes-stored : (k n : ℕ) (xs ys : List ℕ) → length xs ≡ 1 → length ys ≡ 1 →
      patch at (little 2 k ++ (xs ++ ys) ++ little 4 n) bs
      ≡ patch (at + 4) (little 4 n) (patch (at + 3) ys (patch (at + 2) xs (patch at (little 2 k) bs)))
  bytes-stored k n xs ys l m = simp (patch-append, length-append, length-little, add_assoc, l, m)

  pub head-stored : (k x y n : ℕ) → patch at (little 2 k ++ (x ∷ y ∷ []) ++ little 4 n) bs
      ≡ patch (at + 4) (little 4 n) (set (set (patch at (little 2 k) bs) (at + 2) x) (at + 3) y)
  unfolding patch
  head-stored k x y n = bytes-stored k n (x ∷ []) (y ∷ []) refl refl

  pub channel-stored : (c : Channel) → patch at (channel_bytes c) bs
      ≡ patch (at + 40) c.version
      (patch (at + 16) (little 8 c.next.send ++ little 8 c.next.receive ++ little 8 c.next.acknowledge)
      (patch (at + 10) (little 2 c.counterparty.port ++ little 4 c.counterparty.channel)
      (patch (at + 8) (little 2 c.own.port)
      (patch at (little 2 channel_kind ++ (c.state ∷ c.order ∷ []) ++ little 4 c.own.channel) bs))))
  unfolding channel_bytes
  channel-stored c = simp (patch-append, length-append, length-little, add_assoc)

  pub record-stored : (r : Record) → patch at (record_bytes r) bs
      ≡ patch (at + 32) r.digest
      (patch (at + 16) (little 8 r.timeout.height ++ little 8 r.timeout.time)
      (patch (at + 8) (little 8 r.sequence)
      (patch at (little 2 r.kind ++ (0 ∷ 0 ∷ []) ++ little 4 r.channel) bs)))
  unfolding record_bytes
  record-stored r = simp (patch-append, length-append, length-little, add_assoc)

pub ruleset slot_fields = (channel-read, record-read, head-stored, channel-stored, record-stored)
