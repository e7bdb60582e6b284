-- Lists of calls on two ledgers, and what each call did.
use Rattle.std.specs.Prelude.{◌≡◌, Bool, true, false, List, [], ◌∷◌, ℕ, suc, eqb, take}
use Rattle.std.proofs.Math.Option.{some}
use Rattle.std.proofs.Math.ListN.{get_elem?}
use Rattle.wire.specs.Choice.{◌and◌, ◌or◌, pick}
use Rattle.wire.specs.Bytes.{Bytes}
use Rattle.slots.specs.declared.Channel.{Channel}
use Rattle.slots.specs.Table.{channel_at}
use Rattle.slots.specs.Layout.{store_in}
use Rattle.openings.specs.Maker.{make_told, make_store}
use Rattle.datagram.specs.declared.Packet.{Packet}
use Rattle.datagram.specs.Datagram.{Datagram, kind_in, datagram_in}
use Rattle.datagram.specs.Emitted.{sent_kind, delivered_kind, acknowledged_kind, timed_out_kind, emitted_packet}
use Rattle.rules.specs.Call.{Told, call_told, call_store, call_output}

-- THE TWO LEDGERS
pub data Side : Type 0 where
  first second : Side

abbrev pub across : Side → Side
across first = second
across second = first

abbrev pub is_side : Side → Side → Bool
is_side first first = true
is_side first second = false
is_side second first = false
is_side second second = true

-- A CALL as its caller saw it: the ledger, what it got, what it was told, and what was left in store and output
pub record Call : Type 0 where
  pub side : Side
  pub store : List ℕ
  pub output : List ℕ
  pub datagram : List ℕ
  pub told : Told
  pub store_left : List ℕ
  pub output_left : List ℕ

-- the datagram that it got
abbrev pub datagram_got : Call → Datagram
datagram_got c = datagram_in c.datagram

-- it met what `handle` promises
pub record Met (c : Call) : Type 0 where
  pub told : c.told ≡ call_told c.store c.output c.datagram
  pub store : c.store_left ≡ call_store c.store c.output c.datagram
  pub output : c.output_left ≡ call_output c.store c.output c.datagram

-- the call at a place of the list
abbrev pub At : List Call → ℕ → Call → Type 0
At cs i c = get_elem? cs i ≡ some c

unfoldable pub fold : {A B : Type 0} → (B → A → B) → B → List A → B
fold f b [] = b
fold f b (x ∷ xs) = fold f (f b x) xs

-- the store that the last of the calls that pass a test left; and how many pass it
abbrev pub store_after : (Call → Bool) → (start : List ℕ) → List Call → List ℕ
store_after t bs cs = fold (λ (b : List ℕ) (c : Call). pick (t c) c.store_left b) bs cs

abbrev pub how_many : (Call → Bool) → List Call → ℕ
how_many t cs = fold (λ (n : ℕ) (c : Call). pick (t c) (suc n) n) 0 cs

abbrev pub is_on : Side → Call → Bool
is_on z c = is_side z c.side

-- A LIST OF CALLS: any datagram and output; each call got the store that the last call on its ledger left
pub record Run (start : Side → List ℕ) (cs : List Call) : Type 0 where
  pub bytes : (i : ℕ) (c : Call) → At cs i c → Bytes c.datagram
  pub got : (i : ℕ) (c : Call) → At cs i c → c.store ≡ store_after (is_on c.side) (start c.side) (take i cs)
  pub met : (i : ℕ) (c : Call) → At cs i c → Met c

-- a store that the maker made with answer 0
pub record Made (bs : List ℕ) : Type 0 where
  pub slice : List ℕ
  pub openings : List ℕ
  pub bytes : Bytes openings
  pub told : make_told slice openings ≡ 0
  pub left : bs ≡ make_store slice openings

-- *paired*: each end names the other's port and channel, in different stores, same order
pub record Peers (c d : Channel) : Type 0 where
  pub own : d.own ≡ c.counterparty
  pub counterparty : d.counterparty ≡ c.own
  pub order : d.order ≡ c.order

abbrev pub Paired : (Side → List ℕ) → Type 0
Paired start =
    (z : Side) (n : ℕ) (c : Channel) → channel_at n (store_in (start z)).channels ≡ some c →
    (d : Channel) × (channel_at c.counterparty.channel (store_in (start (across z))).channels ≡ some d) × Peers c d

-- WHAT A CALL DID is what its emitted record says
abbrev pub is_accepted : Call → Bool
is_accepted c = eqb c.told.number 0

abbrev pub emitted : Call → List ℕ
emitted c = take c.told.size c.output_left

abbrev pub has_emitted : (kind : ℕ) → Call → Bool
has_emitted k c = is_accepted c and eqb (kind_in (emitted c)) k

abbrev pub is_send : Call → Bool
is_send c = has_emitted sent_kind c

abbrev pub is_delivery : Call → Bool
is_delivery c = has_emitted delivered_kind c

abbrev pub is_acknowledgement : Call → Bool
is_acknowledgement c = has_emitted acknowledged_kind c

abbrev pub is_timeout : Call → Bool
is_timeout c = has_emitted timed_out_kind c

-- either of the last two *finishes* a packet
abbrev pub finishes : Call → Bool
finishes c = is_acknowledgement c or is_timeout c

abbrev pub packet_of : Call → Packet
packet_of c = emitted_packet (emitted c)

-- a packet is named by its sender's ledger, source channel and sequence
abbrev pub sender : Call → Side
sender c = pick (is_delivery c) (across c.side) c.side

pub record SamePacket (c e : Call) : Type 0 where
  pub ledger : sender c ≡ sender e
  pub channel : (packet_of c).source.channel ≡ (packet_of e).source.channel
  pub sequence : (packet_of c).sequence ≡ (packet_of e).sequence
