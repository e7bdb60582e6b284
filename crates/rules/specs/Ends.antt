-- What is promised of the ends of two ledgers over a list of calls.
use Rattle.std.specs.Prelude.{◌≡◌, Bool, true, List, ℕ, ◌≤◌, ◌<◌, leb, take}
use Rattle.std.proofs.Math.Option.{Option, none, some}
use Rattle.slots.specs.declared.Channel.{Channel}
use Rattle.slots.specs.Table.{channel_at}
use Rattle.slots.specs.Layout.{store_in}
use Rattle.slots.specs.Codes.{state_init, state_try_open, state_open, state_closed}
use Rattle.datagram.specs.Kind.{close_confirm}
use Rattle.rules.specs.Calls.{Side, across, Call, At, datagram_got, is_accepted, store_after, is_on, Peers}

-- THE END of a ledger after the first `i` calls
abbrev pub end_at : (Side → List ℕ) → List Call → Side → (i channel : ℕ) → Option Channel
end_at start cs z i n = channel_at n (store_in (store_after (is_on z) (start z) (take i cs))).channels

-- it is OPEN, or it was and is CLOSED
abbrev pub has_opened : Channel → Bool
has_opened c = leb state_open c.state

-- WHAT IS FOR GOOD: the port, the number, the order and the version of an end; the port of its counterparty, and the
-- channel too, which is set once, when the end leaves INIT; that it has opened, and that it is CLOSED
pub record Lasts (c e : Channel) : Type 0 where
  pub own : e.own ≡ c.own
  pub order : e.order ≡ c.order
  pub version : e.version ≡ c.version
  pub port : e.counterparty.port ≡ c.counterparty.port
  pub counterparty : (c.state ≡ state_init → e.state ≡ state_init) → e.counterparty ≡ c.counterparty
  pub opened : has_opened c ≡ true → has_opened e ≡ true
  pub closed : c.state ≡ state_closed → e.state ≡ state_closed

-- an end that is there stays
abbrev pub EndsStay : (Side → List ℕ) → List Call → Type 0
EndsStay start cs =
    (z : Side) (i j n : ℕ) (c : Channel) → i ≤ j → end_at start cs z i n ≡ some c →
    (e : Channel) × (end_at start cs z j n ≡ some e) × Lasts c e

-- NUMBERS are given out from 1, rising, never reused: an end that comes later has a number above those of all that are
-- there
abbrev pub NumbersRise : (Side → List ℕ) → List Call → Type 0
NumbersRise start cs =
    (z : Side) (i j n : ℕ) (c : Channel) → i ≤ j → end_at start cs z i n ≡ none → end_at start cs z j n ≡ some c →
    (1 ≤ n) × ((m : ℕ) (e : Channel) → end_at start cs z i m ≡ some e → m < n)

-- PAIRED: an end that has opened names an end of the other ledger, which is there and names it, with the same order and
-- version
abbrev pub StayPaired : (Side → List ℕ) → List Call → Type 0
StayPaired start cs =
    (z : Side) (i n : ℕ) (c : Channel) → end_at start cs z i n ≡ some c → has_opened c ≡ true →
    (d : Channel) × (end_at start cs (across z) i c.counterparty.channel ≡ some d) × Peers c d ×
    (d.version ≡ c.version)

-- of a ledger's ends that name one end of the other at most one ever opens
abbrev pub OpensOnce : (Side → List ℕ) → List Call → Type 0
OpensOnce start cs =
    (z : Side) (i j n m : ℕ) (c e : Channel) → end_at start cs z i n ≡ some c → end_at start cs z j m ≡ some e →
    has_opened c ≡ true → has_opened e ≡ true → c.counterparty.channel ≡ e.counterparty.channel → n ≡ m

-- A TRYOPEN END names an initiator's end: one that was INIT, with the same order and version, and named its port
pub record Initiator (start : Side → List ℕ) (cs : List Call) (z : Side) (i : ℕ) (c : Channel) : Type 0 where
  pub place : ℕ
  pub earlier : place ≤ i
  pub end : Channel
  pub found : end_at start cs (across z) place c.counterparty.channel ≡ some end
  pub init : end.state ≡ state_init
  pub own : end.own ≡ c.counterparty
  pub port : end.counterparty.port ≡ c.own.port
  pub order : end.order ≡ c.order
  pub version : end.version ≡ c.version

abbrev pub TriesAnswer : (Side → List ℕ) → List Call → Type 0
TriesAnswer start cs =
    (z : Side) (i n : ℕ) (c : Channel) → end_at start cs z i n ≡ some c → c.state ≡ state_try_open →
    Initiator start cs z i c

-- A CLOSE CONFIRM answers a close: the end that its own end names is CLOSED, and names it
abbrev pub ClosesAnswer : (Side → List ℕ) → List Call → Type 0
ClosesAnswer start cs =
    (i : ℕ) (c : Call) (e : Channel) → At cs i c → is_accepted c ≡ true → (datagram_got c).kind ≡ some close_confirm →
    end_at start cs c.side i (datagram_got c).channel ≡ some e →
    (d : Channel) × (end_at start cs (across c.side) i e.counterparty.channel ≡ some d) × Peers e d ×
    (d.version ≡ e.version) × (d.state ≡ state_closed)
