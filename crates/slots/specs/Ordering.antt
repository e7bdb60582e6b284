-- What a channel end's ordering means for what is stored. Of the definitions only this module and the rules' Ordering
-- test it; the statements name it.
use Rattle.std.specs.Prelude.{◌≡◌, Bool, not, List, ℕ, ◌<◌, ltb, eqb}
use Rattle.std.proofs.Math.Option.{Option}
use Rattle.wire.specs.Choice.{◌and◌, pick, is_some}
use Rattle.slots.specs.declared.Channel.{Channel}
use Rattle.slots.specs.declared.Record.{Record}
use Rattle.slots.specs.Codes.{order_ordered, order_unordered, order_allow_timeout}
use Rattle.slots.specs.Table.{Key, receipt_key, timeout_receipt_key, lookup}

-- THE THREE ORDERINGS: ordered, unordered, and ordered with timeouts allowed
unfoldable pub is_ordered : Channel → Bool
is_ordered c = eqb c.order order_ordered

unfoldable pub is_unordered : Channel → Bool
is_unordered c = eqb c.order order_unordered

unfoldable pub allows_timeouts : Channel → Bool
allows_timeouts c = eqb c.order order_allow_timeout

abbrev pub has_receipt : List (Option Record) → Channel → (sequence : ℕ) → Bool
has_receipt rs c n = is_some (lookup (receipt_key c.own.channel n) rs)

abbrev pub has_timeout_receipt : List (Option Record) → Channel → (sequence : ℕ) → Bool
has_timeout_receipt rs c n = is_some (lookup (timeout_receipt_key c.own.channel n) rs)

-- a test tells of a key of this channel and sequence, of any kind, whether a record has it: all that it may answer is
-- so
abbrev pub TellsOf : (Key → Bool → Type 0) → List (Option Record) → Channel → (sequence : ℕ) → Type 0
TellsOf answers rs c n =
    (kind : ℕ) (b : Bool) → kind < 65536 →
    let k : Key = record { kind = kind; channel = c.own.channel; sequence = n } in
    answers k b → b ≡ is_some (lookup k rs)

-- *taken*, and never again: unordered, a receipt is there; else the sequence is below next receive
unfoldable pub is_taken : List (Option Record) → Channel → (sequence : ℕ) → Bool
is_taken rs c n = pick (is_unordered c) (has_receipt rs c n) (ltb n c.next.receive)

-- *lapsed*: timeouts are allowed, and a timeout receipt is there
unfoldable pub is_lapsed : List (Option Record) → Channel → (sequence : ℕ) → Bool
is_lapsed rs c n = allows_timeouts c and has_timeout_receipt rs c n

-- *received*: taken, and not lapsed
unfoldable pub is_received : List (Option Record) → Channel → (sequence : ℕ) → Bool
is_received rs c n = is_taken rs c n and not (is_lapsed rs c n)

-- WHERE THEY MAY STAND: a receipt on an unordered channel, a timeout receipt where timeouts are allowed, below next
-- receive
unfoldable pub may_have_receipt : Channel → Bool
may_have_receipt c = is_unordered c

unfoldable pub may_have_timeout_receipt : Channel → (sequence : ℕ) → Bool
may_have_timeout_receipt c n = allows_timeouts c and ltb n c.next.receive
