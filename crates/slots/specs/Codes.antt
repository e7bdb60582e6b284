-- The numbers that stand for states, orders and kinds, each by its name. `Channel` and `Record` have those of an entry
-- as associated constants.
use Rattle.std.specs.Prelude.{Bool, ℕ}
use Rattle.wire.specs.Choice.{is_in}

-- STATES of a channel end
abbrev pub state_init : ℕ
state_init = 1

abbrev pub state_try_open : ℕ
state_try_open = 2

abbrev pub state_open : ℕ
state_open = 3

abbrev pub state_closed : ℕ
state_closed = 4

abbrev pub is_state : ℕ → Bool
is_state n = is_in state_init state_closed n

-- ORDERS of a channel
abbrev pub order_ordered : ℕ
order_ordered = 1

abbrev pub order_unordered : ℕ
order_unordered = 2

-- ordered, with timeouts allowed
abbrev pub order_allow_timeout : ℕ
order_allow_timeout = 3

abbrev pub is_order : ℕ → Bool
is_order n = is_in order_ordered order_allow_timeout n

-- KINDS of packet records
abbrev pub commitment_kind : ℕ
commitment_kind = 1

abbrev pub receipt_kind : ℕ
receipt_kind = 2

abbrev pub acknowledgement_kind : ℕ
acknowledgement_kind = 3

abbrev pub timeout_receipt_kind : ℕ
timeout_receipt_kind = 4

-- KINDS of a store and of a channel record
abbrev pub store_kind : ℕ
store_kind = 0x0402

abbrev pub channel_kind : ℕ
channel_kind = 1
