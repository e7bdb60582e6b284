-- Parts that several records have: a port and a channel, in this order, and a packet's timeouts.
use Rattle.std.specs.Prelude.{List, ℕ, ◌+◌}
use Rattle.wire.specs.Bytes.{field}
use Rattle.slots.specs.declared.PortChannel.{PortChannel}
use Rattle.slots.specs.declared.Timeout.{Timeout}

abbrev pub port_channel_in : (from : ℕ) → List ℕ → PortChannel
port_channel_in i bs = record { port = field i 2 bs; channel = field (i + 2) 4 bs }

abbrev pub timeout_in : (from : ℕ) → List ℕ → Timeout
timeout_in i bs = record { height = field i 8 bs; time = field (i + 8) 8 bs }
