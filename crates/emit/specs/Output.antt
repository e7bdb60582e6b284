-- What a record that is handed out leaves in the lent output: it stands at the front, and the bytes behind it stay.
use Rattle.std.specs.Prelude.{List, [], ◌++◌, ℕ, length, drop}
use Rattle.wire.specs.Bytes.{little}
use Rattle.slots.specs.declared.PortChannel.{PortChannel}
use Rattle.datagram.specs.declared.Packet.{Packet}
use Rattle.emit.specs.declared.Emission.{Emission}
use Rattle.emit.specs.declared.Emission.TheVariants.{Sent, Delivered, TimedOut, Lapsed, Written, Acknowledged}
use Rattle.emit.specs.declared.Emission.TheVariants.{Made, Nothing}
use Rattle.datagram.specs.Emitted.{sent_kind, delivered_kind, written_kind, acknowledged_kind, timed_out_kind}
use Rattle.datagram.specs.Emitted.{lapsed_kind, made_kind, framed, packet_bytes}

abbrev pub at_front : (emitted output : List ℕ) → List ℕ
at_front e o = e ++ drop (length e) o

abbrev pub port_channel_bytes : PortChannel → List ℕ
port_channel_bytes e = little 2 e.port ++ little 4 e.channel

-- THE RECORDS: a packet (0x0101, 0x0102, 0x0105 and 0x0106), a written acknowledgement, an acknowledged packet, and a
-- new end
abbrev pub packet_record : (kind : ℕ) → Packet → List ℕ
packet_record k p = framed k (packet_bytes p)

abbrev pub written_record : PortChannel → (sequence : ℕ) → (digest : List ℕ) → List ℕ
written_record e n a = framed written_kind (port_channel_bytes e ++ little 8 n ++ a)

abbrev pub acknowledged_record : Packet → (digest : List ℕ) → List ℕ
acknowledged_record p a = framed acknowledged_kind (packet_bytes p ++ a)

abbrev pub made_record : PortChannel → List ℕ
made_record e = framed made_kind (port_channel_bytes e)

-- the record that a value tells
abbrev pub emitted_by : Emission → List ℕ
emitted_by (Sent p) = packet_record sent_kind p
emitted_by (Delivered p) = packet_record delivered_kind p
emitted_by (TimedOut p) = packet_record timed_out_kind p
emitted_by (Lapsed p) = packet_record lapsed_kind p
emitted_by (Written e n a) = written_record e n a
emitted_by (Acknowledged p a) = acknowledged_record p a
emitted_by (Made e) = made_record e
emitted_by Nothing = []
