-- Each part is stored: `patch-packet`. Assumes nothing.
use Rattle.emit.proofs.EmitLaws.{patch-packet}
use Rattle.emit.proofs.put_packet.Goals as goal

pub returns : goal.returns
returns c =
    rw (
      c.put_array.ensures,
      c.put_port_channel-2.ensures,
      c.put_port_channel.ensures,
      c.put_timeout.ensures,
      c.put_u64.ensures,
      patch-packet,
    )
