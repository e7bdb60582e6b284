-- A packet behind its frame. Assumes nothing.
use Rattle.std.proofs.Common.{rules, arith, ◌≡◌, length}
use Rattle.datagram.specs.Kind.{packet_size}
use Rattle.datagram.specs.Emitted.{packet_bytes}
use Rattle.datagram.proofs.EmittedLaws.{length-packet-bytes}
use Rattle.emit.proofs.EmitLaws.{emitted}
use Rattle.emit.proofs.emit_packet.Goals as goal

pub returns : goal.returns
returns c =
    let full : length c.args.p.digest ≡ 32 = search rules in
    let e =
    emitted c.args.kind packet_size (packet_bytes c.args.p) c.args.out.now (length-packet-bytes c.args.p full)
    (omega (arith, c.requires)) c.put_frame.ensures c.put_packet.ensures in
    record { output = e.0; size = e.1 }
