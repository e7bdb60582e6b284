-- A packet and a digest behind their frame. Assumes nothing.
use Rattle.std.proofs.Common.{rules, arith, ◌≡◌, ℕ, ◌+◌, List, ◌++◌, length, length-append}
use Rattle.wire.specs.Bytes.{digest_size}
use Rattle.wire.proofs.PatchLaws.{patch-then}
use Rattle.wire.specs.Frame.{frame_size}
use Rattle.datagram.specs.Kind.{packet_size}
use Rattle.datagram.specs.Emitted.{packet_bytes}
use Rattle.datagram.proofs.EmittedLaws.{length-packet-bytes}
use Rattle.emit.proofs.EmitLaws.{emitted}
use Rattle.emit.proofs.emit_acknowledged.Goals as goal

pub returns : goal.returns
returns c =
    let bs : List ℕ = packet_bytes c.args.p in
    let a : List ℕ = c.args.digest in
    let full : length a ≡ 32 = search rules in
    let whole : length c.args.p.digest ≡ 32 = search rules in
    let l = length-packet-bytes c.args.p whole in
    let size : length (bs ++ a) ≡ packet_size + digest_size = omega (arith, length-append bs a, full) in
    let e =
    emitted 0x0104 (packet_size + digest_size) (bs ++ a) c.args.out.now size (omega (arith, c.requires))
    c.put_frame.ensures
    (rw (c.put_array.ensures, c.put_packet.ensures) (patch-then frame_size packet_size bs a _ l)) in
    record { output = e.0; size = e.1 }
