-- An end, a sequence and a digest behind their frame. Assumes nothing.
use Rattle.std.proofs.Common.{rules, arith, ◌≡◌, ℕ, ◌+◌, List, ◌++◌, length, length-append}
use Rattle.wire.specs.Bytes.{little, digest_size}
use Rattle.wire.proofs.BytesLaws.{length-little}
use Rattle.wire.proofs.PatchLaws.{patch-then}
use Rattle.wire.specs.Frame.{frame_size}
use Rattle.emit.specs.Output.{port_channel_bytes}
use Rattle.emit.proofs.EmitLaws.{emitted}
use Rattle.emit.proofs.emit_written.Goals as goal

pub returns : goal.returns
returns c =
    let end : List ℕ = port_channel_bytes c.args.destination in
    let n : List ℕ = little 8 c.args.sequence in
    let a : List ℕ = c.args.digest in
    let full : length a ≡ 32 = search rules in
    let six : length end ≡ 6 = simp (length-append, length-little) in
    let more : length (end ++ n) ≡ 14 = simp (length-append, length-little) in
    let size : length (end ++ n ++ a) ≡ 14 + digest_size = omega (arith, length-append (end ++ n) a) in
    let e =
    emitted 0x0103 (14 + digest_size) (end ++ n ++ a) c.args.out.now size (omega (arith, c.requires))
    c.put_frame.ensures
    (rw (c.put_array.ensures, c.put_u64.ensures, c.put_port_channel.ensures)
    (rw (patch-then frame_size 6 end n _ six) (patch-then frame_size 14 (end ++ n) a _ more))) in
    record { output = e.0; size = e.1 }
