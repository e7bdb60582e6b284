-- An end behind its frame. Assumes nothing.
use Rattle.std.proofs.Common.{arith, ◌≡◌, ℕ, List, length, length-append}
use Rattle.wire.proofs.BytesLaws.{length-little}
use Rattle.emit.specs.Output.{port_channel_bytes}
use Rattle.emit.proofs.EmitLaws.{emitted}
use Rattle.emit.proofs.emit_made.Goals as goal

pub returns : goal.returns
returns c =
    let end : List ℕ = port_channel_bytes c.args.e in
    let six : length end ≡ 6 = simp (length-append, length-little) in
    let e =
    emitted 0x0107 6 end c.args.out.now six (omega (arith, c.requires)) c.put_frame.ensures c.put_port_channel.ensures in
    record { output = e.0; size = e.1 }
