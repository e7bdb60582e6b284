-- Bytes copied over a part of the text are a patch of it.
use Rattle.std.proofs.Common.{◌+◌, length, refl, arith}
use Rattle.wire.proofs.ArrayLaws.{put_mid-patch}
use Rattle.text.proofs.Lines.put_bytes.Goals as goal

pub returns : goal.returns
returns c =
    let s = c.args.self.now in
    let bytes = c.args.bytes.now in
    let stored = put_mid-patch s.at (s.at + length bytes) s.text.now bytes (omega arith) c.requires (omega arith) in
    record { same = refl; place = refl; text = rw c.copy_from_slice.ensures.after stored }
