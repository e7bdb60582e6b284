-- Records written at the front of the output, part by part. Assumes nothing.
use mathlib.Core.Path.{◌≡◌, sym, ap, ◌∙◌}
use mathlib.Core.List.{List, ◌++◌, append_assoc}
use Prim.Native.Nat.{ℕ, ◌+◌, ◌≤◌}
use native.Mathlib.Nat.{add_assoc}
use native.Mathlib.Omega.{arith}
use lib.ListN.{length, take, drop, length-append, take-append-drop}
use lib.Seq.{length-take-le}
use Rattle.wire.specs.Bytes.{little, patch}
use Rattle.wire.proofs.BytesLaws.{length-little}
use Rattle.wire.proofs.PatchLaws.{patch-append, patch-then, patch-front}
use Rattle.datagram.specs.declared.Packet.{Packet}
use Rattle.wire.specs.Frame.{frame_size}
use Rattle.datagram.specs.Emitted.{framed, packet_bytes}
use Rattle.emit.specs.Output.{at_front, port_channel_bytes}

-- what is stored from the first place on stands at the front, and the bytes behind it stay
pub patch-start : (xs bs : List ℕ) → length xs ≤ length bs → patch 0 xs bs ≡ at_front xs bs
patch-start xs bs h =
    ap (patch 0 xs) (sym (take-append-drop (length xs) bs))
    ∙ patch-front xs (take (length xs) bs) (drop (length xs) bs) (sym (length-take-le (length xs) bs h))

pub length-framed : (k : ℕ) (bs : List ℕ) → length (framed k bs) ≡ length bs + frame_size
unfolding framed
length-framed k bs = simp (length-append, length-little) (omega arith)

-- a body of n bytes behind its frame, and the length that the frame tells
pub emitted : (k n : ℕ) (xs bs : List ℕ) {mid all : List ℕ} → length xs ≡ n → n + frame_size ≤ length bs →
    mid ≡ patch 0 (little 4 (n + frame_size) ++ little 2 k) bs → all ≡ patch frame_size xs mid →
    (all ≡ at_front (framed k xs) bs) × (n + frame_size ≡ length (framed k xs))
unfolding framed
emitted k n xs bs {mid} {all} l h head body =
    let frame : List ℕ = little 4 (n + frame_size) ++ little 2 k in
    let six : length frame ≡ frame_size = simp (length-append, length-little) in
    let room : length (framed k xs) ≤ length bs = omega (arith, length-framed k xs) in (
      rw (body, head) (patch-then 0 frame_size frame xs bs six ∙
          rw (append_assoc (little 4 (n + frame_size)) (little 2 k) xs, ← l) (patch-start (framed k xs) bs room)),
      omega (arith, length-framed k xs),
    )

-- a packet is stored part by part
pub patch-packet : (at : ℕ) (p : Packet) (bs : List ℕ) →
    patch at (packet_bytes p) bs
    ≡ patch (at + 36) p.digest
    (patch (at + 30) (port_channel_bytes p.destination)
    (patch (at + 24) (port_channel_bytes p.source)
    (patch (at + 8) (little 8 p.timeout.height ++ little 8 p.timeout.time) (patch at (little 8 p.sequence) bs))))
unfolding packet_bytes
patch-packet at p bs = simp (patch-append, length-append, length-little, add_assoc)
