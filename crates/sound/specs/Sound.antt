-- The test of a body, by its kind: a known one, and each of its parts sound.
use Rattle.std.specs.Prelude.{Bool, List, ℕ}
use Rattle.std.proofs.Math.Option.{Option}
use Rattle.wire.specs.Choice.{◌and◌, is_some}
use Rattle.datagram.specs.Kind.{Kind, body_of}
use Rattle.datagram.specs.Datagram.{datagram_of, are_parts_sound}

unfoldable pub is_body_sound : Option Kind → List ℕ → Bool
is_body_sound k d = is_some k and are_parts_sound (datagram_of k d) (body_of k)
