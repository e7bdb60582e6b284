-- What is left of the front stands behind what was read, and is moved to the front.
use Rattle.std.proofs.Common.{◌/◌, length}
use Rattle.transcript.specs.Transcript.{line_room}
use Rattle.stream.proofs.StreamLaws.{takes-fed}
use Rattle.stream.proofs.feed_front.Goals as goal

pub returns : goal.returns
returns c =
    let a = c.args in
    let kept = c.keep-held.ensures in
    takes-fed (length a.text.now / line_room) a.replay a.room.now a.end a.piece.now a.text.now c.feed-fed.result
    c.requires c.feed-fed.ensures (kept.size, kept.piece) c.is_over.ensures
