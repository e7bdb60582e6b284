-- What the code of a piece leaves, behind text that ends at a place, against what the definition says: how the replay
-- stands, the places behind what was read and stored, the room of the store, and the text.
use Rattle.std.specs.Prelude.{◌≡◌, List, ℕ, ◌+◌, ◌-◌, length}
use Rattle.wire.specs.Bytes.{patch}
use Rattle.transcript.specs.declared.Progress.{Progress}
use Rattle.transcript.specs.Transcript.{Fed}

abbrev pub Feeds : Fed → (at : ℕ) → (input text : List ℕ) → Progress → (room' text' : List ℕ) → Type 0
Feeds f at input text r room' text' =
    (r ≡ record { replay = f.replay; read = length input - length f.rest; size = at + length f.text })
    × ((room' ≡ f.room) × (text' ≡ patch at f.text text))
