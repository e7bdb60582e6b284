-- What the code of a record leaves, against what the definition says: how the replay stands, the room of the store, and
-- the lines behind those that were there.
use Rattle.std.specs.Prelude.{◌≡◌, List, ℕ}
use Rattle.text.specs.declared.Lines.{Lines}
use Rattle.text.specs.Lines.{Stores}
use Rattle.trace.specs.declared.Replay.{Replay}
use Rattle.trace.specs.Trace.{After}

abbrev pub Leaves : After → (old new : Lines) → Replay → (room' : List ℕ) → Type 0
Leaves a old new r room' = (r ≡ a.replay) × ((room' ≡ a.room) × Stores a.text old new)
