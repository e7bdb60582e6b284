-- The text that the replay program prints for a whole input.
use Rattle.std.specs.Prelude.{List, [], ◌++◌, ℕ, zero, suc, leb, eqb, length, take, drop, replicate}
use Rattle.wire.specs.Choice.{pick}
use Rattle.slots.specs.Limits.{record_limit}
use Rattle.slots.specs.Layout.{size_for}
use Rattle.reader.specs.declared.Front.{Front}
use Rattle.reader.specs.declared.Front.TheVariants.{Whole, Torn, Short}
use Rattle.trace.specs.declared.Phase.{Phase}
use Rattle.trace.specs.declared.Phase.TheVariants.{Before, Running, Over}
use Rattle.trace.specs.declared.Replay.{Replay}
use Rattle.text.specs.Line.{line_of, end_word, torn_word}
use Rattle.reader.specs.Front.{front_of}
use Rattle.trace.specs.Trace.{fresh_replay, is_over, over, stepped}

-- what bytes of the input leave: the lines so far, how the replay stands, the store's room, and the bytes not yet read
pub record Fed : Type 0 where
  pub text : List ℕ
  pub replay : Replay
  pub room : List ℕ
  pub rest : List ℕ

abbrev pub stays : Replay → (room rest : List ℕ) → Fed
stays replay room bs = record { text = []; replay = replay; room = room; rest = bs }

-- lines that stand before what is left
abbrev pub behind : List ℕ → Fed → Fed
behind t f = record { text = t ++ f.text; replay = f.replay; room = f.room; rest = f.rest }

-- one turn: a whole record is stepped, and `go` does the rest; a torn one ends the replay
abbrev pub turned : (go : Replay → (room bytes : List ℕ) → Fed) → Front → Replay → (room bytes : List ℕ) → Fed
turned go (Whole k) replay room bs =
    behind (stepped replay room (take k bs)).text
    (go (stepped replay room (take k bs)).replay (stepped replay room (take k bs)).room (drop k bs))
turned go Torn replay room bs =
    record {
      text = line_of torn_word replay.count;
      replay = over replay.count replay.size;
      room = room;
      rest = bs;
    }
turned go Short replay room bs = stays replay room bs

-- at most so many records; nothing is read behind the end of the replay
unfoldable pub fed : (records : ℕ) → Replay → (room bytes : List ℕ) → Fed
fed zero replay room bs = stays replay room bs
fed (suc n) replay room bs =
    pick (is_over replay.phase) (stays replay room bs) (turned (fed n) (front_of bs) replay room bs)

-- the last line, where the input has ended: `end`, or `torn` where bytes are left that are no whole record
abbrev pub last_in : Phase → (count left : ℕ) → List ℕ
last_in Before n k = line_of torn_word 0
last_in Running n k = line_of (pick (eqb k 0) end_word torn_word) n
last_in Over n k = []

abbrev pub last_line : Replay → (left : ℕ) → List ℕ
last_line replay k = last_in replay.phase replay.count k

abbrev pub finished : Fed → List ℕ
finished f = f.text ++ last_line f.replay (length f.rest)

-- the lines of a record have room in so many bytes; nothing is stored where there is less
abbrev pub line_room : ℕ
line_room = 64

unfoldable pub last_within : (size : ℕ) → Replay → (left : ℕ) → List ℕ
last_within n replay k = pick (leb line_room n) (last_line replay k) []

-- THE TEXT, from a fresh replay and room for the longest store. Every record has bytes, so that there are no more
-- records than bytes
abbrev pub fresh_room : List ℕ
fresh_room = replicate (size_for record_limit) 0

unfoldable pub text_from : Replay → (room bytes : List ℕ) → List ℕ
text_from replay room bs = finished (fed (length bs) replay room bs)

abbrev pub transcript_of : (input : List ℕ) → List ℕ
transcript_of bs = text_from fresh_replay fresh_room bs
