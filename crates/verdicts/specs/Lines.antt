-- The table of answers behind its first lines: what each function that answers by a part of it promises.
use Rattle.std.specs.Prelude.{List, [], ◌∷◌, ℕ, ltb}
use Rattle.std.proofs.Math.Option.{Option}
use Rattle.wire.specs.Choice.{pick}
use Rattle.slots.specs.declared.Channel.{Channel}
use Rattle.slots.specs.Layout.{Store}
use Rattle.datagram.specs.Kind.{Kind}
use Rattle.datagram.specs.Datagram.{Datagram}
use Rattle.rules.specs.Refusals.{Line, first_given, table}

-- the lines behind those of a place
unfoldable pub behind : (place : ℕ) → List Line → List Line
behind n [] = []
behind n (l ∷ ls) = pick (ltb n l.place) (l ∷ ls) (behind n ls)

-- the answer by them. Bytes and room matter to the first three lines alone: behind them the table is the same for all,
-- so these are none
unfoldable pub number_behind : (place : ℕ) → Option Kind → Store → Datagram → Channel → ℕ
number_behind n k s d c = first_given k (behind n (table [] 0 [] s d c))
