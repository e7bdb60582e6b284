-- What a store behind the lines so far leaves: the same text, in which the bytes stand from the old place on, and the
-- place behind them.
use Rattle.std.specs.Prelude.{◌≡◌, List, ℕ, ◌+◌, length}
use Rattle.wire.specs.Bytes.{patch}
use Rattle.text.specs.declared.Lines.{Lines}

pub record Stores (bytes : List ℕ) (old new : Lines) : Type 0 where
  pub same : new.text.ghost_name ≡ old.text.ghost_name
  pub place : new.at ≡ old.at + length bytes
  pub text : new.text.now ≡ patch old.at bytes old.text.now
