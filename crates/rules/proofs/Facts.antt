-- What is computed of the stores with openings and of the worked history. Assumes nothing.
use Rattle.wire.proofs.Prelude.{ℕ, [], Bool, ltb, ◌≡◌, some, true, map}
use Rattle.wire.specs.Names.{same}
use Rattle.slots.specs.declared.Channel.{Channel}
use Rattle.slots.specs.Names.{channel_at, store_in}
use Rattle.slots.proofs.Laws.{Each}
use Rattle.openings.specs.Maker.{make_told}
use Rattle.rules.specs.Names.{Side, opened_stores, across, Peers, a_slice, openings_on, first, second, slice_of_four}
use Rattle.rules.specs.Names.{requests, stores, history, numbers_told, Happened}
use Rattle.rules.proofs.HonestLaws.{are_all, is_honest, seen}

-- a byte; and that an end of the stores with openings has its peer
abbrev pub is_byte : ℕ → Bool
is_byte b = ltb b 256

abbrev pub Peer : Side → Channel → Type 0
Peer z c =
    (d : Channel) × (channel_at c.counterparty.channel (store_in (opened_stores (across z))).channels ≡ some d) ×
    Peers c d

-- of each store with openings, and of the worked history's calls
pub record Opened (z : Side) : Type 0 where
  pub told : make_told a_slice (openings_on z) ≡ 0
  pub bytes : are_all is_byte (openings_on z) ≡ true
  pub ends : Each (Peer z) (store_in (opened_stores z)).channels

pub record Facts : Type 0 where
  pub empty : make_told slice_of_four [] ≡ 0
  pub first : Opened first
  pub second : Opened second
  pub bytes : are_all (λ r. are_all is_byte r.datagram) requests ≡ true
  pub honest : is_honest (map (seen stores history) history) ≡ true
  pub numbers : same (map (λ c. c.told.number) history) numbers_told ≡ true
  pub happened : Happened
