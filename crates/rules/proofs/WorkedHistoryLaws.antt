-- The worked history is a run of made, paired stores, and honest; and stores with openings are made and paired too.
-- Assumes nothing.
use Rattle.wire.proofs.Prelude.{◌≡◌, refl, List, [], ℕ, ltb-true, true}
use Rattle.wire.specs.Names.{Bytes}
use Rattle.wire.proofs.Laws.{every_map, same-eq}
use Rattle.slots.specs.Names.{is_numbered, store_in}
use Rattle.slots.proofs.Laws.{each-find}
use Rattle.rules.specs.Names.{Side, first, second, Made, a_slice, slice_of_four, stores, requests, history}
use Rattle.rules.specs.Names.{openings_on, opened_stores, WorkedHistory}
use Rattle.rules.proofs.HonestLaws.{are_all, all-every, honest-seen}
use Rattle.rules.proofs.Facts.{is_byte, Peer, Opened}
use Rattle.rules.proofs.CaseLaws.{facts}
use Rattle.rules.proofs.Pairing.{none-is-paired}
use Rattle.rules.proofs.Computed.{computed-run}

bytes-of : (bs : List ℕ) → are_all is_byte bs ≡ true → Bytes bs
bytes-of bs h = every_map (λ (b : ℕ) t. ltb-true b 256 t) bs (all-every is_byte bs h)

made-empty : (z : Side) → Made (stores z)
unfolding stores
made-empty z = record { slice = slice_of_four; openings = []; bytes = tt; told = facts.empty; left = refl }

opened : (z : Side) → Opened z
opened first = facts.first
opened second = facts.second

made-opened : (z : Side) → Made (opened_stores z)
unfolding opened_stores
made-opened z =
    record {
      slice = a_slice;
      openings = openings_on z;
      bytes = bytes-of (openings_on z) (opened z).bytes;
      told = (opened z).told;
      left = refl;
    }

pub worked_history : WorkedHistory
unfolding made-empty
worked_history =
    record {
      made = made-empty;
      paired = none-is-paired stores made-empty (λ z. refl);
      run = computed-run stores requests
          (every_map (λ r h. bytes-of r.datagram h) requests
          (all-every (λ r. are_all is_byte r.datagram) requests facts.bytes));
      honest = honest-seen stores history facts.honest;
      numbers = same-eq _ _ facts.numbers;
      happened = facts.happened;
      opened_made = made-opened;
      opened_paired = λ z n c h.
          each-find (Peer z) (is_numbered n) (store_in (opened_stores z)).channels c (opened z).ends h;
    }
