-- The least number above all channel numbers is at least 1, above each, and up to every other such. Assumes nothing.
use Rattle.wire.proofs.Prelude.{◌≡◌, List, [], ◌∷◌, Option, none, some, ℕ, ◌+◌, ◌*◌, ◌-◌, ◌/◌, ◌≤◌, ◌<◌, arith, ltb}
use Rattle.wire.proofs.Prelude.{length, ltb-true, ltb-false}
use Rattle.wire.specs.Names.{pick, field}
use Rattle.wire.proofs.Laws.{of-pick}
use Rattle.slots.specs.declared.Channel.{Channel}
use Rattle.slots.proofs.TableLaws.{Each, each_map}
use Rattle.openings.specs.Opening.{opening_size, ends_from}
use Rattle.openings.proofs.OpeningLaws.{ends-turn, number_at}
use Rattle.openings.specs.Maker.{least_above}

abbrev Below : (next : ℕ) → Channel → Type 0
Below n c = c.own.channel < n

-- one more channel number
abbrev Least : (number above : ℕ) → ℕ → Type 0
Least a n m = (n ≤ m) × (a < m) × ((k : ℕ) → n ≤ k → a < k → m ≤ k)

least_step : (a n : ℕ) → Least a n (pick (ltb a n) n (a + 1))
least_step a n =
    of-pick (Least a n) (ltb a n) n (a + 1)
    (λ e. let l = ltb-true a n e in (omega arith, omega arith, λ k p q. p))
    (λ e. let l = ltb-false a n e in (omega arith, omega arith, λ k p q. omega arith))

pub least-positive : (cs : List (Option Channel)) → 1 ≤ least_above cs
unfolding least_above
least-positive [] = omega arith
least-positive (none ∷ cs) = least-positive cs
least-positive (some c ∷ cs) = omega (arith, (least_step c.own.channel (least_above cs)).0, least-positive cs)

pub least-above : (cs : List (Option Channel)) → Each (Below (least_above cs)) cs
unfolding least_above
least-above [] = tt
least-above (none ∷ cs) = least-above cs
least-above (some c ∷ cs) =
    let step = least_step c.own.channel (least_above cs) in
    (step.1, each_map (λ d h. omega (arith, step.0)) cs (least-above cs))

pub least-upto : (k : ℕ) (cs : List (Option Channel)) → 1 ≤ k → Each (Below k) cs → least_above cs ≤ k
unfolding least_above
least-upto k [] p h = p
least-upto k (none ∷ cs) p h = least-upto k cs p h
least-upto k (some c ∷ cs) p h =
    (least_step c.own.channel (least_above cs)).2 k (least-upto k cs p h.1) h.0

-- A TURN OF A LOOP over openings, which stands before the i-th
pub least-turn : (bs : List ℕ) (i : ℕ) → 0 < i → i ≤ length bs / opening_size →
    let a = field (opening_size * (i - 1) + 8) 4 bs in
    let n = least_above (ends_from bs i) in
    least_above (ends_from bs (i - 1)) ≡ pick (ltb a n) n (a + 1)
unfolding least_above
least-turn bs i more upto =
    let back : i - 1 + 1 ≡ i = omega arith in
    rw (ends-turn bs (i - 1) (omega arith), number_at bs (i - 1) (omega arith), back)
