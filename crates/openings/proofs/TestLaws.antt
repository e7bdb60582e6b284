-- Tests of all openings, one index after the other. Assumes nothing.
use mathlib.Core.Path.{◌≡◌, refl, sym}
use mathlib.Core.Bool.{Bool, true, false, not, ◌&&◌, ◌||◌}
use mathlib.Core.List.{List}
use Prim.Native.Nat.{ℕ, zero, suc, ◌+◌, ◌*◌, ◌-◌, ◌/◌, ◌≤◌, ◌<◌}
use native.Mathlib.Nat.{sub-zero}
use native.Mathlib.Omega.{arith}
use lib.Dec.{eqb}
use lib.ListN.{length}
use Rattle.std.specs.List.{range_with_len, list_any, list_all}
use Rattle.wire.specs.Choice.{◌and◌, is_some}
use Rattle.wire.specs.Bytes.{field}
use Rattle.wire.proofs.ChoiceLaws.{cases}
use Rattle.slots.specs.Table.{find, distinct, same_number, channel_at}
use Rattle.openings.specs.Opening.{opening_size, opening_fits, openings_in, all_openings_fit, ends_of}
use Rattle.openings.specs.Opening.{openings_from, ends_from}
use Rattle.openings.proofs.OpeningLaws.{opening_at, fit-turn, number-turn, distinct-turn, openings-over}

-- a definition that goes on with the next index is the test of all indices from one on
module _ (test left : ℕ → Bool) (end : ℕ) where
  any-range : ((i : ℕ) → i < end → left i ≡ (test i || left (i + 1))) → ((i : ℕ) → end ≤ i → left i ≡ false)
      → (n i : ℕ) → end - i ≡ n → list_any test (range_with_len i n) ≡ left i
  any-range turn over zero i e = sym (over i (omega arith))
  any-range turn over (suc n) i e =
      let ih = any-range turn over n (i + 1) (omega arith) in
      let t = turn i (omega arith) in
      sym (rw (← ih) at t)

  all-range : ((i : ℕ) → i < end → left i ≡ (test i && left (i + 1))) → ((i : ℕ) → end ≤ i → left i ≡ true)
      → (n i : ℕ) → end - i ≡ n → list_all test (range_with_len i n) ≡ left i
  all-range turn over zero i e = sym (over i (omega arith))
  all-range turn over (suc n) i e =
      let ih = all-range turn over n (i + 1) (omega arith) in
      let t = turn i (omega arith) in
      sym (rw (← ih) at t)

module _ (bs : List ℕ) where
  abbrev many : ℕ
  many = length bs / opening_size

  -- the channel number of the opening of an index, and whether one behind it has that number too
  abbrev pub number_in : (index : ℕ) → ℕ
  number_in k = field (opening_size * k + 8) 4 bs

  abbrev pub is_lone : (index : ℕ) → Bool
  is_lone k = not (is_some (channel_at (number_in k) (ends_from bs (k + 1))))

  pub number-any : (n i : ℕ) → list_any (λ (k : ℕ). eqb (number_in k) n) (range_with_len i (many - i))
      ≡ is_some (channel_at n (ends_from bs i))
  unfolding find
  number-any n i =
      let left : ℕ → Bool = λ (k : ℕ). is_some (channel_at n (ends_from bs k)) in
      any-range (λ (k : ℕ). eqb (number_in k) n) left many
      (λ k more. let t = number-turn bs k more n in cases (eqb (number_in k) n) (λ e. rw (t, e)) (λ e. rw (t, e)))
      (λ k over. rw (openings-over bs k over)) (many - i) i refl

  pub fit-all : list_all (λ (k : ℕ). opening_fits (opening_at bs k)) (range_with_len 0 many)
      ≡ all_openings_fit (openings_in bs)
  unfolding all_openings_fit ◌and◌
  fit-all =
      let left : ℕ → Bool = λ (k : ℕ). all_openings_fit (openings_from bs k) in
      let all = all-range (λ (k : ℕ). opening_fits (opening_at bs k)) left many
      (λ k more. let t = fit-turn bs k more in cases (opening_fits (opening_at bs k)) (λ e. rw (t, e)) (λ e. rw (t, e)))
      (λ k over. rw (openings-over bs k over)) many 0 (sub-zero many) in
      rw sub-zero at all

  pub distinct-all : list_all is_lone (range_with_len 0 many) ≡ distinct same_number (ends_of bs)
  unfolding distinct ◌and◌ ends_of
  distinct-all =
      let left : ℕ → Bool = λ (k : ℕ). distinct same_number (ends_from bs k) in
      let all = all-range is_lone left many
      (λ k more. let t = distinct-turn bs k more in cases (is_lone k) (λ e. rw (t, e)) (λ e. rw (t, e)))
      (λ k over. rw (openings-over bs k over)) many 0 (sub-zero many) in
      rw sub-zero at all
