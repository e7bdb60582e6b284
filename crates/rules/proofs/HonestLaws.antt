-- A list of calls is honest where a test says so that computes: of each call that carries verdicts, what the premises
-- look at is compared with what they look at of the others. Assumes nothing.
use Rattle.wire.proofs.Prelude.{◌≡◌, ap, subst, Bool, true, false, not, List, [], ◌∷◌, map, ℕ, zero, suc}
use Rattle.wire.proofs.Prelude.{◌<◌, some, get_elem?, drop, arith, leb, ltb, leb-true, ltb-true}
use Rattle.wire.proofs.Prelude.{le-leb, eq-eqb, not-true, ⊎_elim}
use borrow.Author.Tests.{lt-leb}
use Rattle.wire.specs.Names.{◌and◌, ◌or◌, pick, Every}
use Rattle.wire.proofs.Laws.{every_map, and_both, both-and, or-either, clash}
use Rattle.slots.specs.Names.{store_in}
use Rattle.datagram.specs.Names.{AnyVerdict, block_height, block_time}
use Rattle.rules.specs.Names.{claim_holds, every, Side, across, is_side, Call, store_after, is_accepted, verdicts_got}
use Rattle.rules.specs.Names.{height_of, time_of, AcceptedOn, is_up_to, TrueVerdict, Honest}
use Rattle.rules.proofs.History.{side-refl}

-- each element passes a test
abbrev pub are_all : {A : Type 0} → (A → Bool) → List A → Bool
are_all t [] = true
are_all t (x ∷ xs) = t x and are_all t xs

pub all-every : {A : Type 0} (t : A → Bool) (xs : List A) → are_all t xs ≡ true → Every (λ x. t x ≡ true) xs
all-every t [] h = tt
all-every t (x ∷ xs) h = ((and_both h).0, all-every t xs (and_both h).1)

all-mapped : {A B : Type 0} (t : B → Bool) (f : A → B) (xs : List A) → are_all t (map f xs) ≡ true →
    Every (λ x. t (f x) ≡ true) xs
all-mapped t f [] h = tt
all-mapped t f (x ∷ xs) h = ((and_both h).0, all-mapped t f xs (and_both h).1)

all-at : {A : Type 0} (t : A → Bool) (xs : List A) (i : ℕ) (x : A) → are_all t xs ≡ true → get_elem? xs i ≡ some x →
    t x ≡ true
all-at t [] i x h e = let z : ◌≡◌ {A = ℕ} 0 1 = cc in absurd (omega arith)
all-at t (y ∷ xs) zero x h e = let z : y ≡ x = cc in subst (λ y. t y ≡ true) z (and_both h).0
all-at t (y ∷ xs) (suc i) x h e = all-at t xs i x (and_both h).1 e

-- of those behind a place
all-behind : {A : Type 0} (t : A → Bool) (xs : List A) (i j : ℕ) (x : A) → are_all t (drop (suc i) xs) ≡ true → i < j →
    get_elem? xs j ≡ some x →
    t x ≡ true
all-behind t [] i j x h l e = let z : ◌≡◌ {A = ℕ} 0 1 = cc in absurd (omega arith)
all-behind t (y ∷ xs) i zero x h l e = absurd (omega arith)
all-behind t (y ∷ xs) zero (suc j) x h l e = all-at t xs j x h e
all-behind t (y ∷ xs) (suc i) (suc j) x h l e = all-behind t xs i j x h (omega arith) e

map_at : {A B : Type 0} (f : A → B) (xs : List A) (i : ℕ) (x : A) → get_elem? xs i ≡ some x →
    get_elem? (map f xs) i ≡ some (f x)
map_at f [] i x e = let z : ◌≡◌ {A = ℕ} 0 1 = cc in absurd (omega arith)
map_at f (y ∷ xs) zero x e = let z : y ≡ x = cc in ap (λ y. some (f y)) z
map_at f (y ∷ xs) (suc i) x e = map_at f xs i x e

-- WHAT IS SEEN of a verdict: its block, and whether its claim holds there; and of a call
pub record Block : Type 0 where
  pub height : ℕ
  pub time : ℕ
  pub holds : Bool

pub record Seen : Type 0 where
  pub side : Side
  pub accepted : Bool
  pub height : ℕ
  pub time : ℕ
  pub blocks : List Block

-- an accepted call of the ledger
abbrev is_accepted_of : Side → Seen → Bool
is_accepted_of z x = is_side z x.side and x.accepted

-- THE TEST: the block is closed, its time fits, and the claim holds
abbrev is_closed : Side → Block → Seen → Bool
is_closed z b x = not (is_accepted_of z x) or ltb b.height x.height

abbrev is_not_below : Block → Seen → Bool
is_not_below b x = leb x.time b.time

abbrev is_not_above : Block → Seen → Bool
is_not_above b x = leb b.time x.time

abbrev fits_time : Side → Block → Seen → Bool
fits_time z b x = not (is_accepted_of z x) or pick (leb x.height b.height) (is_not_below b x) (is_not_above b x)

abbrev is_true : (all behind : List Seen) → Side → Block → Bool
is_true xs ys z b = b.holds and are_all (is_closed z b) ys and are_all (fits_time z b) xs

abbrev are_true : (all xs : List Seen) → Bool
are_true all [] = true
are_true all (x ∷ xs) = are_all (is_true all xs (across x.side)) x.blocks and are_true all xs

abbrev pub is_honest : List Seen → Bool
is_honest xs = are_true xs xs

true-at : (all xs : List Seen) (i : ℕ) (x : Seen) → are_true all xs ≡ true → get_elem? xs i ≡ some x →
    are_all (is_true all (drop (suc i) xs) (across x.side)) x.blocks ≡ true
true-at all [] i x h e = let z : ◌≡◌ {A = ℕ} 0 1 = cc in absurd (omega arith)
true-at all (y ∷ xs) zero x h e =
    let z : y ≡ x = cc in subst (λ y. are_all (is_true all xs (across y.side)) y.blocks ≡ true) z (and_both h).0
true-at all (y ∷ xs) (suc i) x h e = true-at all xs i x (and_both h).1 e

module _ (start : Side → List ℕ) (cs : List Call) where
  abbrev block_of : Side → AnyVerdict → Block
  block_of z v =
      record {
        height = (block_height v).0;
        time = (block_time v).0;
        holds = claim_holds v (store_in (store_after (is_up_to z (block_height v)) (start z) cs));
      }

  abbrev pub seen : Call → Seen
  seen c =
      record {
        side = c.side;
        accepted = is_accepted c;
        height = (height_of c).0;
        time = (time_of c).0;
        blocks = pick (is_accepted c) (map (block_of (across c.side)) (verdicts_got c)) [];
      }

  -- what the test says of an accepted call
  tested : (z : Side) (j : ℕ) (e : Call) (b : Bool) → AcceptedOn z cs j e →
      (not (is_accepted_of z (seen e)) or b) ≡ true →
      b ≡ true
  tested z j e b a h =
      let o : is_accepted_of z (seen e) ≡ true =
      both-and (subst (λ (y : Side). is_side y e.side ≡ true) a.side (side-refl e.side))
      (eq-eqb e.told.number 0 a.told) in
      ⊎_elim (λ n. clash o (not-true (is_accepted_of z (seen e)) n)) (λ x. x) (or-either h)

  -- a verdict that passes it is true
  true-seen : (i : ℕ) (z : Side) (v : AnyVerdict) →
      is_true (map seen cs) (drop (suc i) (map seen cs)) z (block_of z v) ≡ true →
      TrueVerdict start cs i z v
  true-seen i z v t =
      record {
        closed = λ j e k l. let n = later j e k l in omega arith;
        not_below = λ j e k l. let n = leb-true (time_of e).0 _ (times j e k true (le-leb _ _ l)) in omega arith;
        not_above = λ j e k l. let n = leb-true _ (time_of e).0 (times j e k false (lt-leb _ _ l)) in omega arith;
        holds = (and_both (and_both t).0).0;
      }
    where
      block : Block
      block = block_of z v

      later : (j : ℕ) (e : Call) → AcceptedOn z cs j e → i < j → (block_height v).0 < (height_of e).0
      later j e k l =
          ltb-true _ _ (tested z j e _ k
          (all-behind (is_closed z block) (map seen cs) i j (seen e) (and_both (and_both t).0).1 l
          (map_at seen cs j e k.at)))

      times : (j : ℕ) (e : Call) → AcceptedOn z cs j e → (b : Bool) → leb (height_of e).0 (block_height v).0 ≡ b →
          pick b (is_not_below block (seen e)) (is_not_above block (seen e)) ≡ true
      times j e k b q =
          subst (λ (b : Bool). pick b (is_not_below block (seen e)) (is_not_above block (seen e)) ≡ true) q
          (tested z j e _ k
          (all-at (fits_time z block) (map seen cs) j (seen e) (and_both t).1 (map_at seen cs j e k.at)))

  pub honest-seen : is_honest (map seen cs) ≡ true → Honest every start cs
  honest-seen h i c at a p =
      every_map (true-seen i z) (verdicts_got c)
      (all-mapped (is_true (map seen cs) behind z) (block_of z) (verdicts_got c) t)
    where
      z : Side
      z = across c.side

      behind : List Seen
      behind = drop (suc i) (map seen cs)

      blocks : List Block
      blocks = map (block_of z) (verdicts_got c)

      t : are_all (is_true (map seen cs) behind z) blocks ≡ true
      t = subst (λ (b : Bool). are_all (is_true (map seen cs) behind z) (pick b blocks []) ≡ true) a
          (true-at (map seen cs) (map seen cs) i (seen c) h (map_at seen cs i c at))
