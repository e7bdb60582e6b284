-- Laws of a test of each slot of a table, turn by turn; and the tests of a fit store by its parts. Assumes nothing.
use mathlib.Core.Path.{◌≡◌, refl, sym, ap, subst, ◌∙◌}
use mathlib.Core.Bool.{Bool, true, false}
use mathlib.Core.List.{List, [], ◌∷◌, ◌++◌, map, append_assoc, append-nil}
use mathlib.Core.Option.{Option, none, some}
use Prim.Native.Nat.{ℕ, zero, suc, ◌+◌, ◌*◌, ◌≤◌, ◌<◌}
use native.Mathlib.Nat.{sub-zero, add-zero}
use native.Mathlib.Omega.{arith}
use lib.Dec.{leb}
use lib.ListN.{length, take, drop, length-drop, take-append-drop, drop_of_length-le}
use lib.Seq.{length-take-le, drop-drop}
use Rattle.std.specs.Bool.{MatchBool}
use Rattle.wire.specs.Choice.{◌and◌, ◌or◌}
use Rattle.wire.specs.Bytes.{same, are_zero, part, field, pieces, digest_size}
use Rattle.wire.proofs.ChoiceLaws.{cases, of-pick, and_assoc, and-true, and_comm, and-swap}
use Rattle.wire.proofs.BytesLaws.{eq-same, length_part, pieces-turn, pieces_end}
use Rattle.wire.proofs.PartLaws.{same-append}
use Rattle.slots.specs.declared.Channel.{Channel}
use Rattle.slots.specs.Limits.{channel_limit, version_size}
use Rattle.slots.specs.Table.{all, distinct, same_number}
use Rattle.slots.specs.Layout.{header_size, slot_size, records_from, room_in}
use Rattle.slots.specs.Layout.{channel_bytes, record_bytes, slot_bytes, table_bytes, header_bytes, bytes_of}
use Rattle.slots.specs.Layout.{channel_in, record_in, slot_in, table_in, store_in}
use Rattle.slots.specs.Scan.{slot_at, slots_from}
use Rattle.slots.specs.Fit.{channel_fits, channels_fit, is_below, numbers_fit, record_fits, entries_fit}
use Rattle.slots.specs.Fit.{size_fits, is_laid_out}
use Rattle.slots.proofs.LayoutLaws.{length-header, length-channel, length-record}
use Rattle.slots.proofs.FitLaws.{fits-size, length-read}
use Rattle.front.specs.EverySlot.{every_slot, fits_below, is_exact, is_lone, anywhere, slot_fits, front_fits}
use Rattle.front.proofs.FieldLaws.{same-zeros}

-- A TURN: after i turns the answer for all slots is the answer for those that are left. The test came to r
module _ (t : List ℕ → List (List ℕ) → Bool) (start n : ℕ) (bs : List ℕ) where
  abbrev pub every_from : (i : ℕ) → Bool
  every_from i = every_slot t (slots_from start n bs i)

  module _ (i : ℕ) {all : Bool} (left : all ≡ every_from i) where
    module _ {r : Bool} (more : i < n) (tested : r ≡ t (slot_at start bs i) (slots_from start n bs (i + 1))) where
      pub fails : r ≡ false → false ≡ all
      unfolding every_slot ◌and◌
      fails h = let f = sym tested ∙ h in rw (left, pieces-turn slot_size start n bs i more, f)

      pub passes : r ≡ true → all ≡ every_from (i + 1)
      unfolding every_slot ◌and◌
      passes h = let f = sym tested ∙ h in rw (left, pieces-turn slot_size start n bs i more, f)

    pub passed : n ≤ i → true ≡ all
    unfolding every_slot
    passed h = rw (left, pieces_end slot_size start n bs i h)

  -- an iterator over all indices asks whether each passes
  abbrev pub Tests : Bool → (i : ℕ) → Type 0
  Tests r i = t (slot_at start bs i) (slots_from start n bs (i + 1)) ≡ r

  up : (i : ℕ) → i ≤ n → ((k : ℕ) → k < i → Tests true k) → every_from 0 ≡ every_from i
  up zero l h = refl
  up (suc i) l h =
      let e : i + 1 ≡ suc i = omega arith in
      passes i (up i (omega arith) (λ k m. h k (omega arith))) (omega arith) refl (h i (omega arith)) ∙ ap every_from e

  down : (m i : ℕ) → i + m < n → Tests false (i + m) → false ≡ every_from i
  down zero i l h = fails i refl (omega arith) refl (rw add-zero at h)
  down (suc m) i l h =
      let e : i + suc m ≡ i + 1 + m = omega arith in
      cases (t (slot_at start bs i) (slots_from start n bs (i + 1)))
      (λ p. down m (i + 1) (omega arith) (subst (Tests false) e h) ∙ sym (passes i refl (omega arith) refl p))
      (λ p. fails i refl (omega arith) refl p)

  pub every-in : (r : Bool) →
      MatchBool r ((k : ℕ) → 0 ≤ k → k < n → Tests true k) ((k : ℕ) × (0 ≤ k) × (k < n) × Tests false k) →
      r ≡ every_from 0
  every-in true h = passed n (up n (omega arith) (λ k l. h k (omega arith) l)) (omega arith)
  every-in false h =
      let e : 0 + h.0 ≡ h.0 = omega arith in
      down h.0 0 (omega (arith, h.2)) (subst (Tests false) (sym e) h.3)

-- A SLOT: its bytes are zero; or q tells whether what is read there is exact and passes, and b tells of the other slots
module _ {A : Type 0} (write : A → List ℕ) (g : List ℕ → A) (t : A → Bool) (v : A → List (Option A) → Bool)
    (p : List ℕ) (ps : List (List ℕ)) {zero : Bool} (bytes : zero ≡ are_zero p) where
  pub slot-free : zero ≡ true → true ≡ slot_fits write g t v p ps
  unfolding slot_fits ◌or◌
  slot-free h = let z = sym bytes ∙ h in rw z

  pub slot-taken : zero ≡ false → {q b : Bool} → q ≡ (is_exact write g p and t (g p)) →
      b ≡ v (g p) (map (slot_in g) ps) → (q and b) ≡ slot_fits write g t v p ps
  unfolding slot_fits ◌or◌
  slot-taken h passes others = let z = sym bytes ∙ h in rw (z, passes, others)

-- A TABLE that is read, with any bytes behind it. `d` says of the whole table what `t` and `v` say of each entry
no-turn : (a : Bool) {b : Bool} → b ≡ true → (a and b) ≡ (true and a)
unfolding ◌and◌
no-turn a e = rw (e, and-true a)

and-turn : (a s d f d' : Bool) {q : Bool} → (a and d) ≡ (f and d') → (s and d') ≡ q → ((a and s) and d) ≡ (f and q)
and-turn a s d f d' {q} h k =
    rw (and_assoc a s d, and_comm s d, ← and_assoc a d s, h, and_assoc f d' s, and_comm d' s, k)

module _ {A : Type 0} (f : A → List ℕ) (g : List ℕ → A) (t : A → Bool) (v : A → List (Option A) → Bool)
    (d : List (Option A) → Bool) (empty : d [] ≡ true) (free : (xs : List (Option A)) → d (none ∷ xs) ≡ d xs)
    (taken : (x : A) (xs : List (Option A)) → d (some x ∷ xs) ≡ (t x and v x xs and d xs))
    (sized : (p : List ℕ) → length p ≡ slot_size → length (f (g p)) ≡ slot_size) where
  length-slot : (p : List ℕ) → length p ≡ slot_size → length (slot_bytes f (slot_in g p)) ≡ slot_size
  unfolding slot_bytes slot_in
  length-slot p l =
      of-pick (λ (x : Option A). length (slot_bytes f x) ≡ slot_size) (are_zero p) none (some (g p)) (λ e. refl)
      (λ e. sized p l)

  -- a slot more
  slot-more : (p : List ℕ) (ps : List (List ℕ)) → length p ≡ slot_size → let xs = map (slot_in g) ps in
      (same (slot_bytes f (slot_in g p)) p and d (slot_in g p ∷ xs)) ≡ (slot_fits f g t v p ps and d xs)
  unfolding slot_bytes slot_in slot_fits ◌and◌ ◌or◌
  slot-more p ps l =
      let xs : List (Option A) = map (slot_in g) ps in
      cases (are_zero p) (λ e. rw (slot_in, e, same-zeros slot_size p l, e, free xs))
      (λ e.
      rw (
        slot_in,
        e,
        taken (g p) xs,
        and_assoc (is_exact f g p) (t (g p)) (v (g p) xs),
        and_assoc (is_exact f g p) (t (g p) and v (g p) xs) (d xs),
      ))

  table_fits : (n : ℕ) (bs rest : List ℕ) → slot_size * n ≤ length bs → let xs = table_in g n bs in
      (same (table_bytes f xs ++ rest) bs and d xs) ≡
      (every_slot (slot_fits f g t v) (pieces slot_size n bs) and same rest (drop (slot_size * n) bs))
  unfolding table_bytes pieces every_slot
  table_fits zero bs rest l = no-turn (same rest bs) empty
  table_fits (suc n) bs rest l =
      let p : List ℕ = take slot_size bs in
      let bs' : List ℕ = drop slot_size bs in
      let x : List ℕ = slot_bytes f (slot_in g p) in
      let y : List ℕ = table_bytes f (table_in g n bs') in
      let e : slot_size * suc n ≡ slot_size + slot_size * n = omega arith in
      let lp : length p ≡ slot_size = length-take-le slot_size bs (omega arith) in
      let ih = table_fits n bs' rest (omega (arith, length-drop slot_size bs)) in
      let halves : same (x ++ y ++ rest) bs ≡ (same x p and same (y ++ rest) bs') =
      ap (λ (l : List ℕ). same l bs) (append_assoc x y rest) ∙
      ap (same (x ++ (y ++ rest))) (sym (take-append-drop slot_size bs)) ∙
      same-append x p (y ++ rest) bs' (length-slot p lp ∙ sym lp) in
      rw (
        halves,
        e,
        ← drop-drop (slot_size * n) slot_size bs,
        and_assoc (slot_fits f g t v p (pieces slot_size n bs')),
      )
      (and-turn (same x p) (same (y ++ rest) bs') _ _ _ (slot-more p (pieces slot_size n bs') lp) ih)

-- each entry passes, and no two have one name; or each passes, wherever it stands
module _ {A : Type 0} (f : A → List ℕ) (g : List ℕ → A) (t : A → Bool)
    (sized : (p : List ℕ) → length p ≡ slot_size → length (f (g p)) ≡ slot_size) (n : ℕ) (bs rest : List ℕ)
    (room : slot_size * n ≤ length bs) where
  apart_fits : (u : A → A → Bool) → let xs = table_in g n bs in
      (same (table_bytes f xs ++ rest) bs and (all t xs and distinct u xs)) ≡
      (every_slot (slot_fits f g t (is_lone u)) (pieces slot_size n bs) and same rest (drop (slot_size * n) bs))
  unfolding all distinct ◌and◌
  apart_fits u =
      table_fits f g t (is_lone u) (λ xs. all t xs and distinct u xs) refl (λ xs. refl)
      (λ x xs. and-swap (t x) (all t xs) (is_lone u x xs) (distinct u xs)) sized n bs rest room

  all_fit : let xs = table_in g n bs in
      (same (table_bytes f xs ++ rest) bs and all t xs) ≡
      (every_slot (slot_fits f g t anywhere) (pieces slot_size n bs) and same rest (drop (slot_size * n) bs))
  unfolding all
  all_fit = table_fits f g t anywhere (all t) refl (λ xs. refl) (λ x xs. rw and-true) sized n bs rest room

-- THE STORE: the header, and each slot of its two tables
record-size : (p : List ℕ) → length p ≡ slot_size → length (record_bytes (record_in p)) ≡ slot_size
unfolding record_in
record-size p l = length-record (record_in p) (length_part 32 digest_size p (omega arith))

channel-size : (p : List ℕ) → length p ≡ slot_size → length (channel_bytes (channel_in p)) ≡ slot_size
unfolding channel_in
channel-size p l = length-channel (channel_in p) (length_part 40 version_size p (omega arith))

-- both tests of a channel end are asked in one scan
all_both : {A : Type 0} (t u v : A → Bool) → ((x : A) → v x ≡ (t x and u x)) → (xs : List (Option A)) →
    all v xs ≡ (all t xs and all u xs)
unfolding all
all_both t u v h [] = sym (and-true true)
all_both t u v h (none ∷ xs) = all_both t u v h xs
all_both t u v h (some x ∷ xs) = rw (h x, all_both t u v h xs) (and-swap (t x) (u x) (all t xs) (all u xs))

channels-below : (n : ℕ) (cs : List (Option Channel)) →
    (channels_fit cs and numbers_fit n cs) ≡ (leb 1 n and (all (fits_below n) cs and distinct same_number cs))
unfolding channels_fit numbers_fit fits_below
channels-below n cs =
    let t : Bool = all channel_fits cs in
    let b : Bool = all (is_below n) cs in
    let d : Bool = distinct same_number cs in
    let l : Bool = leb 1 n in
    rw (
      all_both channel_fits (is_below n) (fits_below n) (λ c. refl) cs,
      and_comm l b,
      and-swap t d b l,
      and_comm (t and b) (d and l),
      and_comm d l,
      and_assoc l d (t and b),
      and_comm d (t and b),
    )

two-tables : (h a l b c d e : Bool) {q : Bool} → (a and b) ≡ (c and d) → (d and e) ≡ q →
    (h and a and (l and b and e)) ≡ (h and l and c and q)
two-tables h a l b c d e {q} first second =
    rw (
      and_assoc l b e,
      and-swap h a l (b and e),
      ← and_assoc a b e,
      first,
      and_assoc c d e,
      second,
      ← and_assoc (h and l) c q,
    )

pub entries-parts : (bs : List ℕ) → size_fits (length bs) ≡ true →
    let n = room_in (length bs) in
    (is_laid_out bs and entries_fit (store_in bs)) ≡
    (front_fits bs n and
    every_slot (slot_fits record_bytes record_in (record_fits (store_in bs)) anywhere) (slots_from records_from n bs 0))
unfolding is_laid_out entries_fit bytes_of store_in part front_fits ◌and◌
entries-parts bs fits =
    let n : ℕ = room_in (length bs) in
    let m : ℕ = field 28 8 bs in
    let size = (fits-size (length bs) fits).whole in
    let c : List ℕ = table_bytes channel_bytes (store_in bs).channels in
    let r : List ℕ = table_bytes record_bytes (store_in bs).records in
    let h : List ℕ = header_bytes (field 8 8 bs) (field 16 8 bs) n m in
    let front : List ℕ = take header_size bs in
    let tables : List ℕ = drop header_size bs in
    let last : List ℕ = drop records_from bs in
    let lf : length front ≡ header_size = length-take-le header_size bs (omega arith) in
    let lt : length tables ≡ slot_size * channel_limit + slot_size * n = omega (arith, length-drop header_size bs) in
    let ll : length last ≡ slot_size * n = omega (arith, length-drop records_from bs) in
    let whole : same (h ++ (c ++ r)) bs ≡ (same h front and same (c ++ r) tables) =
    ap (same (h ++ (c ++ r))) (sym (take-append-drop header_size bs)) ∙
    same-append h front (c ++ r) tables (length-header (field 8 8 bs) (field 16 8 bs) n m ∙ sym lf) in
    let all = drop_of_length-le last {i = slot_size * n} (omega arith) in
    let channels = apart_fits channel_bytes channel_in (fits_below m) channel-size channel_limit tables r (omega arith)
    same_number in
    let records = all_fit record_bytes record_in (record_fits (store_in bs)) record-size n last [] (omega arith) in
    rw (fits, length-read record_in n last, sub-zero n, whole, channels-below m (store_in bs).channels)
    (two-tables (same h front) _ (leb 1 m) _ _ _ _ (rw (drop-drop (slot_size * channel_limit) header_size bs) at channels)
    (rw (append-nil, all, eq-same [], and-true) at records))
