-- A table in order is known by what is found in it; so the order in which records are written does not matter. Assumes
-- nothing.
use Rattle.wire.proofs.Prelude.{◌≡◌, refl, sym, ap, ◌∙◌, Bool, true, false, not, List, [], ◌∷◌, Option, none, some, ℕ}
use Rattle.wire.proofs.Prelude.{◌≤◌, arith, length}
use Rattle.wire.specs.Names.{pick}
use Rattle.wire.proofs.Laws.{clash, cases, none-if}
use Rattle.slots.specs.declared.Record.{Record}
use Rattle.slots.specs.Names.{Key, key_of, has_key, precedes, lookup, find, insert, has_free, free_slots, Store}
use Rattle.slots.specs.Names.{bytes_of}
use Rattle.slots.specs.Effect.{with_records}
use Rattle.slots.proofs.TableLaws.{Each, find-passes, each-find}
use Rattle.slots.proofs.RoomLaws.{has-free, free-place}
use Rattle.slots.proofs.OrderLaws.{Free, Rising, rising, find-free}
use Rattle.slots.proofs.KeyLaws.{key-of, has-key, strict, same-not-before}
use Rattle.slots.proofs.RecordLaws.{Single, Ordered, ordered-single, ordered-insert, lookup-insert}
use Rattle.slots.proofs.RecordLaws.{lookup-insert-other, length-insert}

-- KNOWN BY WHAT IS FOUND
free-alike : {A : Type 0} (xs ys : List (Option A)) → Free xs → Free ys → length xs ≡ length ys → xs ≡ ys
free-alike [] [] h k l = refl
free-alike [] (y ∷ ys) h k l = absurd (omega arith)
free-alike (x ∷ xs) [] h k l = absurd (omega arith)
free-alike {A} (none ∷ xs) (none ∷ ys) h k l =
    ap (λ (l : List (Option A)). none ∷ l) (free-alike xs ys h k (omega arith))
free-alike (some x ∷ xs) (y ∷ ys) h k l = absurd h
free-alike (none ∷ xs) (some y ∷ ys) h k l = absurd k

-- what stands first is found first
find-own : (x : Record) (xs : List (Option Record)) → lookup (key_of x) (some x ∷ xs) ≡ some x
unfolding find
find-own x xs = let o = has-key (key_of x) x refl in cc

-- what is found behind the first is preceded by it
preceded : (x y : Record) (ys : List (Option Record)) → Each (λ z. precedes y z ≡ true) ys →
    lookup (key_of x) (some y ∷ ys) ≡ some x → has_key (key_of x) y ≡ false → precedes y x ≡ true
unfolding find
preceded x y ys a f n = each-find (λ z. precedes y z ≡ true) (has_key (key_of x)) ys x a (cc)

-- a key that the first has is not behind it
not_behind : (k : Key) (x : Record) (xs : List (Option Record)) → Each (λ z. precedes x z ≡ true) xs →
    has_key k x ≡ true → lookup k xs ≡ none
not_behind k x xs a h =
    none-if (lookup k xs) (λ z e. clash (each-find (λ z. precedes x z ≡ true) (has_key k) xs z a e)
    (same-not-before x z (has-key (key_of x) z (key-of k z (find-passes (has_key k) xs z e) ∙ sym (key-of k x h)))))

same_first : (x y : Record) (xs ys : List (Option Record)) → Rising precedes (some x ∷ xs) →
    Rising precedes (some y ∷ ys) → ((k : Key) → lookup k (some x ∷ xs) ≡ lookup k (some y ∷ ys)) → x ≡ y
unfolding find
same_first x y xs ys h k f =
    cases (has_key (key_of x) y)
    (λ e. let a = f (key_of x) in let b = find-own x xs in cc)
    (λ e. cases (has_key (key_of y) x)
    (λ g. clash (has-key (key_of x) y (sym (key-of (key_of y) x g))) e)
    (λ g.
    let p = preceded x y ys k.0 (sym (f (key_of x)) ∙ find-own x xs) e in
    let q = preceded y x xs h.0 (f (key_of y) ∙ find-own y ys) g in
    clash (strict.onward x y x q p) (strict.not_own x)))

same_rest : (x y : Record) (xs ys : List (Option Record)) → x ≡ y → Rising precedes (some x ∷ xs) →
    Rising precedes (some y ∷ ys) → ((k : Key) → lookup k (some x ∷ xs) ≡ lookup k (some y ∷ ys)) → (k : Key) →
    lookup k xs ≡ lookup k ys
unfolding find
same_rest x y xs ys d h g f k =
    cases (has_key k x)
    (λ e. not_behind k x xs h.0 e ∙ sym (not_behind k y ys g.0 (ap (has_key k) (sym d) ∙ e)))
    (λ e. let a = f k in cc)

rising-alike : (xs ys : List (Option Record)) → Rising precedes xs → Rising precedes ys → length xs ≡ length ys →
    ((k : Key) → lookup k xs ≡ lookup k ys) → xs ≡ ys
unfolding find
rising-alike [] [] h g l f = refl
rising-alike [] (y ∷ ys) h g l f = absurd (omega arith)
rising-alike (x ∷ xs) [] h g l f = absurd (omega arith)
rising-alike (none ∷ xs) (none ∷ ys) h g l f =
    ap (λ (l : List (Option Record)). none ∷ l) (free-alike xs ys h g (omega arith))
rising-alike (none ∷ xs) (some y ∷ ys) h g l f =
    let a = f (key_of y) in
    let b = find-own y ys in
    let n = find-free (has_key (key_of y)) xs h in
    let z : ◌≡◌ {A = ℕ} 0 1 = cc in
    absurd (omega arith)
rising-alike (some x ∷ xs) (none ∷ ys) h g l f =
    let a = f (key_of x) in
    let b = find-own x xs in
    let n = find-free (has_key (key_of x)) ys g in
    let z : ◌≡◌ {A = ℕ} 0 1 = cc in
    absurd (omega arith)
rising-alike (some x ∷ xs) (some y ∷ ys) h g l f =
    let d = same_first x y xs ys h g f in
    let z = rising-alike xs ys h.1 g.1 (omega arith) (same_rest x y xs ys d h g f) in
    cc

-- two tables in order, of one length, in which the same is found by every key, are the same
pub ordered-alike : (xs ys : List (Option Record)) → Ordered xs → Ordered ys → length xs ≡ length ys →
    ((k : Key) → lookup k xs ≡ lookup k ys) → xs ≡ ys
ordered-alike xs ys h g l f = rising-alike xs ys (rising precedes strict xs h) (rising precedes strict ys g) l f

-- WHAT IS FOUND after a record is written
module _ (rs : List (Option Record)) (ordered : Ordered rs) where
  single : Single rs
  single = ordered-single rs ordered

  pub lookup-written : (r : Record) → has_free rs ≡ true → lookup (key_of r) rs ≡ none → (k : Key) →
      lookup k (insert r rs) ≡ pick (has_key k r) (some r) (lookup k rs)
  lookup-written r room absent k =
      cases (has_key k r)
      (λ e.
      rw e (ap (λ (q : Key). lookup q (insert r rs)) (sym (key-of k r e)) ∙ lookup-insert rs single r room absent))
      (λ e. rw e (lookup-insert-other rs single r room absent k (λ q. clash (has-key k r q) e)))

-- IN EITHER ORDER
swap-written : (k : Key) (a b : Record) (x : Option Record) → (key_of a ≡ key_of b → ⊥) →
    pick (has_key k a) (some a) (pick (has_key k b) (some b) x) ≡
    pick (has_key k b) (some b) (pick (has_key k a) (some a) x)
swap-written k a b x n = by (has_key k a) (has_key k b) (λ e f. n (key-of k a e ∙ sym (key-of k b f)))
  where
    by : (p q : Bool) → (p ≡ true → q ≡ true → ⊥) →
        pick p (some a) (pick q (some b) x) ≡ pick q (some b) (pick p (some a) x)
    by true true h = absurd (h refl refl)
    by true false h = refl
    by false q h = refl

module _ (rs : List (Option Record)) (ordered : Ordered rs) where
  -- Whatever the order in which two records come in, the table is the same: they have different keys, neither key was
  -- there, and there is room for both
  pub insert-insert : (a b : Record) → (key_of a ≡ key_of b → ⊥) → lookup (key_of a) rs ≡ none →
      lookup (key_of b) rs ≡ none → 2 ≤ free_slots rs → insert a (insert b rs) ≡ insert b (insert a rs)
  insert-insert a b n p q two =
      let room = has-free rs (omega arith) in
      let rooma = has-free (insert a rs) (omega (arith, free-place (λ x. not (precedes x a)) a rs room)) in
      let roomb = has-free (insert b rs) (omega (arith, free-place (λ x. not (precedes x b)) b rs room)) in
      let oa = ordered-insert a rs p ordered in
      let ob = ordered-insert b rs q ordered in
      let single = ordered-single rs ordered in
      let pb : lookup (key_of a) (insert b rs) ≡ none =
      lookup-insert-other rs single b room q (key_of a) (λ e. n (sym e)) ∙ p in
      let qa : lookup (key_of b) (insert a rs) ≡ none = lookup-insert-other rs single a room p (key_of b) n ∙ q in
      ordered-alike (insert a (insert b rs)) (insert b (insert a rs)) (ordered-insert a (insert b rs) pb ob)
      (ordered-insert b (insert a rs) qa oa)
      (length-insert a (insert b rs) ∙ length-insert b rs ∙ sym (length-insert b (insert a rs) ∙ length-insert a rs))
      (λ k.
      lookup-written (insert b rs) ob a roomb pb k ∙
      ap (pick (has_key k a) (some a)) (lookup-written rs ordered b room q k) ∙ swap-written k a b (lookup k rs) n ∙
      sym (lookup-written (insert a rs) oa b rooma qa k ∙
      ap (pick (has_key k b) (some b)) (lookup-written rs ordered a room p k)))

-- Whatever the order in which two records come in, every byte of the store is the same
pub bytes-insert-insert : (s : Store) → Ordered s.records → (a b : Record) → (key_of a ≡ key_of b → ⊥) →
    lookup (key_of a) s.records ≡ none → lookup (key_of b) s.records ≡ none → 2 ≤ free_slots s.records →
    bytes_of (with_records s (insert a (insert b s.records))) ≡
    bytes_of (with_records s (insert b (insert a s.records)))
bytes-insert-insert s ordered a b n p q two =
    ap (λ (rs : List (Option Record)). bytes_of (with_records s rs)) (insert-insert s.records ordered a b n p q two)
