-- Laws of bytes stored over bytes. Assumes nothing.
use mathlib.Core.Path.{◌≡◌, refl, sym, ◌∙◌}
use mathlib.Core.List.{List, [], ◌∷◌, ◌++◌, append_assoc}
use Prim.Native.Nat.{ℕ, suc, ◌+◌, ◌-◌, ◌≤◌, ◌<◌}
use native.Mathlib.Nat.{add-suc, suc-add, add-zero, zero-add}
use native.Mathlib.Omega.{arith}
use lib.ListN.{length, set, take, drop, replicate, length-set, length-drop, take-append-drop, length-append, length-replicate, replicate-append-replicate}
use lib.Seq.{set_comm, set-append_left, length-take-le, sets, sets-eq, length-sets, drop_at}
use Rattle.wire.specs.Bytes.{part, patch}
use Rattle.wire.proofs.BytesLaws.{length-little, length_part}

-- as the library says it
patch-sets : (i : ℕ) (xs bs : List ℕ) → patch i xs bs ≡ sets bs i xs
unfolding patch
patch-sets i [] bs = refl
patch-sets i (x ∷ xs) bs = patch-sets (suc i) xs (set bs i x)

pub length-patch : (i : ℕ) (xs bs : List ℕ) → length (patch i xs bs) ≡ length bs
length-patch i xs bs = rw (patch-sets i xs bs) (length-sets bs i xs)

-- within the bytes
pub patch-within : (i : ℕ) (xs bs : List ℕ) → i + length xs ≤ length bs →
    patch i xs bs ≡ take i bs ++ (xs ++ drop (i + length xs) bs)
patch-within i xs bs h =
    rw (patch-sets i xs bs, sets-eq xs bs i h, append_assoc (take i bs) xs (drop (i + length xs) bs))

pub patch-append : (i : ℕ) (xs ys bs : List ℕ) → patch i (xs ++ ys) bs ≡ patch (i + length xs) ys (patch i xs bs)
unfolding patch
patch-append i [] ys bs = rw add-zero
patch-append i (x ∷ xs) ys bs = rw (patch-append (suc i) xs ys (set bs i x), add-suc, suc-add)

-- one store right behind another of n bytes
pub patch-then : (i n : ℕ) (xs ys bs : List ℕ) → length xs ≡ n
    → patch (i + n) ys (patch i xs bs) ≡ patch i (xs ++ ys) bs
patch-then i n xs ys bs l = rw (patch-append i xs ys bs, l)

pub patch-more : (i n x : ℕ) (xs bs : List ℕ) → length xs ≡ n
    → set (patch i xs bs) (i + n) x ≡ patch i (xs ++ (x ∷ [])) bs
unfolding patch
patch-more i n x xs bs l = patch-then i n xs (x ∷ []) bs l

-- so a row of them is stored one by one
pub ruleset one_by_one = (patch-append, length-append, length-little)

-- WHERE A PATCH LIES
patch-cons : (i b : ℕ) (xs bs : List ℕ) → patch (suc i) xs (b ∷ bs) ≡ b ∷ patch i xs bs
unfolding patch
patch-cons i b [] bs = refl
patch-cons i b (x ∷ xs) bs = patch-cons (suc i) b xs (set bs i x)

-- behind a head
pub patch-behind : (ps : List ℕ) (i : ℕ) (xs bs : List ℕ) → patch (length ps + i) xs (ps ++ bs) ≡ ps ++ patch i xs bs
patch-behind [] i xs bs = rw zero-add
patch-behind (p ∷ ps) i xs bs =
    rw (suc-add (length ps) i, patch-cons (length ps + i) p xs (ps ++ bs), patch-behind ps i xs bs)

-- over a whole head
pub patch-front : (xs ys bs : List ℕ) → length xs ≡ length ys → patch 0 xs (ys ++ bs) ≡ xs ++ bs
patch-front xs ys bs l =
    let room : 0 + length xs ≤ length (ys ++ bs) = omega (arith, length-append ys bs) in
    let end : length ys ≡ 0 + length xs = omega arith in
    rw (patch-within 0 xs (ys ++ bs) room, drop_at ys bs (0 + length xs) end)

-- over zeros: the rest of them stays
pub patch-zeros : (n : ℕ) (xs : List ℕ) → length xs ≤ n →
    patch 0 xs (replicate n 0) ≡ xs ++ replicate (n - length xs) 0
patch-zeros n xs h =
    let k : ℕ = length xs in
    let split = replicate-append-replicate {A = ℕ} k (n - k) 0 in
    let whole : k + (n - k) ≡ n = omega arith in
    let front = patch-front xs (replicate k 0) (replicate (n - k) 0) (sym (length-replicate k 0)) in
    rw (split, whole) at front

-- over the whole middle of three
pub patch-middle : (i : ℕ) (xs ps qs rs : List ℕ) → length ps ≡ i → length xs ≡ length qs
    → patch i xs (ps ++ (qs ++ rs)) ≡ ps ++ (xs ++ rs)
patch-middle i xs ps qs rs l m =
    let z : i ≡ length ps + 0 = omega arith in
    rw (z, patch-behind ps 0 xs (qs ++ rs), patch-front xs qs rs m)

-- two that do not meet, in either order
patch-set : (i x j : ℕ) (ys bs : List ℕ) → i < j → patch j ys (set bs i x) ≡ set (patch j ys bs) i x
unfolding patch
patch-set i x j [] bs h = refl
patch-set i x j (y ∷ ys) bs h =
    rw (set_comm bs i j x y (λ e. omega arith)) (patch-set i x (suc j) ys (set bs j y) (omega arith))

pub patch-apart : (i j : ℕ) (xs ys bs : List ℕ) → i + length xs ≤ j
    → patch i xs (patch j ys bs) ≡ patch j ys (patch i xs bs)
unfolding patch
patch-apart i j [] ys bs h = refl
patch-apart i j (x ∷ xs) ys bs h =
    rw (← patch-set i x j ys bs (omega arith)) (patch-apart (suc i) j xs ys (set bs i x) (omega arith))

-- within the first of two, and within a part that is stored back
patch-left : (j : ℕ) (ys qs rs : List ℕ) → j + length ys ≤ length qs → patch j ys (qs ++ rs) ≡ patch j ys qs ++ rs
unfolding patch
patch-left j [] qs rs h = refl
patch-left j (y ∷ ys) qs rs h =
    rw (set-append_left qs rs j y (omega arith))
    (patch-left (suc j) ys (set qs j y) rs (omega (arith, length-set qs j y)))

inner : (i j : ℕ) (ys ps qs rs : List ℕ) → length ps ≡ i → j + length ys ≤ length qs →
    patch i (patch j ys qs) (ps ++ (qs ++ rs)) ≡ patch (i + j) ys (ps ++ (qs ++ rs))
inner i j ys ps qs rs l h =
    patch-middle i (patch j ys qs) ps qs rs l (length-patch j ys qs) ∙
    sym (rw (← l, patch-behind ps j ys (qs ++ rs), patch-left j ys qs rs h))

pub patch-inner : (i j m : ℕ) (ys bs : List ℕ) → i + m ≤ length bs → j + length ys ≤ m →
    patch i (patch j ys (part i m bs)) bs ≡ patch (i + j) ys bs
unfolding part
patch-inner i j m ys bs h k =
    let qs : List ℕ = take m (drop i bs) in
    let whole : take i bs ++ (qs ++ drop m (drop i bs)) ≡ bs = rw (take-append-drop m (drop i bs), take-append-drop i bs) in
    let l : length qs ≡ m = length-take-le m (drop i bs) (omega (arith, length-drop i bs)) in
    rw whole at
    (inner i j ys (take i bs) qs (drop m (drop i bs)) (length-take-le i bs (omega arith)) (omega arith))
