-- Lists of bytes, and the numbers in them: unsigned, little-endian, of any width.
use Rattle.std.specs.Prelude.{Bool, true, false, List, [], ◌∷◌, ℕ, zero, suc, ◌+◌, ◌*◌, ◌/◌, ◌%◌, ◌<◌, eqb, take, drop, set, replicate}
use Rattle.wire.specs.Choice.{◌and◌}

-- every element has a property
abbrev pub Every : {A : Type 0} → (A → Type 0) → List A → Type 0
Every P [] = Unit {0}
Every P (x ∷ xs) = P x × Every P xs

-- every element is a byte
abbrev pub Bytes : List ℕ → Type 0
Bytes bs = Every (λ (b : ℕ). b < 256) bs

unfoldable pub same : List ℕ → List ℕ → Bool
same [] [] = true
same [] (y ∷ ys) = false
same (x ∷ xs) [] = false
same (x ∷ xs) (y ∷ ys) = eqb x y and same xs ys

unfoldable pub are_zero : List ℕ → Bool
are_zero [] = true
are_zero (b ∷ bs) = eqb b 0 and are_zero bs

-- a number as `size` bytes, the lowest first; and back
unfoldable pub little : (size value : ℕ) → List ℕ
little zero x = []
little (suc n) x = x % 256 ∷ little n (x / 256)

unfoldable pub number_of : List ℕ → ℕ
number_of [] = 0
number_of (b ∷ bs) = b + 256 * number_of bs

-- `size` bytes from a place, and the number in them
unfoldable pub part : (from size : ℕ) → List ℕ → List ℕ
part i n bs = take n (drop i bs)

unfoldable pub field : (from size : ℕ) → List ℕ → ℕ
field i n bs = number_of (part i n bs)

-- the same number of bytes, with `new` stored over them from a place on; what would come behind the end is left out
unfoldable pub patch : (from : ℕ) → (new : List ℕ) → List ℕ → List ℕ
patch i [] bs = bs
patch i (x ∷ xs) bs = patch (suc i) xs (set bs i x)

-- the first `count` pieces of `size` bytes each
unfoldable pub pieces : (size count : ℕ) → List ℕ → List (List ℕ)
pieces k zero bs = []
pieces k (suc n) bs = take k bs ∷ pieces k n (drop k bs)

-- digests have 32 bytes
abbrev pub digest_size : ℕ
digest_size = 32

abbrev pub no_digest : List ℕ
no_digest = replicate digest_size 0
