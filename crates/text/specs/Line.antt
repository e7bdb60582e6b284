-- The lines of a transcript: a word or a number, a space, a number in decimal digits, and a newline.
use Rattle.std.specs.Prelude.{List, [], ◌∷◌, ◌++◌, ℕ, zero, suc, ◌+◌, ◌/◌, ◌%◌, ltb}
use Rattle.wire.specs.Choice.{pick}

-- at most so many decimal digits, the most significant first
unfoldable pub decimal : (digits value : ℕ) → List ℕ
decimal zero n = []
decimal (suc k) n = pick (ltb n 10) [] (decimal k (n / 10)) ++ ((48 + n % 10) ∷ [])

-- numbers here have 64 bits, and so at most 20 digits
abbrev pub decimal_of : ℕ → List ℕ
decimal_of n = decimal 20 n

abbrev pub tail_of : (number : ℕ) → List ℕ
tail_of n = (32 ∷ []) ++ (decimal_of n ++ (10 ∷ []))

abbrev pub line_of : (first : List ℕ) → (number : ℕ) → List ℕ
line_of w n = w ++ tail_of n

-- `open`, `end` and `torn`, in ASCII
abbrev pub open_word : List ℕ
open_word = 111 ∷ 112 ∷ 101 ∷ 110 ∷ []

abbrev pub end_word : List ℕ
end_word = 101 ∷ 110 ∷ 100 ∷ []

abbrev pub torn_word : List ℕ
torn_word = 116 ∷ 111 ∷ 114 ∷ 110 ∷ []
