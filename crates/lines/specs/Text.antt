-- Document 01, "One line per event: number from 1, answer, dropped, length of the table in force."
use Rattle.std.specs.Prelude.{ℕ, zero, suc, ◌+◌, ◌/◌, ◌%◌, cond, List, [], ◌∷◌, ◌++◌, ltb}

-- the decimal digits of a number in ASCII, at most as many as the first number says and one more
unfoldable pub decimal_within : ℕ → ℕ → List ℕ
decimal_within zero n = (48 + n % 10) ∷ []
decimal_within (suc k) n = cond (ltb n 10) ((48 + n) ∷ []) (decimal_within k (n / 10) ++ ((48 + n % 10) ∷ []))

-- the decimal digits of a number below 2^64, with no zero in front
unfoldable pub decimal : ℕ → List ℕ
decimal n = decimal_within 19 n

-- a number and the byte behind it
abbrev pub field : ℕ → ℕ → List ℕ
field n end = decimal n ++ (end ∷ [])

-- the four numbers of a line, parted by one space, and a line end
unfoldable pub line_text : ℕ → ℕ → ℕ → ℕ → List ℕ
line_text number answer dropped size =
    decimal number ++ (32 ∷ decimal answer) ++ (32 ∷ decimal dropped) ++ (32 ∷ decimal size) ++ (10 ∷ [])

-- the most bytes of a line: four numbers below 2^64 of at most 20 digits each, and the byte behind each
abbrev pub line_limit : ℕ
line_limit = 84
