-- Rows about a line as text: numbers of one digit and of two, and the largest; the longest line.
use Rattle.std.specs.Prelude.{◌-◌, ◌^◌, [], ◌∷◌, ◌≡◌, refl, length}
use Rattle.lines.specs.Text.{decimal_within, decimal, line_text, line_limit}

-- Every row holds.
record Rows : Type 0 where
  small : line_text 9 10 99 0 ≡ 57 ∷ 32 ∷ 49 ∷ 48 ∷ 32 ∷ 57 ∷ 57 ∷ 32 ∷ 48 ∷ 10 ∷ []
  large : line_text (2 ^ 64 - 1) 0 12 45056
      ≡ 49 ∷ 56 ∷ 52 ∷ 52 ∷ 54 ∷ 55 ∷ 52 ∷ 52 ∷ 48 ∷ 55 ∷ 51 ∷ 55 ∷ 48 ∷ 57 ∷ 53 ∷ 53 ∷ 49 ∷ 54 ∷ 49 ∷ 53 ∷ 32 ∷ 48 ∷ 32 ∷ 49 ∷ 50 ∷ 32 ∷ 52 ∷ 53 ∷ 48 ∷ 53 ∷ 54 ∷ 10 ∷ []
  longest : length (line_text (2 ^ 64 - 1) (2 ^ 64 - 1) (2 ^ 64 - 1) (2 ^ 64 - 1)) ≡ line_limit

cards_hold : Rows
unfolding line_text decimal decimal_within
cards_hold = record { small = refl; large = refl; longest = refl }
