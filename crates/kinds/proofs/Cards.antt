-- Rows about numbers by kind and the places of fields, all under one statement.
use Rattle.std.specs.Prelude.{◌+◌, ◌*◌, [], ◌∷◌, map, ◌≡◌, refl}
use Rattle.model.specs.Layouts.{Field, body_of}
use Rattle.kinds.specs.Places.{number_at, place_of}

-- Every row holds.
record Rows : Type 0 where
  numbers : map (number_at (1 + 32 * (2 + 32 * (3 + 32 * 31)))) (0 ∷ 1 ∷ 2 ∷ 3 ∷ 4 ∷ []) ≡ 1 ∷ 2 ∷ 3 ∷ 31 ∷ 0 ∷ []
  spans : map (place_of Field.span) (1 ∷ 2 ∷ 3 ∷ 4 ∷ 5 ∷ 6 ∷ 7 ∷ 8 ∷ 9 ∷ 10 ∷ 11 ∷ []) ≡ 6 ∷ 6 ∷ 6 ∷ 5 ∷ 6 ∷ 5 ∷ 6 ∷ 6 ∷ 5 ∷ 5 ∷ 0 ∷ []
  ep4tas : map (place_of Field.ep4ta) (1 ∷ 2 ∷ 3 ∷ 4 ∷ 5 ∷ 6 ∷ 7 ∷ 8 ∷ 9 ∷ 10 ∷ []) ≡ 0 ∷ 1 ∷ 17 ∷ 0 ∷ 1 ∷ 16 ∷ 0 ∷ 18 ∷ 0 ∷ 17 ∷ []

cards_hold : Rows
unfolding body_of place_of
cards_hold = record { numbers = refl; spans = refl; ep4tas = refl }
