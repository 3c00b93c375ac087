-- Layouts as data: fields in order, each with its bytes, whatever tells the fields apart. One writer serves rows and the
-- bodies of records alike; bodies are read by `field` of the model's Layouts. Numbers are little-endian.
use Rattle.std.specs.Prelude.{ℕ, ◌+◌, cond, List, [], ◌∷◌, ◌++◌, eqb}
use Rattle.model.specs.Bits.{bytes}

-- how many bytes a layout has
abbrev pub total : {A : Type 0} → List (A × ℕ) → ℕ
total [] = 0
total (x ∷ xs) = x.1 + total xs

-- where a field starts in a layout, and how many bytes it has; 0 bytes where the layout lacks it. Fields are told apart
-- by a number
abbrev pub start : {A : Type 0} → (A → ℕ) → List (A × ℕ) → A → ℕ
start number_of_lem [] a = 0
start number_of_lem (x ∷ xs) a = cond (eqb (number_of_lem a) (number_of_lem x.0)) 0 (x.1 + start number_of_lem xs a)

abbrev pub size : {A : Type 0} → (A → ℕ) → List (A × ℕ) → A → ℕ
size number_of_lem [] a = 0
size number_of_lem (x ∷ xs) a = cond (eqb (number_of_lem a) (number_of_lem x.0)) x.1 (size number_of_lem xs a)

-- the bytes of a layout, each field with its value
unfoldable pub written : {A : Type 0} → (A → ℕ) → List (A × ℕ) → List ℕ
written value [] = []
written value (x ∷ xs) = bytes x.1 (value x.0) ++ written value xs
