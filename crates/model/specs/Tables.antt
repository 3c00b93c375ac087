-- Document 01, "A table is records end to end, at most 45,056 bytes, possibly none." Document 02, Ask 12,
-- makes that 47,104.
use Rattle.std.specs.Prelude.{ℕ, zero, suc, Bool, true, cond, not, ◌&&◌, List, [], ◌∷◌, ◌++◌, eqb, length, take, drop}
use Rattle.model.specs.Layouts.{kind_of}
use Rattle.model.specs.Mappings.{other_width, record_length}

-- the most bytes that a table has
abbrev pub limit : ℕ
limit = 47104

-- records end to end, as one list of bytes
unfoldable pub joined : List (List ℕ) → List ℕ
joined [] = []
joined (r ∷ rs) = r ++ joined rs

-- the first n bytes of t as a record before the others; none where n is 0
unfoldable pub cut : ℕ → List ℕ → List (List ℕ) → List (List ℕ)
cut zero t rs = []
cut (suc n) t rs = take (suc n) t ∷ rs

-- the records at the front of t, at most as many as the first number says
unfoldable pub records_within : ℕ → List ℕ → List (List ℕ)
records_within zero t = []
records_within (suc n) t = cut (record_length t) t (records_within n (drop (record_length t) t))

-- the records at the front of t, up to its end or to the first place where no valid record starts
unfoldable pub records : List ℕ → List (List ℕ)
records t = records_within (length t) t

-- t is whole, valid records, of either linear width: those at its front are all of it
unfoldable pub whole : List ℕ → Bool
whole t = eqb (length (joined (records t))) (length t)

-- none of the records is one of the other linear width (Ask 12)
unfoldable pub of_width : ℕ → List (List ℕ) → Bool
of_width width [] = true
of_width width (r ∷ rs) = not (other_width width (kind_of r)) && of_width width rs

-- the records of which a test holds, in order; and how many they are
unfoldable pub only : (List ℕ → Bool) → List (List ℕ) → List (List ℕ)
only p [] = []
only p (r ∷ rs) = cond (p r) (r ∷ only p rs) (only p rs)

unfoldable pub count : (List ℕ → Bool) → List (List ℕ) → ℕ
count p rs = length (only p rs)
