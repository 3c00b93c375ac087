-- The standing ones of whatever carries a note: notes, notes with a number, and notes with an owner share these definitions
-- and one set of laws. With a note as that which carries it, this is document 01's "standing records".
use Rattle.std.specs.Prelude.{Bool, cond, not, List, [], ◌∷◌, map}
use Rattle.model.specs.Layouts.{kind_of, mapping_kind}
use Rattle.model.specs.Steps.{in_scope}
use Rattle.runs.specs.Book.{Note, stands}

-- those of which a test holds, in order
unfoldable pub those : {A : Type 0} → (A → Bool) → List A → List A
those p [] = []
those p (x ∷ xs) = cond (p x) (x ∷ those p xs) (those p xs)

-- what a removal leaves: it says of each, by its place, whether it goes; those past its end stay
unfoldable pub remaining : {A : Type 0} → List Bool → List A → List A
remaining [] xs = xs
remaining (gone ∷ later) [] = []
remaining (gone ∷ later) (x ∷ xs) = cond gone (remaining later xs) (x ∷ remaining later xs)

-- an in-order part of a list
pub data Part {A : Type 0} : List A → List A → Type 0 where
  done : Part [] []
  skip : {x : A} {part xs : List A} → Part part xs → Part part (x ∷ xs)
  keep : {x : A} {part xs : List A} → Part part xs → Part (x ∷ part) (x ∷ xs)

-- "the noted creations in order, less each one in the required scope of an event noted later"
unfoldable pub standing_of : {A : Type 0} → (A → Note) → List A → List A
standing_of note [] = []
standing_of note (x ∷ later) = cond (stands (note x) (map note later)) (x ∷ standing_of note later) (standing_of note later)

-- what an accepted event leaves of those that are held, and what it adds: a creation itself
unfoldable pub kept_by : {A : Type 0} → (A → Note) → Note → List A → List A
kept_by note n xs = those (λ y. not (in_scope n.context n.event (note y).event)) xs

unfoldable pub made_by : {A : Type 0} → (A → Note) → A → List A
made_by note x = cond (mapping_kind (kind_of (note x).event)) (x ∷ []) []
