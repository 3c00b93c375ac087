-- The length of a record of a linear width.
use Rattle.std.specs.Prelude.{ℕ, cond, List}
use Rattle.model.specs.Layouts.{kind_of}
use Rattle.model.specs.Mappings.{other_width, record_length}

-- the length of the record at the front of r; 0 where none starts there, or one of the other width
unfoldable pub length_at : ℕ → List ℕ → ℕ
length_at width r = cond (other_width width (kind_of r)) 0 (record_length r)
