-- What the walk over a table tells.
use Rattle.std.specs.Prelude.{ℕ, true, ◌≡◌, List, eqb, length}
use Rattle.model.specs.Tables.{records}
use Rattle.model.specs.Answers.{valid_table}

-- it passes over all of a table exactly if that is valid at the linear width, and then it has counted the records
pub record Tells (w : ℕ) (t : List ℕ) (n k : ℕ) : Type 0 where
  pub valid : eqb n (length t) ≡ valid_table w t
  pub number : valid_table w t ≡ true → k ≡ length (records t)
