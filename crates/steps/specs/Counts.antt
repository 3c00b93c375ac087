-- Document 02, Ask 7: the records that a step leaves, which a tally counts.
use Rattle.std.specs.Prelude.{ℕ, cond, List, eqb}
use Rattle.model.specs.declared.Context.{Context}
use Rattle.model.specs.Tables.{records}
use Rattle.model.specs.Answers.{answer}
use Rattle.model.specs.Steps.{new_table}

-- the records of the table after a step
unfoldable pub records_after : Context → List ℕ → List ℕ → ℕ → List (List ℕ)
records_after c t e room = cond (eqb (answer c t e room) 0) (records (new_table c t e)) (records t)
