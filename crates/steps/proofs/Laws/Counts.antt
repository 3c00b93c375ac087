-- The records after a step, by its answer.
use Rattle.std.specs.Prelude.{ℕ, List, ◌≡◌}
use borrow.Author.Tests.{ne_eqb}
use Rattle.model.specs.declared.Context.{Context}
use Rattle.model.specs.Tables.{records}
use Rattle.model.specs.Answers.{answer}
use Rattle.model.specs.Steps.{new_table}
use Rattle.steps.specs.Counts.{records_after}

module _ (c : Context) (t e : List ℕ) (room : ℕ) where
  pub records_after_accepted : answer c t e room ≡ 0 → records_after c t e room ≡ records (new_table c t e)
  unfolding records_after
  records_after_accepted zero = rw zero

  pub records_after_refused : {n : ℕ} → answer c t e room ≡ n → (n ≡ 0 → ⊥) → records_after c t e room ≡ records t
  unfolding records_after
  records_after_refused is some = rw (is, ne_eqb _ 0 some)
