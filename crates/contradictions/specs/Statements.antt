-- What is proved of contradictions. The proofs are in Laws.
use Rattle.std.specs.Prelude.{ℕ, ◌≤◌, true, false, not, List, ◌≡◌, eqb}
use Rattle.model.specs.declared.Context.{Context}
use Rattle.model.specs.Context.{in_range}
use Rattle.model.specs.Answers.{valid_here}
use Rattle.roomy_runs.specs.Books.{roomy_answer}
use Rattle.contradictions.specs.Contradictions.{reports_deed, contradicts}

-- the two ways to contradict
pub data Contradiction (c : Context) (e : List ℕ) : Type 0 where
  no_event : roomy_answer c e ≡ 4 → Contradiction c e
  refused : reports_deed e ≡ true → 5 ≤ roomy_answer c e → roomy_answer c e ≤ 11 → Contradiction c e

-- In a context in its ranges: an event that reports what the processor did contradicts exactly if it is not accepted, any other
-- exactly if it is no valid event.
pub record Contradicts (c : Context) (e : List ℕ) : Type 0 where
  pub sound : contradicts c e ≡ true → Contradiction c e
  pub complete : Contradiction c e → contradicts c e ≡ true
  pub deeds : in_range c ≡ true → reports_deed e ≡ true → contradicts c e ≡ not (eqb (roomy_answer c e) 0)
  pub attempts : in_range c ≡ true → reports_deed e ≡ false → contradicts c e ≡ not (valid_here c e)

abbrev pub ContradictionsExact : Type 0
ContradictionsExact = (c : Context) (e : List ℕ) → Contradicts c e
