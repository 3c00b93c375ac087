-- Document 02, Ask 7: "Asks 1 and 8 and demand 3's book judge with a matching tally." The explainer, the judge and the book are
-- handed no tally. What they say is what the step that carries a matching one says, and none of them names 13.
use Rattle.std.specs.Prelude.{ℕ, true, List, ◌≡◌}
use Rattle.model.specs.declared.Context.{Context}
use Rattle.model.specs.declared.Reason.TheVariants.{InScope}
use Rattle.model.specs.Tables.{limit, records}
use Rattle.model.specs.Reasons.{one_record, Accepted, explanation, explanation_answer}
use Rattle.tally_rows.specs.declared.KindCounts.{KindCounts}
use Rattle.tally_rows.specs.Rows.{matching}
use Rattle.counted_steps.specs.Steps.{counted_stepped}
use Rattle.runs.specs.Book.{Book, book_answer}
use Rattle.claims.specs.Claims.{judgement, judgement_values}

-- Ask 1: ""in scope" is said exactly if the step drops the record", of the step that carries a tally. With a tally that matches
-- the table of that record alone, it drops what is said to be in scope; and what it drops, whatever the tally, is in scope.
pub record ExplainsCounted (c : Context) (kinds : List KindCounts) (pcids r e : List ℕ) : Type 0 where
  pub drops : matching kinds pcids (records r) ≡ true → explanation c r e ≡ Accepted InScope
      → (one_record c.linear_width r ≡ true) × ((counted_stepped c kinds pcids r e limit).step.dropped ≡ 1)
  pub in_scope : one_record c.linear_width r ≡ true → (counted_stepped c kinds pcids r e limit).step.dropped ≡ 1 → explanation c r e ≡ Accepted InScope

abbrev pub ExplainsCountedAlways : Type 0
ExplainsCountedAlways = (c : Context) (kinds : List KindCounts) (pcids r e : List ℕ) → ExplainsCounted c kinds pcids r e

-- a refusal that the explainer, the judge or the book names is never 13
pub record NeverThirteen (e : List ℕ) : Type 0 where
  pub explained : (c : Context) (r : List ℕ) → explanation_answer (explanation c r e) ≡ 13 → ⊥
  pub judged : (c : Context) (t claim : List ℕ) → (judgement_values (judgement c t e claim)).answer ≡ 13 → ⊥
  pub booked : (b : Book) → book_answer b e ≡ 13 → ⊥

abbrev pub Never13 : Type 0
Never13 = (e : List ℕ) → NeverThirteen e
