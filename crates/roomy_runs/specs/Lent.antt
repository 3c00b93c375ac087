-- Issue 39, part 2: "a run with the room that its caller lends".
use Rattle.std.specs.Prelude.{ℕ, ◌+◌, Bool, false, cond, not, ◌&&◌, ◌||◌, List, [], ◌∷◌, ◌++◌, eqb, ltb, length}
use Rattle.model.specs.declared.Context.{Context}
use Rattle.model.specs.Context.{after_reset}
use Rattle.model.specs.Layouts.{kind_of, mapping_kind}
use Rattle.model.specs.Tables.{joined, only, count}
use Rattle.model.specs.Events.{event}
use Rattle.model.specs.Scopes.{next_context}
use Rattle.model.specs.Answers.{rule_with, creation}
use Rattle.model.specs.Steps.{in_scope}
use Rattle.runs.specs.Book.{Report}
use Rattle.roomy_runs.specs.Books.{roomy_answer}

-- the context in force, and the records of the table in the lent buffer
pub record Lent : Type 0 where
  pub context : Context
  pub records : List (List ℕ)

unfoldable pub lent_start : Context → Lent
lent_start c = record { context = after_reset c; records = [] }

unfoldable pub lent_table : Lent → List ℕ
lent_table s = joined s.records

-- "a creation that does not fit the lent buffers": one that the book with room notes, where the table with its record is
-- longer than the lent room
unfoldable pub overflows : ℕ → Lent → List ℕ → Bool
overflows room s e =
    eqb (roomy_answer s.context e) 0 && mapping_kind (kind_of e) && ltb room (length (lent_table s) + length e)

-- it "is reported as that", with document 01's number for it, which is given for nothing else here
unfoldable pub lent_answer : ℕ → Lent → List ℕ → ℕ
lent_answer room s e = cond (overflows room s e) 12 (roomy_answer s.context e)

-- "and changes nothing"; an accepted event leaves what is not in its scope, and a creation is added at the end
unfoldable pub lent_after : ℕ → Lent → List ℕ → Lent
lent_after room s e =
    cond (eqb (lent_answer room s e) 0)
    (record {
      context = next_context s.context (event e);
      records = only (λ r. not (in_scope s.context e r)) s.records ++ creation e;
    })
    s

unfoldable pub lent_report : ℕ → Lent → List ℕ → Report
lent_report room s e =
    record {
      answer = lent_answer room s e;
      rule = rule_with s.context e (lent_answer room s e);
      dropped = cond (eqb (lent_answer room s e) 0) (count (λ r. in_scope s.context e r) s.records) 0;
      context = (lent_after room s e).context;
    }

-- the reports on a list of events, the run after it, and whether a creation did not fit
unfoldable pub lent_reports : ℕ → Lent → List (List ℕ) → List Report
lent_reports room s [] = []
lent_reports room s (e ∷ es) = lent_report room s e ∷ lent_reports room (lent_after room s e) es

unfoldable pub lent_of : ℕ → Lent → List (List ℕ) → Lent
lent_of room s [] = s
lent_of room s (e ∷ es) = lent_of room (lent_after room s e) es

unfoldable pub overflowed : ℕ → Lent → List (List ℕ) → Bool
overflowed room s [] = false
overflowed room s (e ∷ es) = overflows room s e || overflowed room (lent_after room s e) es
