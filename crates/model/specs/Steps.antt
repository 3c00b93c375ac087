-- Document 01, "Every step reads the old table, writes the new one into a second buffer, and reports
-- its length and the dropped count."
use Rattle.std.specs.Prelude.{ℕ, Bool, cond, not, List, ◌++◌, eqb, length}
use Rattle.model.specs.declared.Context.{Context}
use Rattle.model.specs.declared.Step.{Step}
use Rattle.model.specs.Buffers.{put}
use Rattle.model.specs.Mappings.{mapping}
use Rattle.model.specs.Tables.{records, joined, only, count}
use Rattle.model.specs.Events.{event}
use Rattle.model.specs.Scopes.{scope, next_context}
use Rattle.model.specs.Answers.{answer, rule_with, created, creation}

-- a record lies in the required scope of an event, judged in a context
abbrev pub in_scope : Context → List ℕ → List ℕ → Bool
in_scope c e r = scope c (event e) (mapping r)

-- the records of the table after an accepted event: the kept ones in order, and a creation
unfoldable pub new_records : Context → List ℕ → List ℕ → List (List ℕ)
new_records c t e = only (λ r. not (in_scope c e r)) (records t) ++ creation e

-- the table after an accepted event: the kept records in order, and a creation at the end
unfoldable pub new_table : Context → List ℕ → List ℕ → List ℕ
new_table c t e = joined (only (λ r. not (in_scope c e r)) (records t)) ++ created e

-- how many records an accepted event drops
unfoldable pub dropped_count : Context → List ℕ → List ℕ → ℕ
dropped_count c t e = count (λ r. in_scope c e r) (records t)

-- what the step of an accepted event hands back
unfoldable pub accepted_step : Context → List ℕ → List ℕ → Step
accepted_step c t e =
    record {
      answer = 0;
      rule = 0;
      context = next_context c (event e);
      length = length (new_table c t e);
      dropped = dropped_count c t e;
    }

-- "A refusal ... hands back the same context and reports 0 and 0."
abbrev pub refusal : ℕ → ℕ → Context → Step
refusal answer rule c = record { answer = answer; rule = rule; context = c; length = 0; dropped = 0 }

-- the step of an event that is refused with an answer
unfoldable pub refused_step : ℕ → Context → List ℕ → Step
refused_step answer c e = refusal answer (rule_with c e answer) c

unfoldable pub stepped : Context → List ℕ → List ℕ → ℕ → Step
stepped c t e room =
    cond (eqb (answer c t e room) 0) (accepted_step c t e) (refused_step (answer c t e room) c e)

-- the new buffer after a step: "A refusal writes nothing."
unfoldable pub written : Context → List ℕ → List ℕ → List ℕ → List ℕ
written c t e buffer = cond (eqb (answer c t e (length buffer)) 0) (put 0 (new_table c t e) buffer) buffer
