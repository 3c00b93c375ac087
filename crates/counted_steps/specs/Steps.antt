-- Document 02, Ask 7: the step beside a tally.
use Rattle.std.specs.Prelude.{ℕ, Bool, true, cond, not, List, [], ◌∷◌, ◌++◌, ◌≡◌, Result, IfOk, eqb, length}
use Rattle.model.specs.declared.Context.{Context}
use Rattle.model.specs.declared.Refusal.{Refusal}
use Rattle.model.specs.Buffers.{put}
use Rattle.model.specs.Tables.{records}
use Rattle.model.specs.Events.{event}
use Rattle.model.specs.Answers.{first, valid_here, table_grounds, event_grounds, no_room, rule_with}
use Rattle.model.specs.Steps.{new_table, accepted_step, refusal, refused_step}
use Rattle.model.specs.Refusals.{answer_of, rule_of}
use Rattle.tallies.specs.Tallies.{Tallied, pcid_counts}
use Rattle.tally_rows.specs.declared.KindCounts.{KindCounts}
use Rattle.tally_rows.specs.Rows.{kind_counts, matching}
use Rattle.counted_steps.specs.declared.CountedStep.{CountedStep}
use Rattle.counted_steps.specs.declared.Shown.{Shown}

-- the grounds of a context, a tally, an old table, an event and the length of the new buffer: "A tally that doesn't
-- match its old table is refused as answer 13, after 4 and before 5; document 01's lowest-number rule is amended there
-- only."
unfoldable pub counted_grounds : Context → List KindCounts → List ℕ → List ℕ → List ℕ → ℕ → List (ℕ × Bool)
counted_grounds c kinds pcids t e room =
    table_grounds c t
    ++ ((4, not (valid_here c e)) ∷ (13, not (matching kinds pcids (records t))) ∷ [])
    ++ event_grounds c (event e)
    ++ ((12, no_room room t e) ∷ [])

unfoldable pub counted_answer : Context → List KindCounts → List ℕ → List ℕ → List ℕ → ℕ → ℕ
counted_answer c kinds pcids t e room = first (counted_grounds c kinds pcids t e room)

-- what a table beside its tally shows of the answer to an event; where it is 0, the tally matches, and the number of
-- records and their counts are known
pub record Passed (c : Context) (kinds : List KindCounts) (pcids t : List ℕ) (r : Shown) : Type 0 where
  pub grounds : first (table_grounds c t) ≡ 0
  pub match : matching kinds pcids (records t) ≡ true
  pub number : r.records ≡ length (records t)
  pub tallied : Tallied (records t) r.cells pcids

pub record Shows (c : Context) (kinds : List KindCounts) (pcids t e : List ℕ) (room : ℕ) (r : Result Shown Refusal) : Type 0 where
  pub answer : answer_of r ≡ counted_answer c kinds pcids t e room
  pub rule : rule_of r ≡ rule_with c e (answer_of r)
  pub passed : IfOk r (Passed c kinds pcids t)

-- "a refused step leaves the tally"
abbrev pub counted_refusal : ℕ → ℕ → Context → List KindCounts → CountedStep
counted_refusal answer rule c kinds = record { step = refusal answer rule c; kinds = kinds }

-- "After every accepted step each count equals a fresh count of the new table"
unfoldable pub counted_stepped : Context → List KindCounts → List ℕ → List ℕ → List ℕ → ℕ → CountedStep
counted_stepped c kinds pcids t e room =
    let answer = counted_answer c kinds pcids t e room in
    cond (eqb answer 0)
    (record { step = accepted_step c t e; kinds = kind_counts (records (new_table c t e)) })
    (record { step = refused_step answer c e; kinds = kinds })

-- the counts by PCID after it
unfoldable pub counted_pcids : Context → List KindCounts → List ℕ → List ℕ → List ℕ → ℕ → List ℕ
counted_pcids c kinds pcids t e room =
    cond (eqb (counted_answer c kinds pcids t e room) 0) (pcid_counts (records (new_table c t e))) pcids

-- the new buffer after it
unfoldable pub counted_written : Context → List KindCounts → List ℕ → List ℕ → List ℕ → List ℕ → List ℕ
counted_written c kinds pcids t e buffer =
    cond (eqb (counted_answer c kinds pcids t e (length buffer)) 0) (put 0 (new_table c t e) buffer) buffer
