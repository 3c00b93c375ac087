-- Issue 39, part 3: "for each record in its order, the number in the log, from 1 and refused events counted, of the event
-- that created it".
use Rattle.std.specs.Prelude.{ℕ, suc, ◌+◌, Bool, cond, ◌&&◌, List, [], ◌∷◌, ◌++◌, map, eqb, ltb, length}
use Rattle.model.specs.declared.Context.{Context}
use Rattle.model.specs.Context.{after_reset}
use Rattle.model.specs.Layouts.{kind_of, mapping_kind}
use Rattle.model.specs.Tables.{joined}
use Rattle.model.specs.Events.{event}
use Rattle.model.specs.Scopes.{next_context}
use Rattle.runs.specs.Book.{Note}
use Rattle.roomy_runs.specs.Books.{roomy_answer}
use Rattle.origins.specs.Standing.{standing_of, kept_by, made_by}

-- a note, and the number of its event in the log
pub record Numbered : Type 0 where
  pub note : Note
  pub number : ℕ

-- the book with room (issue 39, part 2), that counts the events of the log and numbers its notes
pub record NumberedBook : Type 0 where
  pub context : Context
  pub events : ℕ
  pub notes : List Numbered

unfoldable pub numbered_start : Context → NumberedBook
numbered_start c = record { context = after_reset c; events = 0; notes = [] }

unfoldable pub numbered_note : Context → ℕ → List ℕ → Numbered
numbered_note c events e = record { note = record { context = c; event = e }; number = suc events }

unfoldable pub numbered_after : NumberedBook → List ℕ → NumberedBook
numbered_after b e =
    record {
      context = cond (eqb (roomy_answer b.context e) 0) (next_context b.context (event e)) b.context;
      events = suc b.events;
      notes = b.notes ++ cond (eqb (roomy_answer b.context e) 0) (numbered_note b.context b.events e ∷ []) [];
    }

unfoldable pub numbered_of : NumberedBook → List (List ℕ) → NumberedBook
numbered_of b [] = b
numbered_of b (e ∷ es) = numbered_of (numbered_after b e) es

-- the standing creations of a log with their numbers, and the origins alone
unfoldable pub standing_numbered : NumberedBook → List Numbered
standing_numbered b = standing_of (λ (x : Numbered). x.note) b.notes

unfoldable pub origins_of : NumberedBook → List ℕ
origins_of b = map (λ (x : Numbered). x.number) (standing_numbered b)

-- ---- "a lent list that the same pass carries along": the run with lent room, whose records have their origins

pub record NumberedRun : Type 0 where
  pub context : Context
  pub events : ℕ
  pub held : List Numbered

unfoldable pub numbered_run_start : Context → NumberedRun
numbered_run_start c = record { context = after_reset c; events = 0; held = [] }

unfoldable pub numbered_overflows : ℕ → NumberedRun → List ℕ → Bool
numbered_overflows room s e =
    eqb (roomy_answer s.context e) 0
    && mapping_kind (kind_of e)
    && ltb room (length (joined (map (λ (x : Numbered). x.note.event) s.held)) + length e)

unfoldable pub numbered_answer : ℕ → NumberedRun → List ℕ → ℕ
numbered_answer room s e = cond (numbered_overflows room s e) 12 (roomy_answer s.context e)

unfoldable pub numbered_run_after : ℕ → NumberedRun → List ℕ → NumberedRun
numbered_run_after room s e =
    record {
      context = cond (eqb (numbered_answer room s e) 0) (next_context s.context (event e)) s.context;
      events = suc s.events;
      held =
          cond (eqb (numbered_answer room s e) 0)
          (kept_by (λ (x : Numbered). x.note) (record { context = s.context; event = e }) s.held
          ++ made_by (λ (x : Numbered). x.note) (numbered_note s.context s.events e))
          s.held;
    }

unfoldable pub numbered_run_of : ℕ → NumberedRun → List (List ℕ) → NumberedRun
numbered_run_of room s [] = s
numbered_run_of room s (e ∷ es) = numbered_run_of room (numbered_run_after room s e) es
