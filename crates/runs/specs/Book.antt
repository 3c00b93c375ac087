-- Document 01, "Whole runs": the book. "The book" is the document's own term for what is right of a
-- whole run: it is fed the events alone, and keeps notes of those accepted.
use Rattle.std.specs.Prelude.{ℕ, ◌+◌, Bool, false, cond, not, ◌&&◌, ◌||◌, List, [], ◌∷◌, ◌++◌, eqb}
use Rattle.model.specs.declared.Context.{Context}
use Rattle.model.specs.Context.{after_reset}
use Rattle.model.specs.Layouts.{kind_of, mapping_kind}
use Rattle.model.specs.Tables.{limit, joined}
use Rattle.model.specs.Events.{event}
use Rattle.model.specs.Scopes.{next_context}
use Rattle.model.specs.Answers.{answer, rule_with}
use Rattle.model.specs.Steps.{in_scope}

-- an accepted event, and the context just before it
pub record Note : Type 0 where
  pub context : Context
  pub event : List ℕ

-- the record lies in the required scope of one of the notes, "judged in the context noted with that
-- event"
unfoldable pub taken_by : List Note → List ℕ → Bool
taken_by [] r = false
taken_by (n ∷ ns) r = in_scope n.context n.event r || taken_by ns r

-- a noted creation stands: it is not in the required scope of an event noted later
unfoldable pub stands : Note → List Note → Bool
stands n later = mapping_kind (kind_of n.event) && not (taken_by later n.event)

-- "Its standing records are the noted creations in order, less each one in the required scope of an
-- event noted later"
unfoldable pub standing : List Note → List (List ℕ)
standing [] = []
standing (n ∷ later) = cond (stands n later) (n.event ∷ standing later) (standing later)

-- how many of the noted creations stand, and do not once the further notes are added
unfoldable pub lost : List Note → List Note → ℕ
lost [] added = 0
lost (n ∷ later) added =
    cond (stands n later && not (stands n (later ++ added))) (1 + lost later added) (lost later added)

pub record Book : Type 0 where
  pub context : Context
  pub notes : List Note

-- the book at the start of a run: the context after a reset, and no notes
unfoldable pub opened : Context → Book
opened c = record { context = after_reset c; notes = [] }

-- the standing records as a table
unfoldable pub book_table : Book → List ℕ
book_table b = joined (standing b.notes)

-- "An event's answer is the one given for the book's context, the standing records as old table and a
-- new buffer of 45,056 [47,104 by Ask 12] bytes."
unfoldable pub book_answer : Book → List ℕ → ℕ
book_answer b e = answer b.context (book_table b) e limit

-- "With answer 0 the event is noted with that context ...; else nothing changes."
unfoldable pub added : Book → List ℕ → List Note
added b e = cond (eqb (book_answer b e) 0) (record { context = b.context; event = e } ∷ []) []

unfoldable pub book_after : Book → List ℕ → Book
book_after b e =
    record {
      context = cond (eqb (book_answer b e) 0) (next_context b.context (event e)) b.context;
      notes = b.notes ++ added b e;
    }

-- what is told of an event: its answer with the EPTP's rule (document 02, Ask 6), its dropped count, and the context
-- after it
pub record Report : Type 0 where
  pub answer : ℕ
  pub rule : ℕ
  pub dropped : ℕ
  pub context : Context

-- "The event's dropped count is how many records stood before it and not after."
unfoldable pub book_report : Book → List ℕ → Report
book_report b e =
    record {
      answer = book_answer b e;
      rule = rule_with b.context e (book_answer b e);
      dropped = lost b.notes (added b e);
      context = (book_after b e).context;
    }

-- the reports on a list of events, and the book after it
unfoldable pub book_reports : Book → List (List ℕ) → List Report
book_reports b [] = []
book_reports b (e ∷ es) = book_report b e ∷ book_reports (book_after b e) es

unfoldable pub book_of : Book → List (List ℕ) → Book
book_of b [] = b
book_of b (e ∷ es) = book_of (book_after b e) es
