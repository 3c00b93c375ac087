-- A run that leaves its table where it is, where it may: what `Runs` says of contexts, tables and reports, with fewer
-- bytes written. Room is judged against the other buffer, so with a buffer shorter than the limit a table that stays
-- could have other room at the next event; there every accepted event writes into the other buffer.
use Rattle.std.specs.Prelude.{ℕ, Bool, cond, not, ◌&&◌, List, [], ◌∷◌, ◌++◌, ◌≡◌, eqb, leb, length, take}
use Rattle.model.specs.declared.Context.{Context}
use Rattle.model.specs.Buffers.{put}
use Rattle.model.specs.Tables.{limit}
use Rattle.model.specs.Events.{event}
use Rattle.model.specs.Scopes.{has_scope, next_context}
use Rattle.model.specs.Answers.{created}
use Rattle.runs.specs.Book.{Report, opened, book_table, book_reports, book_of}
use Rattle.runs.specs.Runs.{Run, started, run_answer, run_after, run_report, run_reports, run_of}

-- the table stays in its buffer: the event has no scope, and both buffers have the limit or more
unfoldable pub stays : Run → List ℕ → Bool
stays s e = leb limit (length s.front) && leb limit (length s.back) && not (has_scope s.context (event e))

-- the run after an event that leaves the table in its buffer
unfoldable pub in_place : Run → List ℕ → Run
in_place s e =
    cond (eqb (run_answer s e) 0)
    (record {
      context = next_context s.context (event e);
      table = s.table ++ created e;
      front = put (length s.table) (created e) s.front;
      back = s.back;
    })
    s

unfoldable pub in_place_after : Run → List ℕ → Run
in_place_after s e = cond (stays s e) (in_place s e) (run_after s e)

unfoldable pub in_place_reports : Run → List (List ℕ) → List Report
in_place_reports s [] = []
in_place_reports s (e ∷ es) = run_report s e ∷ in_place_reports (in_place_after s e) es

unfoldable pub in_place_of : Run → List (List ℕ) → Run
in_place_of s [] = s
in_place_of s (e ∷ es) = in_place_of (in_place_after s e) es

-- the tables after each event, of such a run and of `run_of`
unfoldable pub in_place_tables : Run → List (List ℕ) → List (List ℕ)
in_place_tables s [] = []
in_place_tables s (e ∷ es) = (in_place_after s e).table ∷ in_place_tables (in_place_after s e) es

unfoldable pub run_tables : Run → List (List ℕ) → List (List ℕ)
run_tables s [] = []
run_tables s (e ∷ es) = (run_after s e).table ∷ run_tables (run_after s e) es

-- From a reset such a run has the context, the tables and the reports of `run_of`, whatever the events and the buffers
-- are, and its buffer holds the table.
pub record InPlace (c : Context) (es : List (List ℕ)) (a b : List ℕ) : Type 0 where
  pub context : (in_place_of (started c a b) es).context ≡ (run_of (started c a b) es).context
  pub table : (in_place_of (started c a b) es).table ≡ (run_of (started c a b) es).table
  pub held : take (length (in_place_of (started c a b) es).table) (in_place_of (started c a b) es).front ≡ (in_place_of (started c a b) es).table
  pub tables : in_place_tables (started c a b) es ≡ run_tables (started c a b) es
  pub reports : in_place_reports (started c a b) es ≡ run_reports (started c a b) es

-- And so, with two buffers of at least the limit, they are the book's.
pub record InPlaceByTheBook (c : Context) (es : List (List ℕ)) (a b : List ℕ) : Type 0 where
  pub context : (in_place_of (started c a b) es).context ≡ (book_of (opened c) es).context
  pub table : (in_place_of (started c a b) es).table ≡ book_table (book_of (opened c) es)
  pub reports : in_place_reports (started c a b) es ≡ book_reports (opened c) es
