-- Issue 39, part 2: document 01's book, with room for every mapping that a log creates.
use Rattle.std.specs.Prelude.{ℕ, Bool, false, cond, ◌&&◌, ◌||◌, List, [], ◌∷◌, ◌++◌, eqb}
use Rattle.model.specs.declared.Context.{Context}
use Rattle.model.specs.Layouts.{kind_of, mapping_kind}
use Rattle.model.specs.Tables.{limit}
use Rattle.model.specs.Events.{event}
use Rattle.model.specs.Scopes.{next_context}
use Rattle.model.specs.Answers.{answer, rule_with}
use Rattle.runs.specs.Book.{Note, lost, Book, Report, book_answer, book_after}

-- "an event's answer is the one that the papers give on an empty table with a new buffer of the limit (so 2, 3 and 12 never
-- apply)"
unfoldable pub roomy_answer : Context → List ℕ → ℕ
roomy_answer c e = answer c [] e limit

-- "a book that notes every such event": one that is accepted
unfoldable pub roomy_added : Book → List ℕ → List Note
roomy_added b e = cond (eqb (roomy_answer b.context e) 0) (record { context = b.context; event = e } ∷ []) []

unfoldable pub roomy_after : Book → List ℕ → Book
roomy_after b e =
    record {
      context = cond (eqb (roomy_answer b.context e) 0) (next_context b.context (event e)) b.context;
      notes = b.notes ++ roomy_added b e;
    }

-- what is reported of an event, as document 01's book does
unfoldable pub roomy_report : Book → List ℕ → Report
roomy_report b e =
    record {
      answer = roomy_answer b.context e;
      rule = rule_with b.context e (roomy_answer b.context e);
      dropped = lost b.notes (roomy_added b e);
      context = (roomy_after b e).context;
    }

-- the reports on a list of events, and the book after it
unfoldable pub roomy_reports : Book → List (List ℕ) → List Report
roomy_reports b [] = []
roomy_reports b (e ∷ es) = roomy_report b e ∷ roomy_reports (roomy_after b e) es

unfoldable pub roomy_of : Book → List (List ℕ) → Book
roomy_of b [] = b
roomy_of b (e ∷ es) = roomy_of (roomy_after b e) es

-- the books before the first event and after each one
unfoldable pub roomy_books : Book → List (List ℕ) → List Book
roomy_books b [] = b ∷ []
roomy_books b (e ∷ es) = b ∷ roomy_books (roomy_after b e) es

-- document 01's book refuses a creation for room: "Refused for room means answer 12."
unfoldable pub book_refuses_for_room : Book → List (List ℕ) → Bool
book_refuses_for_room b [] = false
book_refuses_for_room b (e ∷ es) = (mapping_kind (kind_of e) && eqb (book_answer b e) 12) || book_refuses_for_room (book_after b e) es
