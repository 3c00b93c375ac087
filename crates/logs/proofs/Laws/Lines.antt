-- The lines of a run; with buffers that are long enough they are those of the book.
use Rattle.std.specs.Prelude.{ℕ, suc, ◌≤◌, ◌≡◌, refl, List, [], ◌∷◌, ◌++◌, length}
use Rattle.std.proofs.Common.{ap, ap₂, ◌∙◌}
use Rattle.model.specs.declared.Context.{Context}
use Rattle.model.specs.Tables.{limit}
use Rattle.runs.specs.Book.{Book, opened, book_after, book_of}
use Rattle.runs.specs.Runs.{Run, started, run_after, run_of}
use Rattle.runs.proofs.Laws.First.{Follows, follows_started, follows_table, follows_answer, follows_report, follows_after, follows_of}
use Rattle.runs.proofs.Laws.InPlace.{Alike, alike_answer, alike_report, alike_table, alike_after}
use Rattle.logs.specs.declared.Replayed.{Replayed}
use Rattle.logs.specs.Replays.{run_line, run_lines, book_line, book_lines, replayed, Replays, ByTheBook}

-- a line for each event; those of two lists of events, one behind the other
pub length_run_lines : (s : Run) (es : List (List ℕ)) → length (run_lines s es) ≡ length es
unfolding run_lines
length_run_lines s [] = refl
length_run_lines s (e ∷ es) = ap suc (length_run_lines (run_after s e) es)

pub run_lines_append : (s : Run) (es fs : List (List ℕ)) → run_lines s (es ++ fs) ≡ run_lines s es ++ run_lines (run_of s es) fs
unfolding run_lines run_of
run_lines_append s [] fs = refl
run_lines_append s (e ∷ es) fs = rw (run_lines_append (run_after s e) es fs)

-- runs that are alike have the same lines
alike_line : (s s' : Run) (e : List ℕ) → Alike s s' → run_line s e ≡ run_line s' e
unfolding run_line
alike_line s s' e k = rw (alike_answer e k, alike_report e k, alike_table (alike_after e k))

pub alike_lines : (s s' : Run) (es : List (List ℕ)) → Alike s s' → run_lines s es ≡ run_lines s' es
unfolding run_lines
alike_lines s s' [] k = refl
alike_lines s s' (e ∷ es) k =
    ap₂ (λ l ls. l ∷ ls) (alike_line s s' e k) (alike_lines (run_after s e) (run_after s' e) es (alike_after e k))

-- a run that is as the book says has the book's lines
pub follows_line : (s : Run) (b : Book) (e : List ℕ) → Follows s b → run_line s e ≡ book_line b e
unfolding run_line book_line
follows_line s b e k =
    rw (follows_answer s b e k, follows_report s b e k, follows_table (run_after s e) (book_after b e) (follows_after s b e k))

pub follows_lines : (s : Run) (b : Book) (es : List (List ℕ)) → Follows s b → run_lines s es ≡ book_lines b es
unfolding run_lines book_lines
follows_lines s b [] k = refl
follows_lines s b (e ∷ es) k =
    ap₂ (λ l ls. l ∷ ls) (follows_line s b e k) (follows_lines (run_after s e) (book_after b e) es (follows_after s b e k))

-- so a replay with such buffers is by the book
pub by_the_book : {c : Context} {log a b out : List ℕ} {r : Replayed} {a' b' out' : List ℕ} → Replays c log a b out r a' b' out'
    → limit ≤ length a
    → limit ≤ length b
    → ByTheBook c log out r a' b' out'
by_the_book {c} {log} {a} {b} {out} p h k =
    let es = replayed c.linear_width log (length out) in
    let begun = follows_started c a b h k in
    let done = follows_of (started c a b) (opened c) es begun in
    let lines = follows_lines (started c a b) (opened c) es begun in
    let table = follows_table (run_of (started c a b) es) (book_of (opened c) es) done in
    record {
      context = p.context ∙ done.context;
      size = p.size ∙ ap length table;
      count = p.count ∙ ap length lines;
      table = p.table ∙ table;
      lines = rw lines at p.lines;
    }
