-- Document 01, "Replay program": what is reported of each event, and what a replay leaves. Its sentence "Should a step answer 2 or 3,
-- print its line and end" is taken back by document 02, Ask 9, since no step does (`Stops.antt`).
use Rattle.std.specs.Prelude.{ℕ, ◌/◌, Bool, true, cond, List, [], ◌∷◌, ◌++◌, ◌≡◌, length, take}
use Rattle.model.specs.declared.Context.{Context}
use Rattle.model.specs.Bits.{bytes}
use Rattle.model.specs.Buffers.{put}
use Rattle.runs.specs.Book.{Book, opened, book_table, book_answer, book_after, book_report, book_of}
use Rattle.runs.specs.Runs.{Run, started, run_answer, run_after, run_report, run_of}
use Rattle.runs.specs.InPlace.{in_place_after, in_place_of}
use Rattle.states.specs.States.{side_after}
use Rattle.logs.specs.declared.Replayed.{Replayed}
use Rattle.logs.specs.Logs.{events_of}

-- a line without its number: the answer, the dropped count and the length of the table in force
pub record Line : Type 0 where
  pub answer : ℕ
  pub dropped : ℕ
  pub length : ℕ

-- the lines of a run on a list of events
unfoldable pub run_line : Run → List ℕ → Line
run_line s e = record { answer = run_answer s e; dropped = (run_report s e).dropped; length = length (run_after s e).table }

unfoldable pub run_lines : Run → List (List ℕ) → List Line
run_lines s [] = []
run_lines s (e ∷ es) = run_line s e ∷ run_lines (run_after s e) es

-- the same of the book
unfoldable pub book_line : Book → List ℕ → Line
book_line b e = record { answer = book_answer b e; dropped = (book_report b e).dropped; length = length (book_table (book_after b e)) }

unfoldable pub book_lines : Book → List (List ℕ) → List Line
book_lines b [] = []
book_lines b (e ∷ es) = book_line b e ∷ book_lines (book_after b e) es

-- whether the first of the two buffers holds the table after the events, as it does or does not before them: a table
-- that does not stay in its buffer goes into the other
unfoldable pub side_ended : Bool → Run → List (List ℕ) → Bool
side_ended first s [] = first
side_ended first s (e ∷ es) = side_ended (side_after first s e) (in_place_after s e) es

-- a line as a row of 24 bytes: answer, dropped count and length, 8 bytes each
abbrev pub row_length : ℕ
row_length = 24

unfoldable pub row : Line → List ℕ
row l = bytes 8 l.answer ++ (bytes 8 l.dropped ++ bytes 8 l.length)

unfoldable pub rows : List Line → List ℕ
rows [] = []
rows (l ∷ ls) = row l ++ rows ls

-- the events of a log, read at a linear width, for which there is a row in a buffer of so many bytes
unfoldable pub replayed : ℕ → List ℕ → ℕ → List (List ℕ)
replayed width log room = take (room / row_length) (events_of width log)

-- the buffer that holds the table in force, and the other one
abbrev pub front_of : Replayed → List ℕ → List ℕ → List ℕ
front_of r a b = cond r.first a b

abbrev pub back_of : Replayed → List ℕ → List ℕ → List ℕ
back_of r a b = cond r.first b a

-- what a replay of a log leaves and reports, for buffers of any length: the context, the table in force and its length,
-- how many lines there are, and the lines as rows, all of them the run's; and which buffer holds the table, and the
-- bytes of both buffers, which are those of the run that leaves its table in place where it may
pub record Replays (c : Context) (log a b out : List ℕ) (r : Replayed) (a' b' out' : List ℕ) : Type 0 where
  pub context : r.context ≡ (run_of (started c a b) (replayed c.linear_width log (length out))).context
  pub size : r.length ≡ length (run_of (started c a b) (replayed c.linear_width log (length out))).table
  pub count : r.count ≡ length (run_lines (started c a b) (replayed c.linear_width log (length out)))
  pub first : r.first ≡ side_ended true (started c a b) (replayed c.linear_width log (length out))
  pub table : take r.length (front_of r a' b') ≡ (run_of (started c a b) (replayed c.linear_width log (length out))).table
  pub front : front_of r a' b' ≡ (in_place_of (started c a b) (replayed c.linear_width log (length out))).front
  pub back : back_of r a' b' ≡ (in_place_of (started c a b) (replayed c.linear_width log (length out))).back
  pub lines : out' ≡ put 0 (rows (run_lines (started c a b) (replayed c.linear_width log (length out)))) out

-- with buffers of at least 47,104 bytes: the context, the table byte for byte and the lines are the
-- book's
pub record ByTheBook (c : Context) (log out : List ℕ) (r : Replayed) (a' b' out' : List ℕ) : Type 0 where
  pub context : r.context ≡ (book_of (opened c) (replayed c.linear_width log (length out))).context
  pub size : r.length ≡ length (book_table (book_of (opened c) (replayed c.linear_width log (length out))))
  pub count : r.count ≡ length (book_lines (opened c) (replayed c.linear_width log (length out)))
  pub table : take r.length (front_of r a' b') ≡ book_table (book_of (opened c) (replayed c.linear_width log (length out)))
  pub lines : out' ≡ put 0 (rows (book_lines (opened c) (replayed c.linear_width log (length out)))) out
