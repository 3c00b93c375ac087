-- Document 01, "Replay program": the text that is printed of a log, and what is left of it after a part.
use Rattle.std.specs.Prelude.{ℕ, ◌+◌, ◌/◌, ◌≤◌, ◌<◌, cond, List, [], ◌∷◌, ◌++◌, ◌≡◌, leb, ltb, length, drop}
use Rattle.io.specs.Counts.{IsPrefixLen}
use Rattle.model.specs.Buffers.{put}
use Rattle.model.specs.Tables.{limit}
use Rattle.runs.specs.Book.{opened}
use Rattle.logs.specs.declared.Progress.{Progress}
use Rattle.logs.specs.Logs.{log_limit, program, program_width, events_of, events_from}
use Rattle.logs.specs.Replays.{Line, book_lines, run_lines}
use Rattle.states.specs.States.{run_at}
use Rattle.logs.specs.Progress.{begun, Ready, Progresses}
use Rattle.lines.specs.Text.{line_text, line_limit}
use Rattle.texts.specs.declared.Piece.{Piece}

-- lines as text, the first with a number
unfoldable pub numbered_from : ℕ → List Line → List ℕ
numbered_from n [] = []
numbered_from n (l ∷ ls) = line_text n l.answer l.dropped l.length ++ numbered_from (n + 1) ls

-- "A longer log prints only `too long`.", with a line end
abbrev pub too_long : List ℕ
too_long = 116 ∷ 111 ∷ 111 ∷ 32 ∷ 108 ∷ 111 ∷ 110 ∷ 103 ∷ 10 ∷ []

-- what is printed of a log: the book's lines. "One line per event: number from 1, answer, dropped, length of
-- the table in force."
unfoldable pub program_text : List ℕ → List ℕ
program_text log =
    cond (leb (length log) log_limit) (numbered_from 1 (book_lines (opened program) (events_of program_width log))) too_long

-- what is still to be printed of it: the lines of the events that were not taken yet, or `too long`
unfoldable pub text_left : Progress → List ℕ → List ℕ → List ℕ → List ℕ
text_left p log a b =
    cond (leb (length log) log_limit)
    (numbered_from (p.count + 1) (run_lines (run_at p.state a b) (events_of program_width (drop p.at log))))
    (cond (ltb p.at (length log)) too_long [])

-- the lines of at most n of those events
unfoldable pub next_lines : Progress → List ℕ → List ℕ → List ℕ → ℕ → List ℕ
next_lines p log a b n = numbered_from (p.count + 1) (run_lines (run_at p.state a b) (events_from program_width log p.at n))

-- the next piece, for which there is room for so many bytes
unfoldable pub next_text : Progress → List ℕ → List ℕ → List ℕ → ℕ → List ℕ
next_text p log a b room =
    cond (leb (length log) log_limit) (next_lines p log a b (room / line_limit)) (cond (ltb p.at (length log)) too_long [])

-- at the start, with two buffers of at least 47,104 bytes, all of the text is left
pub record Starts (r : Progress) : Type 0 where
  pub begun : r ≡ begun program
  pub ready : (log a b : List ℕ) → Ready r log a b
  pub all : (log a b : List ℕ) → limit ≤ length a → limit ≤ length b → text_left r log a b ≡ program_text log

-- `too long` is told, and all of the log taken
pub record TellsTooLong (p : Progress) (log out : List ℕ) (r : Piece) (out' : List ℕ) : Type 0 where
  pub text : out' ≡ put 0 (cond (ltb p.at (length log)) too_long []) out
  pub size : r.length ≡ length (cond (ltb p.at (length log)) too_long [])
  pub counts : IsPrefixLen r.length out'
  pub progress : r.progress ≡ record { state = p.state; at = length log; count = p.count }

-- the lines of the next events are told, and these taken
pub record TellsLines (p : Progress) (log a b out : List ℕ) (r : Piece) (a' b' out' : List ℕ) : Type 0 where
  pub text : out' ≡ put 0 (next_lines p log a b (length out / line_limit)) out
  pub size : r.length ≡ length (next_lines p log a b (length out / line_limit))
  pub counts : IsPrefixLen r.length out'
  pub progress : Progresses program_width p log a b (length out / line_limit) r.progress a' b'

-- A piece: its text and length, and how far the replay is after it. What was left is the piece and then what
-- is left after it; the piece is empty only where nothing was left, and else it took some of the log.
pub record Continues (p : Progress) (log a b out : List ℕ) (r : Piece) (a' b' out' : List ℕ) : Type 0 where
  pub text : out' ≡ put 0 (next_text p log a b (length out)) out
  pub size : r.length ≡ length (next_text p log a b (length out))
  pub counts : IsPrefixLen r.length out'
  pub short : length log ≤ log_limit → Progresses program_width p log a b (length out / line_limit) r.progress a' b'
  pub long : log_limit < length log → (r.progress ≡ record { state = p.state; at = length log; count = p.count }) × ((a' ≡ a) × (b' ≡ b))
  pub ready : Ready r.progress log a' b'
  pub left : text_left p log a b ≡ next_text p log a b (length out) ++ text_left r.progress log a' b'
  pub ended : r.length ≡ 0 → text_left p log a b ≡ []
  pub further : 0 < r.length → p.at < r.progress.at
