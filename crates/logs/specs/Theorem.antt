-- What is claimed of replays: documents 01 and 02.
use Rattle.std.specs.Prelude.{ℕ, ◌≤◌, true, cond, ◌||◌, Bool, not, ◌&&◌, List, [], ◌∷◌, ◌≡◌, eqb, leb, ltb, length}
use Rattle.model.specs.declared.Context.{Context}
use Rattle.model.specs.Layouts.{kind_of, mapping_kind, length_of}
use Rattle.model.specs.Tables.{limit}
use Rattle.laws.specs.Lists.{Bytes, Every}
use Rattle.runs.specs.Runs.{Run, started, run_answer, run_after, run_of}
use Rattle.logs.specs.Logs.{program, program_width, events_of, known_at}
use Rattle.logs.specs.Replays.{Line, run_line, run_lines}

-- ---- Document 02, Ask 9: a replay need not stop at answers 2 and 3, since no step gives them.

-- "no step of the replay can answer 1, 2 or 3, nor 12 except to a creation"
pub record Answered (s : Run) (e : List ℕ) : Type 0 where
  pub not_1 : run_answer s e ≡ 1 → ⊥
  pub not_2 : run_answer s e ≡ 2 → ⊥
  pub not_3 : run_answer s e ≡ 3 → ⊥
  pub creations_alone : run_answer s e ≡ 12 → mapping_kind (kind_of e) ≡ true

unfoldable pub EachAnswered : Run → List (List ℕ) → Type 0
EachAnswered s [] = Unit {0}
EachAnswered s (e ∷ es) = Answered s e × EachAnswered (run_after s e) es

-- document 01's lines, which end behind an answer 2 or 3
unfoldable pub stopping_lines : Run → List (List ℕ) → List Line
stopping_lines s [] = []
stopping_lines s (e ∷ es) =
    run_line s e ∷ cond (eqb (run_answer s e) 2 || eqb (run_answer s e) 3) [] (stopping_lines (run_after s e) es)

-- The program's replay of any log of bytes, "with its own two 45,056-byte buffers", 47,104 by Ask 12; and the lines of any
-- replay are those with the stop, whatever the context and the buffers are.
pub record NoStop : Type 0 where
  pub answers : (log a b : List ℕ) → Bytes log → limit ≤ length a → limit ≤ length b → EachAnswered (started program a b) (events_of program_width log)
  pub lines : (c : Context) (a b : List ℕ) (es : List (List ℕ)) → stopping_lines (started c a b) es ≡ run_lines (started c a b) es

-- ---- Document 01, "An unknown kind or a cut record gives a line with answer 4 and ends the run."

-- some bytes are left of a log, and their kind is unknown or their record cut
unfoldable pub broken : ℕ → List ℕ → Bool
broken width rest = ltb 0 (length rest) && not (known_at width (kind_of rest) && leb (length_of (kind_of rest)) (length rest))

-- In the program's replay, whatever the events before it were, such a rest is one last event, and its
-- answer is 4.
pub record Ends : Type 0 where
  pub last : (rest : List ℕ) → broken program_width rest ≡ true → events_of program_width rest ≡ rest ∷ []
  pub answer : (es : List (List ℕ)) (rest a b : List ℕ) → Every Bytes es → broken program_width rest ≡ true
      → run_answer (run_of (started program a b) es) rest ≡ 4
