-- The context and the table in force, the table in one of two buffers, and what one event does to them.
use Rattle.std.specs.Prelude.{ℕ, ◌≤◌, Bool, true, cond, not, ◌&&◌, List, ◌≡◌, eqb, length, take}
use Rattle.model.specs.Tables.{limit, records}
use Rattle.model.specs.Answers.{valid_table}
use Rattle.runs.specs.Runs.{Run, run_answer, run_report}
use Rattle.runs.specs.InPlace.{stays, in_place_after}
use Rattle.states.specs.declared.State.{State}
use Rattle.states.specs.declared.Applied.{Applied}

-- the run that a state stands for, with the buffer that holds its table and the other one
unfoldable pub run_on : State → List ℕ → List ℕ → Run
run_on s front back = record { context = s.context; table = take s.length front; front = front; back = back }

-- the same, with the first and the second buffer
unfoldable pub run_at : State → List ℕ → List ℕ → Run
run_at s a b = run_on s (cond s.first a b) (cond s.first b a)

-- the buffer holds the table: valid records within the limit, as many as the state says
pub record Holds (s : State) (front : List ℕ) : Type 0 where
  pub within : s.length ≤ length front
  pub short : s.length ≤ limit
  pub valid : valid_table s.context.linear_width (take s.length front) ≡ true
  pub counted : s.records ≡ length (records (take s.length front))

abbrev pub HoldsAt : State → List ℕ → List ℕ → Type 0
HoldsAt s a b = Holds s (cond s.first a b)

-- the new table goes into the other buffer: the event is accepted, and its table does not stay
unfoldable pub moves : Run → List ℕ → Bool
moves s e = eqb (run_answer s e) 0 && not (stays s e)

-- whether the first buffer holds the table after an event, as it does or does not before it
unfoldable pub side_after : Bool → Run → List ℕ → Bool
side_after first s e = cond (moves s e) (not first) first

-- what one event does: the buffer that then holds the table, the run that the state stands for, the side, and what is
-- told
pub record AppliesTo (s : State) (e front back : List ℕ) (r : Applied) (front' back' : List ℕ) : Type 0 where
  pub holds : Holds r.state (cond (moves (run_on s front back) e) back' front')
  pub run : run_on r.state (cond (moves (run_on s front back) e) back' front') (cond (moves (run_on s front back) e) front' back')
      ≡ in_place_after (run_on s front back) e
  pub side : r.state.first ≡ side_after s.first (run_on s front back) e
  pub answer : r.answer ≡ run_answer (run_on s front back) e
  pub dropped : r.dropped ≡ (run_report (run_on s front back) e).dropped

-- the same, with the first and the second buffer
pub record Applies (s : State) (e a b : List ℕ) (r : Applied) (a' b' : List ℕ) : Type 0 where
  pub holds : HoldsAt r.state a' b'
  pub run : run_at r.state a' b' ≡ in_place_after (run_at s a b) e
  pub side : r.state.first ≡ side_after s.first (run_at s a b) e
  pub answer : r.answer ≡ run_answer (run_at s a b) e
  pub dropped : r.dropped ≡ (run_report (run_at s a b) e).dropped
