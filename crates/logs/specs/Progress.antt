-- How far a replay is, at the start and after events.
use Rattle.std.specs.Prelude.{ℕ, ◌+◌, ◌≤◌, true, List, ◌≡◌, length, drop}
use Rattle.model.specs.declared.Context.{Context}
use Rattle.model.specs.Context.{after_reset}
use Rattle.model.specs.Tables.{joined}
use Rattle.runs.specs.Runs.{run_answer, run_report}
use Rattle.runs.specs.InPlace.{in_place_after, in_place_of}
use Rattle.states.specs.States.{run_at, HoldsAt, side_after}
use Rattle.logs.specs.declared.Progress.{Progress}
use Rattle.logs.specs.declared.Advanced.{Advanced}
use Rattle.logs.specs.Logs.{event_size, event_at, events_from}
use Rattle.logs.specs.Replays.{side_ended}

-- the start: a reset, the empty table in the first buffer, and no event taken
unfoldable pub begun : Context → Progress
begun c = record { state = record { context = after_reset c; length = 0; records = 0; first = true }; at = 0; count = 0 }

-- the buffer holds the table, the position lies within the log, and each event took a byte or more
pub record Ready (p : Progress) (log a b : List ℕ) : Type 0 where
  pub holds : HoldsAt p.state a b
  pub inside : p.at ≤ length log
  pub few : p.count ≤ p.at

-- what the next event of the log does
pub record Advances (w : ℕ) (p : Progress) (log a b : List ℕ) (r : Advanced) (a' b' : List ℕ) : Type 0 where
  pub ready : Ready r.progress log a' b'
  pub run : run_at r.progress.state a' b' ≡ in_place_after (run_at p.state a b) (event_at w log p.at)
  pub side : r.progress.state.first ≡ side_after p.state.first (run_at p.state a b) (event_at w log p.at)
  pub at : r.progress.at ≡ p.at + event_size w (drop p.at log)
  pub count : r.progress.count ≡ p.count + 1
  pub answer : r.answer ≡ run_answer (run_at p.state a b) (event_at w log p.at)
  pub dropped : r.dropped ≡ (run_report (run_at p.state a b) (event_at w log p.at)).dropped

-- how far a replay is after the next n events, or all that are left
pub record Progresses (w : ℕ) (p : Progress) (log a b : List ℕ) (n : ℕ) (q : Progress) (a' b' : List ℕ) : Type 0 where
  pub ready : Ready q log a' b'
  pub run : run_at q.state a' b' ≡ in_place_of (run_at p.state a b) (events_from w log p.at n)
  pub side : q.state.first ≡ side_ended p.state.first (run_at p.state a b) (events_from w log p.at n)
  pub at : q.at ≡ p.at + length (joined (events_from w log p.at n))
  pub count : q.count ≡ p.count + length (events_from w log p.at n)
