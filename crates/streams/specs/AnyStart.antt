-- Document 02, Ask 3, from any start: for every reader that does not count as ignoring, every context, every table and every
-- tally, valid and matching or not. The bytes that the reader holds go before those of the fragments. What comes then is the
-- counted run of Ask 7 on the events of these bytes, which ends after an unknown kind, an answer 2 or 3, or a cut record.
use Rattle.std.specs.Prelude.{ℕ, Bool, true, false, cond, not, ◌&&◌, ◌||◌, List, [], ◌∷◌, ◌++◌, ◌≡◌, eqb, leb, length}
use Rattle.model.specs.Layouts.{kind_of, length_of}
use Rattle.model.specs.Tables.{joined}
use Rattle.readers.specs.Readers.{held_bytes, next_line}
use Rattle.runs.specs.Runs.{report}
use Rattle.counted_runs.specs.Runs.{CountedRun, counted_result, counted_after, counted_of}
use Rattle.logs.specs.Logs.{known_at, events_of}
use Rattle.streams.specs.Streams.{Told, Stream, fed_all, finished, ignores}

-- "After an unknown kind, an answer 2 or 3": the event is the last of the log
unfoldable pub stops : CountedRun → List ℕ → Bool
stops s e =
    not (known_at s.run.context.linear_width (kind_of e))
    || (eqb (counted_result s e).step.answer 2 || eqb (counted_result s e).step.answer 3)

-- the events that a run takes: those up to the first that stops it, with that one
unfoldable pub until_stop : CountedRun → List (List ℕ) → List (List ℕ)
until_stop s [] = []
until_stop s (e ∷ es) = e ∷ cond (stops s e) [] (until_stop (counted_after s e) es)

-- the event has all its bytes: an unknown kind is one byte, and any other event has as many as its kind says
unfoldable pub whole_event : ℕ → List ℕ → Bool
whole_event width e = not (known_at width (kind_of e)) || leb (length_of (kind_of e)) (length e)

-- some event with all its bytes stops the run. A cut record stops it at the finish call alone: until then its bytes are held.
unfoldable pub is_stopped : CountedRun → List (List ℕ) → Bool
is_stopped s [] = false
is_stopped s (e ∷ es) = whole_event s.run.context.linear_width e && (stops s e || is_stopped (counted_after s e) es)

-- what is reported of an event, and of one event after another, with the numbers that follow a line
abbrev pub reported : ℕ → CountedRun → List ℕ → Told
reported line s e = record { line = next_line line; report = report (counted_result s e).step; length = length (counted_after s e).run.table }

unfoldable pub all_reported : ℕ → CountedRun → List (List ℕ) → List Told
all_reported line s [] = []
all_reported line s (e ∷ es) = reported line s e ∷ all_reported (next_line line) (counted_after s e) es

-- the events of the bytes held and those of the fragments, "read at the context's width" (Ask 12), and those that are taken
unfoldable pub events_fed : Stream → List (List ℕ) → List (List ℕ)
events_fed s xs = events_of s.run.run.context.linear_width (held_bytes s.reader ++ joined xs)

unfoldable pub events_taken : Stream → List (List ℕ) → List (List ℕ)
events_taken s xs = until_stop s.run (events_fed s xs)

-- the run, before the finish call and after it, and all that is reported, are those of the counted run. The reader ignores
-- exactly if an event stopped the run, and after a finish call always.
pub record FromAnyStart (s : Stream) (xs : List (List ℕ)) : Type 0 where
  pub before : (fed_all s xs).run ≡ counted_of s.run (events_taken s xs)
  pub run : (finished (fed_all s xs)).run ≡ counted_of s.run (events_taken s xs)
  pub told : (finished (fed_all s xs)).told ≡ s.told ++ all_reported s.reader.line s.run (events_taken s xs)
  pub ignoring : ignores (fed_all s xs) ≡ is_stopped s.run (events_fed s xs)
  pub ended : ignores (finished (fed_all s xs)) ≡ true

abbrev pub FromAnyStartAlways : Type 0
FromAnyStartAlways = (s : Stream) (xs : List (List ℕ)) → length s.reader.held ≡ 24 → ignores s ≡ false → FromAnyStart s xs
