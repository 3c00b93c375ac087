-- Document 02, Ask 10: "Demand 3 then holds of each table, both empty at the start and all buffers as long as demand 3
-- asks, with "accepted" meaning accepted for both."
use Rattle.std.specs.Prelude.{ℕ, suc, Bool, false, cond, ◌&&◌, ◌||◌, List, [], ◌∷◌, eqb, length, take}
use Rattle.model.specs.declared.Context.{Context}
use Rattle.model.specs.Context.{after_reset}
use Rattle.model.specs.Layouts.{kind_of, mapping_kind}
use Rattle.tally_rows.specs.declared.KindCounts.{KindCounts}
use Rattle.level_steps.specs.declared.Level.{Level}
use Rattle.level_steps.specs.declared.LevelStep.{LevelStep}
use Rattle.level_steps.specs.Levels.{Handed, handed, levels_stepped, pcids_of_first, first_written, pcids_of_second, second_written}
use Rattle.runs.specs.Book.{Report}
use Rattle.counted_runs.specs.Runs.{CountedRun, CountedGap, counted_started, counted_without}

-- the first level and the second
pub data LevelNumber : Type 0 where
  one : LevelNumber
  two : LevelNumber

-- one level of a run: its tally, its table in force, the buffer that holds the table, and the other one
pub record LevelState : Type 0 where
  pub kinds : List KindCounts
  pub pcids : List ℕ
  pub table : List ℕ
  pub front : List ℕ
  pub back : List ℕ

-- a run of two levels: the context in force, and each level
pub record LevelRun : Type 0 where
  pub context : Context
  pub level : LevelNumber → LevelState

-- a level of a run as a run of one table beside its tally, and a level from such a run
unfoldable pub level_run : LevelNumber → LevelRun → CountedRun
level_run n s =
    record {
      run = record { context = s.context; table = (s.level n).table; front = (s.level n).front; back = (s.level n).back };
      kinds = (s.level n).kinds;
      pcids = (s.level n).pcids;
    }

abbrev pub level_state : CountedRun → LevelState
level_state s =
    record { kinds = s.kinds; pcids = s.pcids; table = s.run.table; front = s.run.front; back = s.run.back }

-- "both empty at the start": the context after a reset, both tables empty, both tallies with every count 0, and two buffers
-- for each level
unfoldable pub levels_started : Context → (LevelNumber → List ℕ) → (LevelNumber → List ℕ) → LevelRun
levels_started c a b = record { context = after_reset c; level = λ n. level_state (counted_started c (a n) (b n)) }

-- an event is one step of both levels, each into its other buffer
abbrev pub handed_of : LevelState → Handed
handed_of l = handed l.kinds l.pcids l.table l.back

unfoldable pub levels_result : LevelRun → List ℕ → LevelStep
levels_result s e = levels_stepped s.context e (handed_of (s.level one)) (handed_of (s.level two))

-- what it reports of a level, and leaves of its counts by PCID and in its buffer
unfoldable pub level_told : LevelNumber → LevelStep → Level
level_told one r = r.first
level_told two r = r.second

unfoldable pub level_pcids : LevelNumber → LevelRun → List ℕ → List ℕ
level_pcids one s e = pcids_of_first s.context e (handed_of (s.level one)) (handed_of (s.level two))
level_pcids two s e = pcids_of_second s.context e (handed_of (s.level one)) (handed_of (s.level two))

unfoldable pub level_written : LevelNumber → LevelRun → List ℕ → List ℕ
level_written one s e = first_written s.context e (handed_of (s.level one)) (handed_of (s.level two))
level_written two s e = second_written s.context e (handed_of (s.level one)) (handed_of (s.level two))

-- a level after a step: an accepted one puts the new table in force, and the buffers change places
abbrev pub level_moved : LevelState → ℕ → Level → List ℕ → List ℕ → LevelState
level_moved l answer told pcids b =
    cond (eqb answer 0)
    (record { kinds = told.kinds; pcids = pcids; table = take told.length b; front = b; back = l.front })
    (record { kinds = told.kinds; pcids = pcids; table = l.table; front = l.front; back = b })

unfoldable pub levels_after : LevelRun → List ℕ → LevelRun
levels_after s e =
    record {
      context = (levels_result s e).context;
      level = λ n. level_moved (s.level n) (levels_result s e).answer (level_told n (levels_result s e)) (level_pcids n s e) (level_written n s e);
    }

-- what is told of an event and a level
unfoldable pub level_report : LevelNumber → LevelStep → Report
level_report n r = record { answer = r.answer; rule = r.rule; dropped = (level_told n r).dropped; context = r.context }

unfoldable pub levels_reports : LevelNumber → LevelRun → List (List ℕ) → List Report
levels_reports n s [] = []
levels_reports n s (e ∷ es) = level_report n (levels_result s e) ∷ levels_reports n (levels_after s e) es

unfoldable pub levels_of : LevelRun → List (List ℕ) → LevelRun
levels_of s [] = s
levels_of s (e ∷ es) = levels_of (levels_after s e) es

-- the runs before the first event and after each one
unfoldable pub levels_states : LevelRun → List (List ℕ) → List LevelRun
levels_states s [] = s ∷ []
levels_states s (e ∷ es) = s ∷ levels_states (levels_after s e) es

-- the run refuses a creation for room
unfoldable pub levels_refused_for_room : LevelRun → List (List ℕ) → Bool
levels_refused_for_room s [] = false
levels_refused_for_room s (e ∷ es) =
    (mapping_kind (kind_of e) && eqb (levels_result s e).answer 12) || levels_refused_for_room (levels_after s e) es

-- removals of its own for each level, taken off that level's tally
unfoldable pub levels_without : (LevelNumber → List Bool) → LevelRun → LevelRun
levels_without gone s = record { context = s.context; level = λ n. level_state (counted_without (gone n) (level_run n s)) }

-- the second run at one gap, before and after the removals there, and one level of it
pub record LevelsGap : Type 0 where
  pub before : LevelRun
  pub after : LevelRun

unfoldable pub level_gap : LevelNumber → LevelsGap → CountedGap
level_gap n g = record { before = level_run n g.before; after = level_run n g.after }

-- the second run: removals before each event and after the last, those of level n in gap i given by removals n i
abbrev pub now_gone : (LevelNumber → ℕ → List Bool) → LevelNumber → List Bool
now_gone removals n = removals n 0

abbrev pub later_gone : (LevelNumber → ℕ → List Bool) → LevelNumber → ℕ → List Bool
later_gone removals n i = removals n (suc i)

unfoldable pub levels_gaps : (LevelNumber → ℕ → List Bool) → LevelRun → List (List ℕ) → List LevelsGap
levels_gaps removals s [] = record { before = s; after = levels_without (now_gone removals) s } ∷ []
levels_gaps removals s (e ∷ es) =
    record { before = s; after = levels_without (now_gone removals) s }
    ∷ levels_gaps (later_gone removals) (levels_after (levels_without (now_gone removals) s) e) es

unfoldable pub levels_second_reports : LevelNumber → (LevelNumber → ℕ → List Bool) → LevelRun → List (List ℕ) → List Report
levels_second_reports n removals s [] = []
levels_second_reports n removals s (e ∷ es) =
    level_report n (levels_result (levels_without (now_gone removals) s) e)
    ∷ levels_second_reports n (later_gone removals) (levels_after (levels_without (now_gone removals) s) e) es

-- ---- lookups in a second run
