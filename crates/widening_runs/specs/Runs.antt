-- Widening is a simulation over whole runs: document 02, Ask 12. A run at width 57 of the widened events does what the run
-- at width 48 does.
use Rattle.std.specs.Prelude.{ℕ, List, [], ◌∷◌, map, ◌≡◌, length}
use Rattle.model.specs.declared.Context.{Context}
use Rattle.runs.specs.Book.{Report}
use Rattle.counted_runs.specs.Runs.{CountedRun, counted_started, counted_after, counted_reports, counted_of}
use Rattle.widening.specs.Widening.{widened_table}
use Rattle.widening.specs.Theorem.{with_width}
use Rattle.widening_runs.specs.Simulation.{widened_event, Widenable}

-- a run at width 57 is one at width 48, widened: the same context but for the width, the widened table, and the same
-- tally. The buffers are each run's own.
pub record Twin (s s' : CountedRun) : Type 0 where
  pub width : s.run.context.linear_width ≡ 48
  pub context : s'.run.context ≡ with_width 57 s.run.context
  pub table : s'.run.table ≡ widened_table s.run.table
  pub kinds : s'.kinds ≡ s.kinds
  pub pcids : s'.pcids ≡ s.pcids

-- the conditions of a step hold before each event, of the table then in force and the two buffers then written into
unfoldable pub WidenableRun : CountedRun → CountedRun → List (List ℕ) → Type 0
WidenableRun s s' [] = Unit {0}
WidenableRun s s' (e ∷ es) =
    Widenable s.run.table e (length s.run.back) (length s'.run.back) × WidenableRun (counted_after s e) (counted_after s' (widened_event e)) es

-- what is reported of an event at width 57: the same answer, rule and dropped count, and the same context but for the
-- width
abbrev pub widened_report : Report → Report
widened_report r = record { answer = r.answer; rule = r.rule; dropped = r.dropped; context = with_width 57 r.context }

pub record RunSimulates (s s' : CountedRun) (es : List (List ℕ)) : Type 0 where
  pub reports : counted_reports s' (map widened_event es) ≡ map widened_report (counted_reports s es)
  pub twin : Twin (counted_of s es) (counted_of s' (map widened_event es))

-- runs that start alike are twins, and twins stay so
pub record RunsSimulate : Type 0 where
  pub started : (c : Context) (a b a' b' : List ℕ) → Twin (counted_started (with_width 48 c) a b) (counted_started (with_width 57 c) a' b')
  pub runs : (s s' : CountedRun) (es : List (List ℕ)) → Twin s s' → WidenableRun s s' es → RunSimulates s s' es
