-- The simulation over whole runs, proved by induction on the events.
use Rattle.std.specs.Prelude.{ℕ, Bool, true, false, cond, List, [], ◌∷◌, ◌≡◌, eqb, length, take}
use Rattle.std.proofs.Math.Path.{refl}
use Rattle.std.proofs.Common.{sym, ap, ap₂, ◌∙◌}
use Rattle.model.specs.declared.Context.{Context}
use Rattle.model.specs.declared.Step.{Step}
use Rattle.model.specs.Context.{after_reset}
use Rattle.model.specs.Events.{event}
use Rattle.model.specs.Steps.{accepted_step, refused_step}
use Rattle.laws.specs.Context.{linear_width_next}
use Rattle.tally_rows.specs.declared.KindCounts.{KindCounts}
use Rattle.counted_steps.specs.Steps.{counted_answer, counted_written}
use Rattle.runs.specs.Book.{Report}
use Rattle.runs.specs.Runs.{Run, started, moved, report}
use Rattle.runs.proofs.Laws.Steps.{by_answer}
use Rattle.counted_runs.specs.Runs.{CountedRun, counted_started, counted_result, counted_after, counted_reports, counted_of}
use Rattle.widening.specs.Widening.{widened_table}
use Rattle.widening.specs.Theorem.{with_width}
use Rattle.widening_runs.specs.Simulation.{widened_event, Widenable, Result, result, Alike}
use Rattle.widening_runs.specs.Runs.{Twin, WidenableRun, widened_report, RunSimulates, RunsSimulate}
use Rattle.widening_runs.proofs.Laws.Steps.{result_accepted, result_refused, widened_table_none, at_48, widening_simulates_holds}

-- a run after a step, by what the step handed back
moved_context : (s : Run) (r : Step) (b : List ℕ) → (moved s r b).context ≡ r.context
moved_context s r b = go (eqb r.answer 0)
  where
    go : (accepted : Bool)
        → (cond {A = Run} accepted (record { context = r.context; table = take r.length b; front = b; back = s.front }) (record { context = r.context; table = s.table; front = s.front; back = b })).context
        ≡ r.context
    go true = refl
    go false = refl

moved_table : (s : Run) (r : Step) (b : List ℕ) → (moved s r b).table ≡ cond (eqb r.answer 0) (take r.length b) s.table
moved_table s r b = go (eqb r.answer 0)
  where
    go : (accepted : Bool)
        → (cond {A = Run} accepted (record { context = r.context; table = take r.length b; front = b; back = s.front }) (record { context = r.context; table = s.table; front = s.front; back = b })).table
        ≡ cond accepted (take r.length b) s.table
    go true = refl
    go false = refl

-- the result of an event in a run, the buffer that it writes into, and the run after it
abbrev result_in : CountedRun → List ℕ → Result
result_in s e = result s.run.context s.kinds s.pcids s.run.table e s.run.back

abbrev written_in : CountedRun → List ℕ → List ℕ
written_in s e = counted_written s.run.context s.kinds s.pcids s.run.table e s.run.back

module _ (s : CountedRun) (e : List ℕ) where
  after_context : (counted_after s e).run.context ≡ (result_in s e).step.context
  unfolding counted_after counted_result result
  after_context = moved_context s.run (counted_result s e).step (written_in s e)

  after_table : (counted_after s e).run.table ≡ cond (eqb (result_in s e).step.answer 0) (result_in s e).table s.run.table
  unfolding counted_after counted_result result
  after_table = moved_table s.run (counted_result s e).step (written_in s e)

  after_kinds : (counted_after s e).kinds ≡ (result_in s e).rows
  unfolding counted_after counted_result result
  after_kinds = refl

  after_pcids : (counted_after s e).pcids ≡ (result_in s e).by_pcid
  unfolding counted_after result
  after_pcids = refl

  reported : report (counted_result s e).step ≡ report (result_in s e).step
  unfolding counted_result result
  reported = refl

-- no event changes the width
result_width : (c : Context) (kinds : List KindCounts) (pcids t e b : List ℕ) → (result c kinds pcids t e b).step.context.linear_width ≡ c.linear_width
unfolding accepted_step refused_step
result_width c kinds pcids t e b =
    by_answer (counted_answer c kinds pcids t e (length b))
    (λ none. ap (λ (r : Result). r.step.context.linear_width) (result_accepted c kinds pcids t e b none) ∙ linear_width_next c (event e))
    (λ some. ap (λ (r : Result). r.step.context.linear_width) (result_refused c kinds pcids t e b _ refl some))

-- ---- one event

module _ (s s' : CountedRun) (twin : Twin s s') (e : List ℕ) (w : Widenable s.run.table e (length s.run.back) (length s'.run.back)) where
  alike : Alike (result_in s e) (result_in s' (widened_event e))
  alike =
      let c = s.run.context in
      let step = (widening_simulates_holds c s.kinds s.pcids s.run.table e s.run.back s'.run.back w).step in
      rw (twin.context, twin.table, twin.kinds, twin.pcids) (rw (at_48 c twin.width) at step)

  pub twin_after : Twin (counted_after s e) (counted_after s' (widened_event e))
  twin_after =
      record {
        width = ap (λ (c : Context). c.linear_width) (after_context s e) ∙ result_width s.run.context s.kinds s.pcids s.run.table e s.run.back ∙ twin.width;
        context = after_context s' (widened_event e) ∙ alike.context ∙ ap (with_width 57) (sym (after_context s e));
        table = after_table s' (widened_event e) ∙ rw (alike.answer, alike.table, twin.table) (go (eqb (result_in s e).step.answer 0)) ∙ ap widened_table (sym (after_table s e));
        kinds = after_kinds s' (widened_event e) ∙ alike.rows ∙ sym (after_kinds s e);
        pcids = after_pcids s' (widened_event e) ∙ alike.by_pcid ∙ sym (after_pcids s e);
      }
    where
      go : (accepted : Bool)
          → cond accepted (widened_table (result_in s e).table) (widened_table s.run.table) ≡ widened_table (cond accepted (result_in s e).table s.run.table)
      go true = refl
      go false = refl

  pub report_alike : report (counted_result s' (widened_event e)).step ≡ widened_report (report (counted_result s e).step)
  report_alike =
      reported s' (widened_event e)
      ∙ (λ i. record { answer = alike.answer i; rule = alike.rule i; dropped = alike.dropped i; context = alike.context i })
      ∙ ap widened_report (sym (reported s e))

-- ---- all events

pub run_simulates : (s s' : CountedRun) (es : List (List ℕ)) → Twin s s' → WidenableRun s s' es → RunSimulates s s' es
unfolding WidenableRun counted_reports counted_of
run_simulates s s' [] twin w = record { reports = refl; twin = twin }
run_simulates s s' (e ∷ es) twin w =
    let rest = run_simulates (counted_after s e) (counted_after s' (widened_event e)) es (twin_after s s' twin e w.0) w.1 in
    record { reports = ap₂ (λ (r : Report) (rs : List Report). r ∷ rs) (report_alike s s' twin e w.0) rest.reports; twin = rest.twin }

twins_started : (c : Context) (a b a' b' : List ℕ) → Twin (counted_started (with_width 48 c) a b) (counted_started (with_width 57 c) a' b')
unfolding counted_started started after_reset
twins_started c a b a' b' = record { width = refl; context = refl; table = sym widened_table_none; kinds = refl; pcids = refl }

pub runs_simulate : RunsSimulate
runs_simulate = record { started = twins_started; runs = run_simulates }
