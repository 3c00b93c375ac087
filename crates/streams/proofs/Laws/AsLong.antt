-- Two runs with the same context and table and with buffers as long report the same and stay so, whatever the bytes of the buffers.
use Rattle.std.specs.Prelude.{ℕ, ◌≡◌, refl, List, [], ◌∷◌, length}
use Rattle.std.proofs.Common.{sym, ap₂, ◌∙◌, length-append, length-take, length-drop}
use Rattle.std.proofs.Math.Path.{ap}
use Rattle.std.proofs.Math.Seq.{take-length}
use Rattle.model.specs.declared.Context.{Context}
use Rattle.model.specs.declared.Step.{Step}
use Rattle.model.specs.Buffers.{put}
use Rattle.model.specs.Steps.{new_table, stepped}
use Rattle.runs.specs.Runs.{Run, started, run_answer, run_after, report, run_report, run_reports, run_of}
use Rattle.runs.proofs.Laws.Steps.{by_answer, run_after_accepted, run_after_refused}
use Rattle.counted_runs.specs.Runs.{CountedRun, Fresh, counted_started}
use Rattle.logs.specs.Replays.{run_line, run_lines}
use Rattle.streams.specs.Theorem.{AsLong}

-- the same of runs without a tally
pub record RunsAsLong (s s' : Run) : Type 0 where
  pub context : s.context ≡ s'.context
  pub table : s.table ≡ s'.table
  pub front : length s.front ≡ length s'.front
  pub back : length s.back ≡ length s'.back

-- the same bytes leave buffers as long
put_as_long : (at : ℕ) (xs b b' : List ℕ) → length b ≡ length b' → length (put at xs b) ≡ length (put at xs b')
unfolding put
put_as_long at xs b b' same = simp (take-length, length-append, length-take, length-drop, same)

-- ---- one event

module _ (s s' : Run) (e : List ℕ) (k : RunsAsLong s s') where
  as_long_step : stepped s.context s.table e (length s.back) ≡ stepped s'.context s'.table e (length s'.back)
  as_long_step = λ i. stepped (k.context i) (k.table i) e (k.back i)

  as_long_answer : run_answer s e ≡ run_answer s' e
  unfolding run_answer
  as_long_answer = ap (λ (r : Step). r.answer) as_long_step

  as_long_report : run_report s e ≡ run_report s' e
  unfolding run_report
  as_long_report = ap report as_long_step

  as_long_after : RunsAsLong (run_after s e) (run_after s' e)
  as_long_after = by_answer (run_answer s e) accepted refused
    where
      accepted : run_answer s e ≡ 0 → RunsAsLong (run_after s e) (run_after s' e)
      accepted h =
          let told = run_after_accepted s e h in
          let told' = run_after_accepted s' e (sym as_long_answer ∙ h) in
          record {
            context = rw (told, told', k.context);
            table = rw (told, told', k.context, k.table);
            front = rw (told, told', k.context, k.table) (put_as_long 0 (new_table s'.context s'.table e) s.back s'.back k.back);
            back = rw (told, told') k.front;
          }

      refused : (run_answer s e ≡ 0 → ⊥) → RunsAsLong (run_after s e) (run_after s' e)
      refused h = rw (run_after_refused s e h, run_after_refused s' e (λ z. h (as_long_answer ∙ z))) k

  as_long_line : run_line s e ≡ run_line s' e
  unfolding run_line
  as_long_line = rw (as_long_answer, as_long_report, as_long_after.table)

-- ---- a list of events

pub as_long_lines : (s s' : Run) (es : List (List ℕ)) → RunsAsLong s s' → run_lines s es ≡ run_lines s' es
unfolding run_lines
as_long_lines s s' [] k = refl
as_long_lines s s' (e ∷ es) k =
    ap₂ (λ l ls. l ∷ ls) (as_long_line s s' e k) (as_long_lines (run_after s e) (run_after s' e) es (as_long_after s s' e k))

pub as_long_reports : (s s' : Run) (es : List (List ℕ)) → RunsAsLong s s' → run_reports s es ≡ run_reports s' es
unfolding run_reports
as_long_reports s s' [] k = refl
as_long_reports s s' (e ∷ es) k =
    ap₂ (λ r rs. r ∷ rs) (as_long_report s s' e k) (as_long_reports (run_after s e) (run_after s' e) es (as_long_after s s' e k))

pub as_long_of : (s s' : Run) (es : List (List ℕ)) → RunsAsLong s s' → RunsAsLong (run_of s es) (run_of s' es)
unfolding run_of
as_long_of s s' [] k = k
as_long_of s s' (e ∷ es) k = as_long_of (run_after s e) (run_after s' e) es (as_long_after s s' e k)

-- ---- beside a tally

pub as_long_run : {s s' : CountedRun} → AsLong s s' → RunsAsLong s.run s'.run
as_long_run k = record { context = k.context; table = k.table; front = k.front; back = k.back }

-- fresh tallies of one table are equal
pub as_long_fresh : {s s' : CountedRun} → Fresh s → Fresh s' → RunsAsLong s.run s'.run → AsLong s s'
as_long_fresh fresh fresh' k =
    record {
      context = k.context;
      table = k.table;
      kinds = rw (fresh.kinds, fresh'.kinds, k.table);
      pcids = rw (fresh.pcids, fresh'.pcids, k.table);
      front = k.front;
      back = k.back;
    }

-- a tally that is as that of a run with the same table is fresh with it
pub fresh_as_long : {s s' : CountedRun} → AsLong s s' → Fresh s → Fresh s'
fresh_as_long k fresh =
    record {
      kinds = sym k.kinds ∙ fresh.kinds ∙ rw k.table;
      pcids = sym k.pcids ∙ fresh.pcids ∙ rw k.table;
    }

-- from the start
pub as_long_started : (c : Context) (a b a' b' : List ℕ) → length a ≡ length a' → length b ≡ length b' → AsLong (counted_started c a b) (counted_started c a' b')
unfolding counted_started started
as_long_started c a b a' b' h k = record { context = refl; table = refl; kinds = refl; pcids = refl; front = h; back = k }
