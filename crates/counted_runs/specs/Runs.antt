-- Document 02, Ask 7: "Demand 3's runs start with every count 0, and what its second run drops between steps is taken off
-- that run's tally as well."
use Rattle.std.specs.Prelude.{ℕ, suc, ◌-◌, Bool, false, cond, ◌&&◌, ◌||◌, List, [], ◌∷◌, ◌≡◌, eqb, length, get_or}
use Rattle.model.specs.declared.Context.{Context}
use Rattle.model.specs.Layouts.{kind_of, mapping_kind}
use Rattle.model.specs.Tables.{records, count}
use Rattle.tallies.specs.Tallies.{tabulate, of_pcid, pcid_counts}
use Rattle.tally_rows.specs.declared.KindCounts.{KindCounts}
use Rattle.tally_rows.specs.Rows.{of_row, kind_counts}
use Rattle.counted_steps.specs.declared.CountedStep.{CountedStep}
use Rattle.counted_steps.specs.Steps.{counted_stepped, counted_pcids, counted_written}
use Rattle.runs.specs.Book.{Report}
use Rattle.runs.specs.Runs.{Run, started, moved, report, run_without, Gap}

-- a run beside its tally
pub record CountedRun : Type 0 where
  pub run : Run
  pub kinds : List KindCounts
  pub pcids : List ℕ

-- "start with every count 0"
unfoldable pub counted_started : Context → List ℕ → List ℕ → CountedRun
counted_started c a b =
    record {
      run = started c a b;
      kinds = tabulate 6 (λ row. record { spans = tabulate 5 (λ span. 0) });
      pcids = tabulate 4096 (λ pcid. 0);
    }

-- an event is one counted step, with the tally that the last one left
unfoldable pub counted_result : CountedRun → List ℕ → CountedStep
counted_result s e = counted_stepped s.run.context s.kinds s.pcids s.run.table e (length s.run.back)

unfoldable pub counted_after : CountedRun → List ℕ → CountedRun
counted_after s e =
    record {
      run = moved s.run (counted_result s e).step (counted_written s.run.context s.kinds s.pcids s.run.table e s.run.back);
      kinds = (counted_result s e).kinds;
      pcids = counted_pcids s.run.context s.kinds s.pcids s.run.table e (length s.run.back);
    }

unfoldable pub counted_reports : CountedRun → List (List ℕ) → List Report
counted_reports s [] = []
counted_reports s (e ∷ es) = report (counted_result s e).step ∷ counted_reports (counted_after s e) es

unfoldable pub counted_of : CountedRun → List (List ℕ) → CountedRun
counted_of s [] = s
counted_of s (e ∷ es) = counted_of (counted_after s e) es

-- the runs before the first event and after each one
unfoldable pub counted_states : CountedRun → List (List ℕ) → List CountedRun
counted_states s [] = s ∷ []
counted_states s (e ∷ es) = s ∷ counted_states (counted_after s e) es

-- the run refuses a creation for room
unfoldable pub counted_refused_for_room : CountedRun → List (List ℕ) → Bool
counted_refused_for_room s [] = false
counted_refused_for_room s (e ∷ es) =
    (mapping_kind (kind_of e) && eqb (counted_result s e).step.answer 12) || counted_refused_for_room (counted_after s e) es

-- the records that a removal takes out
unfoldable pub taken_out : List Bool → List (List ℕ) → List (List ℕ)
taken_out [] rs = []
taken_out (gone ∷ more) [] = []
taken_out (gone ∷ more) (r ∷ rs) = cond gone (r ∷ taken_out more rs) (taken_out more rs)

-- counts from which those of some records are taken off
unfoldable pub kinds_less : List KindCounts → List (List ℕ) → List KindCounts
kinds_less kinds rs =
    tabulate 6 (λ row. record { spans = tabulate 5 (λ span. get_or (get_or kinds row (record { spans = [] })).spans span 0 - count (of_row row span) rs) })

unfoldable pub pcids_less : List ℕ → List (List ℕ) → List ℕ
pcids_less pcids rs = tabulate 4096 (λ pcid. get_or pcids pcid 0 - count (of_pcid pcid) rs)

unfoldable pub counted_without : List Bool → CountedRun → CountedRun
counted_without gone s =
    record {
      run = run_without gone s.run;
      kinds = kinds_less s.kinds (taken_out gone (records s.run.table));
      pcids = pcids_less s.pcids (taken_out gone (records s.run.table));
    }

-- the second run at one gap, and the same without its tally
pub record CountedGap : Type 0 where
  pub before : CountedRun
  pub after : CountedRun

unfoldable pub plain_gap : CountedGap → Gap
plain_gap g = record { before = g.before.run; after = g.after.run }

-- the second run: a removal before each event and after the last
unfoldable pub counted_gaps : (ℕ → List Bool) → CountedRun → List (List ℕ) → List CountedGap
counted_gaps removals s [] = record { before = s; after = counted_without (removals 0) s } ∷ []
counted_gaps removals s (e ∷ es) =
    record { before = s; after = counted_without (removals 0) s }
    ∷ counted_gaps (λ n. removals (suc n)) (counted_after (counted_without (removals 0) s) e) es

unfoldable pub counted_second_reports : (ℕ → List Bool) → CountedRun → List (List ℕ) → List Report
counted_second_reports removals s [] = []
counted_second_reports removals s (e ∷ es) =
    report (counted_result (counted_without (removals 0) s) e).step
    ∷ counted_second_reports (λ n. removals (suc n)) (counted_after (counted_without (removals 0) s) e) es

-- the tally is a fresh count of the table
pub record Fresh (s : CountedRun) : Type 0 where
  pub kinds : s.kinds ≡ kind_counts (records s.run.table)
  pub pcids : s.pcids ≡ pcid_counts (records s.run.table)

pub record FreshGap (g : CountedGap) : Type 0 where
  pub before : Fresh g.before
  pub after : Fresh g.after
