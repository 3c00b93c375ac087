-- Demand 3 of counted runs, proved: a fresh tally stays fresh, so a counted run is the plain one beside its tally.
use Rattle.std.specs.Prelude.{ℕ, suc, Bool, ◌&&◌, ◌||◌, List, [], ◌∷◌, map, ◌≡◌, refl, eqb}
use Rattle.std.proofs.Common.{sym, ap, ap₂, ◌∙◌}
use Rattle.model.specs.Layouts.{kind_of, mapping_kind}
use Rattle.laws.specs.Lists.{Every, none, more}
use Rattle.runs.specs.Book.{Report}
use Rattle.runs.specs.Runs.{Run, Gap, run_after, run_reports, run_of, run_states, run_without, second_gaps, second_reports, refused_for_room, verdict}
use Rattle.runs.proofs.Laws.Demand3.{demand_3_holds}
use Rattle.counted_runs.specs.Runs.{CountedRun, Fresh, FreshGap, counted_started, counted_after, counted_reports, counted_of, counted_states, counted_refused_for_room, counted_without, plain_gap, counted_gaps, counted_second_reports}
use Rattle.counted_runs.specs.Theorem.{CountedDemand3Always}
use Rattle.counted_runs.proofs.Laws.Steps.{fresh_started, fresh_without, fresh_after, counted_after_plain, counted_report_plain, counted_answer_plain}

-- ---- the first run

pub counted_reports_plain : (s : CountedRun) (es : List (List ℕ)) → Fresh s → counted_reports s es ≡ run_reports s.run es
unfolding counted_reports run_reports
counted_reports_plain s [] fresh = refl
counted_reports_plain s (e ∷ es) fresh =
    ap₂ (λ (r : Report) (rs : List Report). r ∷ rs) (counted_report_plain s e fresh)
    (counted_reports_plain (counted_after s e) es (fresh_after s e fresh) ∙ ap (λ (r : Run). run_reports r es) (counted_after_plain s e fresh))

pub counted_of_plain : (s : CountedRun) (es : List (List ℕ)) → Fresh s → (counted_of s es).run ≡ run_of s.run es
unfolding counted_of run_of
counted_of_plain s [] fresh = refl
counted_of_plain s (e ∷ es) fresh =
    counted_of_plain (counted_after s e) es (fresh_after s e fresh) ∙ ap (λ (r : Run). run_of r es) (counted_after_plain s e fresh)

pub counted_states_plain : (s : CountedRun) (es : List (List ℕ)) → Fresh s → map (λ s. s.run) (counted_states s es) ≡ run_states s.run es
unfolding counted_states run_states
counted_states_plain s [] fresh = refl
counted_states_plain s (e ∷ es) fresh =
    ap (λ (rs : List Run). s.run ∷ rs)
    (counted_states_plain (counted_after s e) es (fresh_after s e fresh) ∙ ap (λ (r : Run). run_states r es) (counted_after_plain s e fresh))

pub counted_refused_plain : (s : CountedRun) (es : List (List ℕ)) → Fresh s → counted_refused_for_room s es ≡ refused_for_room s.run es
unfolding counted_refused_for_room refused_for_room
counted_refused_plain s [] fresh = refl
counted_refused_plain s (e ∷ es) fresh =
    ap₂ (λ (n : ℕ) (others : Bool). (mapping_kind (kind_of e) && eqb n 12) || others) (counted_answer_plain s e fresh)
    (counted_refused_plain (counted_after s e) es (fresh_after s e fresh) ∙ ap (λ (r : Run). refused_for_room r es) (counted_after_plain s e fresh))

pub counted_states_fresh : (s : CountedRun) (es : List (List ℕ)) → Fresh s → Every Fresh (counted_states s es)
unfolding counted_states
counted_states_fresh s [] fresh = more fresh none
counted_states_fresh s (e ∷ es) fresh = more fresh (counted_states_fresh (counted_after s e) es (fresh_after s e fresh))

-- ---- the second run

without_plain : (gone : List Bool) (s : CountedRun) → (counted_without gone s).run ≡ run_without gone s.run
unfolding counted_without
without_plain gone s = refl

module _ (gone : List Bool) (s : CountedRun) (e : List ℕ) (fresh : Fresh s) where
  after_plain : (counted_after (counted_without gone s) e).run ≡ run_after (run_without gone s.run) e
  after_plain = counted_after_plain (counted_without gone s) e (fresh_without gone s fresh) ∙ ap (λ (r : Run). run_after r e) (without_plain gone s)

  after_fresh : Fresh (counted_after (counted_without gone s) e)
  after_fresh = fresh_after (counted_without gone s) e (fresh_without gone s fresh)

pub counted_second_plain : (removals : ℕ → List Bool) (s : CountedRun) (es : List (List ℕ)) → Fresh s → counted_second_reports removals s es ≡ second_reports removals s.run es
unfolding counted_second_reports second_reports counted_without
counted_second_plain removals s [] fresh = refl
counted_second_plain removals s (e ∷ es) fresh =
    let gone = removals 0 in
    ap₂ (λ (r : Report) (rs : List Report). r ∷ rs) (counted_report_plain (counted_without gone s) e (fresh_without gone s fresh))
    (counted_second_plain (λ n. removals (suc n)) (counted_after (counted_without gone s) e) es (after_fresh gone s e fresh)
    ∙ ap (λ (r : Run). second_reports (λ n. removals (suc n)) r es) (after_plain gone s e fresh))

pub counted_gaps_plain : (removals : ℕ → List Bool) (s : CountedRun) (es : List (List ℕ)) → Fresh s → map plain_gap (counted_gaps removals s es) ≡ second_gaps removals s.run es
unfolding counted_gaps second_gaps plain_gap counted_without
counted_gaps_plain removals s [] fresh = refl
counted_gaps_plain removals s (e ∷ es) fresh =
    let gone = removals 0 in
    ap (λ (gs : List Gap). record { before = s.run; after = run_without gone s.run } ∷ gs)
    (counted_gaps_plain (λ n. removals (suc n)) (counted_after (counted_without gone s) e) es (after_fresh gone s e fresh)
    ∙ ap (λ (r : Run). second_gaps (λ n. removals (suc n)) r es) (after_plain gone s e fresh))

pub counted_gaps_fresh : (removals : ℕ → List Bool) (s : CountedRun) (es : List (List ℕ)) → Fresh s → Every FreshGap (counted_gaps removals s es)
unfolding counted_gaps
counted_gaps_fresh removals s [] fresh = more (record { before = fresh; after = fresh_without (removals 0) s fresh }) none
counted_gaps_fresh removals s (e ∷ es) fresh =
    more (record { before = fresh; after = fresh_without (removals 0) s fresh })
    (counted_gaps_fresh (λ n. removals (suc n)) (counted_after (counted_without (removals 0) s) e) es (after_fresh (removals 0) s e fresh))

-- ---- both

pub counted_demand_3_holds : CountedDemand3Always
unfolding counted_started
counted_demand_3_holds c es a b h k =
    let plain = demand_3_holds c es a b h k in
    let fresh = fresh_started c a b in
    let s = counted_started c a b in
    record {
      first_run = record {
        table = ap (λ (r : Run). r.table) (counted_of_plain s es fresh) ∙ plain.first_run.table;
        context = ap (λ (r : Run). r.context) (counted_of_plain s es fresh) ∙ plain.first_run.context;
        reports = counted_reports_plain s es fresh ∙ plain.first_run.reports;
        fresh = counted_states_fresh s es fresh;
      };
      second_run = λ removals a' b' h' k' room.
          let second = plain.second_run removals a' b' h' k' (sym (counted_refused_plain s es fresh) ∙ room) in
          let fresh' = fresh_started c a' b' in
          let s' = counted_started c a' b' in
          record {
            verdicts = ap (map verdict) (counted_second_plain removals s' es fresh') ∙ second.verdicts ∙ ap (map verdict) (sym (counted_reports_plain s es fresh));
            usable = rw (counted_gaps_plain removals s' es fresh', counted_states_plain s es fresh) second.usable;
            fresh = counted_gaps_fresh removals s' es fresh';
          };
    }
