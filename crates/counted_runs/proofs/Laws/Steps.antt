-- One step of a run beside a fresh tally: it is the plain step, and leaves the tally fresh; so does a removal.
use Rattle.std.specs.Prelude.{ℕ, Bool, true, List, ◌≡◌, length}
use Rattle.std.proofs.Math.Path.{refl, ap}
use Rattle.std.proofs.Common.{sym, ◌∙◌}
use Rattle.model.specs.declared.Context.{Context}
use Rattle.model.specs.declared.Step.{Step}
use Rattle.model.specs.Tables.{records}
use Rattle.model.specs.Steps.{stepped}
use Rattle.laws.specs.Tables.{records_nil, records_valid, records_joined}
use Rattle.tallies.specs.Tallies.{pcid_counts}
use Rattle.tally_rows.specs.Rows.{kind_counts, matching}
use Rattle.counted_steps.specs.Steps.{counted_answer, counted_stepped, counted_pcids}
use Rattle.counted_steps.proofs.Laws.Steps.{counted_answer_matching, counts_matching, counted_stepped_matching, counted_written_matching, counts_accepted, counts_refused}
use Rattle.runs.specs.Runs.{Run, started, report, without, run_answer, run_written, run_after, run_report, run_without}
use Rattle.runs.proofs.Laws.Steps.{by_answer, run_answer_is, run_after_accepted, run_after_refused}
use Rattle.runs.proofs.Laws.Parts.{every_without}
use Rattle.counted_runs.specs.Runs.{CountedRun, Fresh, counted_started, counted_result, counted_after, counted_without}
use Rattle.tally_rows.proofs.Laws.Rows.{kind_counts_nil}
use Rattle.counted_runs.proofs.Laws.Less.{pcid_counts_nil, kinds_less_taken, pcids_less_taken}

pub fresh_started : (c : Context) (a b : List ℕ) → Fresh (counted_started c a b)
unfolding counted_started started
fresh_started c a b = record { kinds = rw records_nil (sym kind_counts_nil); pcids = rw records_nil (sym pcid_counts_nil) }

pub fresh_without : (gone : List Bool) (s : CountedRun) → Fresh s → Fresh (counted_without gone s)
unfolding counted_without run_without
fresh_without gone s fresh =
    let left : records (run_without gone s.run).table ≡ without gone (records s.run.table) = records_joined (every_without gone (records_valid s.run.table)) in
    record {
      kinds = rw (left, fresh.kinds) (kinds_less_taken gone (records s.run.table));
      pcids = rw (left, fresh.pcids) (pcids_less_taken gone (records s.run.table));
    }

module _ (s : CountedRun) (e : List ℕ) (fresh : Fresh s) where
  match : matching s.kinds s.pcids (records s.run.table) ≡ true
  match = counts_matching s.kinds s.pcids (records s.run.table) fresh.kinds fresh.pcids

  -- the step is the plain one
  pub counted_result_plain : (counted_result s e).step ≡ stepped s.run.context s.run.table e (length s.run.back)
  unfolding counted_result
  counted_result_plain = counted_stepped_matching s.run.context s.kinds s.pcids s.run.table e match (length s.run.back)

  pub counted_after_plain : (counted_after s e).run ≡ run_after s.run e
  unfolding counted_after run_after run_written
  counted_after_plain = rw (counted_result_plain, counted_written_matching s.run.context s.kinds s.pcids s.run.table e match s.run.back)

  pub counted_report_plain : report (counted_result s e).step ≡ run_report s.run e
  unfolding run_report
  counted_report_plain = rw counted_result_plain

  pub counted_answer_plain : (counted_result s e).step.answer ≡ run_answer s.run e
  unfolding run_answer
  counted_answer_plain = ap (λ (r : Step). r.answer) counted_result_plain

  answered : counted_answer s.run.context s.kinds s.pcids s.run.table e (length s.run.back) ≡ run_answer s.run e
  answered = counted_answer_matching s.run.context s.kinds s.pcids s.run.table e (length s.run.back) match ∙ sym (run_answer_is s.run e)

  kinds_after : (counted_after s e).kinds ≡ (counted_stepped s.run.context s.kinds s.pcids s.run.table e (length s.run.back)).kinds
  unfolding counted_after counted_result
  kinds_after = refl

  pcids_after : (counted_after s e).pcids ≡ counted_pcids s.run.context s.kinds s.pcids s.run.table e (length s.run.back)
  unfolding counted_after
  pcids_after = refl

  -- the tally after it is fresh
  pub fresh_after : Fresh (counted_after s e)
  fresh_after = by_answer (run_answer s.run e) accepted refused
    where
      counts_are : (t : List ℕ) → (run_after s.run e).table ≡ t
          → ((counted_stepped s.run.context s.kinds s.pcids s.run.table e (length s.run.back)).kinds ≡ kind_counts (records t))
          → (counted_pcids s.run.context s.kinds s.pcids s.run.table e (length s.run.back) ≡ pcid_counts (records t))
          → Fresh (counted_after s e)
      counts_are t is kinds pcids =
          let here : (counted_after s e).run.table ≡ t = ap (λ (r : Run). r.table) counted_after_plain ∙ is in
          record {
            kinds = kinds_after ∙ kinds ∙ ap (λ (t : List ℕ). kind_counts (records t)) (sym here);
            pcids = pcids_after ∙ pcids ∙ ap (λ (t : List ℕ). pcid_counts (records t)) (sym here);
          }

      accepted : run_answer s.run e ≡ 0 → Fresh (counted_after s e)
      accepted zero =
          let counts = counts_accepted s.run.context s.kinds s.pcids s.run.table e (length s.run.back) (answered ∙ zero) in
          counts_are _ (ap (λ (r : Run). r.table) (run_after_accepted s.run e zero)) counts.0 counts.1

      refused : (run_answer s.run e ≡ 0 → ⊥) → Fresh (counted_after s e)
      refused some =
          let counts = counts_refused s.run.context s.kinds s.pcids s.run.table e (length s.run.back) (λ z. some (sym answered ∙ z)) in
          counts_are _ (ap (λ (r : Run). r.table) (run_after_refused s.run e some)) (counts.0 ∙ fresh.kinds) (counts.1 ∙ fresh.pcids)
