-- Renters apart beside tallies, proved: an accepted counted step is the plain one, and a refused one changes nothing.
use Rattle.std.specs.Prelude.{ℕ, Bool, true, ◌≡◌, length}
use Rattle.std.proofs.Math.Bool.{false}
use mathlib.Core.List.{List, [], ◌∷◌}
use Rattle.std.proofs.Math.Path.{sym}
use Rattle.std.proofs.Common.{ap, ◌∙◌}
use borrow.Author.Tests.{eqb-true, eqb-false, eq-eqb, ne_eqb}
use Rattle.std.proofs.Math.Dec.{eqb}
use Rattle.model.specs.declared.Context.{Context}
use Rattle.model.specs.declared.Step.{Step}
use Rattle.model.specs.Tables.{records}
use Rattle.model.specs.Events.{event}
use Rattle.model.specs.Steps.{stepped, refused_step}
use Rattle.laws.specs.Context.{linear_width_next}
use Rattle.tally_rows.specs.declared.KindCounts.{KindCounts}
use Rattle.tally_rows.specs.Rows.{matching}
use Rattle.counted_steps.specs.Steps.{counted_answer, counted_stepped, counted_pcids, counted_written}
use Rattle.counted_steps.proofs.Laws.Steps.{matching_counts, counted_stepped_matching, counted_written_matching}
use Rattle.counted_steps.proofs.Laws.Accepted.{counted_stepped_answer, accepted_matching}
use Rattle.runs.specs.Apart.{of_vpid, of_ep4ta, Alike, table_after, Together}
use Rattle.runs.proofs.Laws.Apart.{apart}
use Rattle.runs.specs.Runs.{run_answer, run_after, run_of}
use Rattle.runs.proofs.Laws.Steps.{by_answer, run_after_accepted}
use Rattle.counted_runs.specs.Runs.{CountedRun, Fresh, counted_result, counted_after, counted_of}
use Rattle.counted_runs.specs.Apart.{counted_table_after, accepts, CountedTogether, CountedApart, CountedRentersApart}
use Rattle.counted_runs.proofs.Laws.Steps.{counted_after_plain, counted_answer_plain}

-- ---- one event of a counted run, whatever its tally

module _ (s : CountedRun) (e : List ℕ) where
  abbrev answered : ℕ
  answered = counted_answer s.run.context s.kinds s.pcids s.run.table e (length s.run.back)

  counted_result_answer : (counted_result s e).step.answer ≡ answered
  unfolding counted_result
  counted_result_answer = counted_stepped_answer s.run.context s.kinds s.pcids s.run.table e (length s.run.back)

  -- an event is accepted beside a fresh tally alone
  pub accepted_fresh : (counted_result s e).step.answer ≡ 0 → Fresh s
  accepted_fresh zero =
      let match = accepted_matching s.run.context s.kinds s.pcids s.run.table e (length s.run.back) (sym counted_result_answer ∙ zero) in
      let counts = matching_counts s.kinds s.pcids (records s.run.table) match in
      record { kinds = counts.0; pcids = counts.1 }

  -- and is then the plain run's
  pub accepted_after : (counted_result s e).step.answer ≡ 0 → (run_answer s.run e ≡ 0) × ((counted_after s e).run ≡ run_after s.run e)
  accepted_after zero =
      let fresh = accepted_fresh zero in
      (sym (counted_answer_plain s e fresh) ∙ zero, counted_after_plain s e fresh)

  -- a refused event leaves the run as it was
  pub refused_after : ((counted_result s e).step.answer ≡ 0 → ⊥) → counted_after s e ≡ s
  unfolding counted_after counted_result counted_stepped counted_pcids counted_written refused_step
  refused_after some =
      let other : eqb answered 0 ≡ false = ne_eqb answered 0 (λ zero. some (counted_result_answer ∙ zero)) in
      rw (other, other)

  -- no event changes the linear width
  pub counted_width_after : (counted_after s e).run.context.linear_width ≡ s.run.context.linear_width
  counted_width_after =
      by_answer (counted_result s e).step.answer
      (λ zero. let plain = accepted_after zero in rw (plain.1, run_after_accepted s.run e plain.0) (linear_width_next s.run.context (event e)))
      (λ some. rw (refused_after some))

-- ---- the claims

module _ (c : Context) (kinds : List KindCounts) (pcids t e buffer : List ℕ) (accepted : (counted_stepped c kinds pcids t e (length buffer)).step.answer ≡ 0) where
  match : matching kinds pcids (records t) ≡ true
  match = accepted_matching c kinds pcids t e (length buffer) (sym (counted_stepped_answer c kinds pcids t e (length buffer)) ∙ accepted)

  -- the new table of an accepted step is that of the plain one, which accepts too
  counted_table_plain : counted_table_after c kinds pcids t e buffer ≡ table_after c t e buffer
  unfolding counted_table_after table_after
  counted_table_plain = rw (counted_stepped_matching c kinds pcids t e match (length buffer), counted_written_matching c kinds pcids t e match buffer)

  plain_accepted : (stepped c t e (length buffer)).answer ≡ 0
  plain_accepted = ap (λ (r : Step). r.answer) (sym (counted_stepped_matching c kinds pcids t e match (length buffer))) ∙ accepted

module _ (test : List ℕ → Bool) where
  alike_step : (c : Context) (kinds kinds' : List KindCounts) (pcids pcids' t t' e buffer buffer' : List ℕ)
      → (counted_stepped c kinds pcids t e (length buffer)).step.answer ≡ 0
      → (counted_stepped c kinds' pcids' t' e (length buffer')).step.answer ≡ 0
      → Alike test t t'
      → Alike test (counted_table_after c kinds pcids t e buffer) (counted_table_after c kinds' pcids' t' e buffer')
  alike_step c kinds kinds' pcids pcids' t t' e buffer buffer' is is' same =
      rw (counted_table_plain c kinds pcids t e buffer is, counted_table_plain c kinds' pcids' t' e buffer' is')
      ((apart test).step c t t' e buffer buffer' (plain_accepted c kinds pcids t e buffer is) (plain_accepted c kinds' pcids' t' e buffer' is') same)

  -- one event of two runs: both take it, or both are left as they were
  module _ (s s' : CountedRun) (e : List ℕ) (context : s.run.context ≡ s'.run.context) (same : Alike test s.run.table s'.run.table) (both : accepts s e ≡ accepts s' e) where
    unfoldable pub After : Type 0
    After =
        ((counted_after s e).run.context ≡ (counted_after s' e).run.context) × Alike test (counted_after s e).run.table (counted_after s' e).run.table

    accepted : (counted_result s e).step.answer ≡ 0 → After
    unfolding After run_of Together
    accepted zero =
        let zero' = eqb-true (counted_result s' e).step.answer 0 (sym both ∙ eq-eqb (counted_result s e).step.answer 0 zero) in
        let plain = accepted_after s e zero in
        let plain' = accepted_after s' e zero' in
        let tables = (apart test).log s.run s'.run (e ∷ []) context same (ap (λ n. eqb n 0) (plain.0 ∙ sym plain'.0), tt) in
        rw (plain.1, plain'.1)
        (rw (run_after_accepted s.run e plain.0, run_after_accepted s'.run e plain'.0, context), tables)

    refused : ((counted_result s e).step.answer ≡ 0 → ⊥) → After
    unfolding After
    refused some =
        let some' = eqb-false (counted_result s' e).step.answer 0 (sym both ∙ ne_eqb (counted_result s e).step.answer 0 some) in
        rw (refused_after s e some, refused_after s' e some') (context, same)

    pub counted_alike_after : After
    counted_alike_after = by_answer (counted_result s e).step.answer accepted refused

  alike_log : (s s' : CountedRun) (es : List (List ℕ)) → s.run.context ≡ s'.run.context → Alike test s.run.table s'.run.table → CountedTogether s s' es
      → Alike test (counted_of s es).run.table (counted_of s' es).run.table
  unfolding counted_of CountedTogether After
  alike_log s s' [] context same together = same
  alike_log s s' (e ∷ es) context same together =
      let after = counted_alike_after s s' e context same together.0 in
      alike_log (counted_after s e) (counted_after s' e) es after.0 after.1 together.1

  pub counted_apart : CountedApart test
  counted_apart = record { step = alike_step; log = alike_log }

pub counted_renters_apart_holds : CountedRentersApart
counted_renters_apart_holds = (λ vpid. counted_apart (of_vpid vpid), λ ep4ta. counted_apart (of_ep4ta ep4ta))
