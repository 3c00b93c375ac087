-- Renters apart, proved: an event judges each record by itself, so that what it leaves of the records of
-- which any test holds depends on these alone.
use Rattle.std.specs.Prelude.{ℕ, Bool, true, not, ◌≡◌, refl, eqb, length}
use mathlib.Core.List.{List, [], ◌∷◌, ◌++◌}
use Rattle.std.proofs.Common.{sym, ◌∙◌}
use borrow.Author.Tests.{eqb-true, eqb-false, eq-eqb, ne_eqb}
use Rattle.model.specs.declared.Context.{Context}
use Rattle.model.specs.Events.{valid_event}
use Rattle.model.specs.Answers.{answer, creation}
use Rattle.model.specs.Tables.{records, only}
use Rattle.model.specs.Steps.{new_records, in_scope, new_table, accepted_step, stepped, written}
use Rattle.laws.specs.Buffers.{take_put_front}
use Rattle.laws.specs.Tables.{only_append, only_swap}
use Rattle.laws.specs.Answers.{accepted_parts}
use Rattle.laws.specs.Steps.{records_new_table, stepped_answer, stepped_accepted}
use Rattle.runs.specs.Runs.{Run, run_answer, run_after, run_of}
use Rattle.runs.specs.Apart.{of_vpid, of_ep4ta, Alike, table_after, Together}
use Rattle.runs.specs.Theorem.{Apart, RentersApart}
use Rattle.runs.proofs.Laws.Steps.{by_answer, run_after_accepted, run_after_refused, run_accepted_valid}

module _ (test : List ℕ → Bool) where
  -- what an event leaves of them: those out of its scope, and a creation
  only_new_table : (w : ℕ) (c : Context) (t e : List ℕ) → valid_event w e ≡ true
      → only test (records (new_table c t e)) ≡ only (λ r. not (in_scope c e r)) (only test (records t)) ++ only test (creation e)
  unfolding new_records
  only_new_table w c t e v = rw (records_new_table w c t e v, only_append, only_swap test)

  alike_new_table : (w : ℕ) (c : Context) (t t' e : List ℕ) → valid_event w e ≡ true → Alike test t t' → Alike test (new_table c t e) (new_table c t' e)
  unfolding Alike
  alike_new_table w c t t' e v same = only_new_table w c t e v ∙ rw same (sym (only_new_table w c t' e v))

  -- the new table of an accepted step
  table_after_accepted : (c : Context) (t e buffer : List ℕ) → answer c t e (length buffer) ≡ 0 → table_after c t e buffer ≡ new_table c t e
  unfolding table_after written accepted_step
  table_after_accepted c t e buffer none = rw (stepped_accepted c t e (length buffer) none, none) (take_put_front (new_table c t e) buffer)

  alike_step : (c : Context) (t t' e buffer buffer' : List ℕ)
      → (stepped c t e (length buffer)).answer ≡ 0
      → (stepped c t' e (length buffer')).answer ≡ 0
      → Alike test t t'
      → Alike test (table_after c t e buffer) (table_after c t' e buffer')
  alike_step c t t' e buffer buffer' told told' same =
      let none = sym (stepped_answer c t e (length buffer)) ∙ told in
      let none' = sym (stepped_answer c t' e (length buffer')) ∙ told' in
      rw (table_after_accepted c t e buffer none, table_after_accepted c t' e buffer' none')
      (alike_new_table _ c t t' e (accepted_parts c t e (length buffer) none).valid same)

  -- one event of two runs: both take it, or both are left as they were
  module _ (s s' : Run) (e : List ℕ) (context : s.context ≡ s'.context) (same : Alike test s.table s'.table) (both : eqb (run_answer s e) 0 ≡ eqb (run_answer s' e) 0) where
    After : Type 0
    After = ((run_after s e).context ≡ (run_after s' e).context) × Alike test (run_after s e).table (run_after s' e).table

    accepted : run_answer s e ≡ 0 → After
    unfolding After
    accepted none =
        let none' : run_answer s' e ≡ 0 = eqb-true (run_answer s' e) 0 (sym both ∙ eq-eqb (run_answer s e) 0 none) in
        rw (run_after_accepted s e none, run_after_accepted s' e none', ← context)
        (refl, alike_new_table _ s.context s.table s'.table e (run_accepted_valid s e none) same)

    refused : (run_answer s e ≡ 0 → ⊥) → After
    unfolding After
    refused some =
        let some' : run_answer s' e ≡ 0 → ⊥ = eqb-false (run_answer s' e) 0 (sym both ∙ ne_eqb (run_answer s e) 0 some) in
        rw (run_after_refused s e some, run_after_refused s' e some') (context, same)

    alike_after : After
    alike_after = by_answer (run_answer s e) accepted refused

  alike_log : (s s' : Run) (es : List (List ℕ)) → s.context ≡ s'.context → Alike test s.table s'.table → Together s s' es
      → Alike test (run_of s es).table (run_of s' es).table
  unfolding run_of Together After
  alike_log s s' [] context same together = same
  alike_log s s' (e ∷ es) context same together =
      let after = alike_after s s' e context same together.0 in
      alike_log (run_after s e) (run_after s' e) es after.0 after.1 together.1

  pub apart : Apart test
  apart = record { step = alike_step; log = alike_log }

pub renters_apart_holds : RentersApart
renters_apart_holds = (λ vpid. apart (of_vpid vpid), λ ep4ta. apart (of_ep4ta ep4ta))
