-- Renters apart in each of two levels, proved: a step that both levels accept is the counted step of each, and a refused one
-- changes nothing.
use Rattle.std.specs.Prelude.{ℕ, Bool, false, ◌≡◌, length}
use mathlib.Core.List.{List, [], ◌∷◌}
use Rattle.std.proofs.Math.Path.{sym}
use Rattle.std.proofs.Common.{ap, ◌∙◌}
use borrow.Author.Tests.{eqb-true, eqb-false, eq-eqb, ne_eqb}
use Rattle.std.proofs.Math.Dec.{eqb}
use Rattle.model.specs.declared.Context.{Context}
use Rattle.model.specs.Steps.{accepted_step, refused_step}
use Rattle.counted_steps.specs.Steps.{counted_stepped}
use Rattle.counted_steps.proofs.Laws.Accepted.{counted_stepped_answer}
use Rattle.level_steps.specs.Levels.{Handed, alone, given, accepted_by_both, levels_stepped, pcids_of_first, first_written, pcids_of_second, second_written}
use Rattle.level_steps.proofs.Laws.Levels.{own_answer, each_accepted}
use Rattle.runs.specs.Apart.{of_vpid, of_ep4ta, Alike}
use Rattle.runs.specs.Runs.{verdict}
use Rattle.runs.proofs.Laws.Steps.{by_answer}
use Rattle.counted_runs.specs.Runs.{counted_result, counted_after}
use Rattle.counted_runs.specs.Apart.{counted_table_after}
use Rattle.counted_runs.proofs.Laws.Apart.{After, counted_alike_after, counted_apart}
use Rattle.level_runs.specs.Runs.{LevelNumber, one, two, LevelRun, level_run, handed_of, levels_result, level_told, level_pcids, level_written, levels_after, levels_of}
use Rattle.level_runs.specs.Apart.{first_table_after, second_table_after, levels_accept, LevelsTogether, LevelsApart, LevelsRentersApart}
use Rattle.level_runs.proofs.Laws.Steps.{Same, alone_steps, level_after}

-- ---- a step of both levels, by its answer

module _ (c : Context) (e : List ℕ) (h k : Handed) where
  -- accepted by both: each alone accepts
  both_accept : (levels_stepped c e h k).answer ≡ 0 → ((alone c e h).step.answer ≡ 0) × ((alone c e k).step.answer ≡ 0)
  unfolding levels_stepped given
  both_accept zero =
      by_answer (alone c e h).step.answer (λ first. (first, rw first at zero))
      (λ some. absurd (some (rw (ne_eqb (alone c e h).step.answer 0 some) at zero)))

  -- the new tables are those of the counted steps
  tables_alone : (levels_stepped c e h k).answer ≡ 0
      → (first_table_after c e h k ≡ counted_table_after c h.kinds h.pcids h.table e h.buffer)
      × (second_table_after c e h k ≡ counted_table_after c k.kinds k.pcids k.table e k.buffer)
  unfolding first_table_after second_table_after counted_table_after
  tables_alone zero =
      let both = both_accept zero in
      let each = (each_accepted c e h k (both.0 ∙ sym both.1) both.0).0 in
      (rw (each.first, each.first_buffer), rw (each.second, each.second_buffer))

-- a refused step of a table alone keeps the context
alone_context : (c : Context) (e : List ℕ) (h : Handed) → ((alone c e h).step.answer ≡ 0 → ⊥) → (alone c e h).step.context ≡ c
unfolding counted_stepped refused_step
alone_context c e h some =
    let is = counted_stepped_answer c h.kinds h.pcids h.table e (length h.buffer) in
    let other : eqb (own_answer c e h) 0 ≡ false = ne_eqb (own_answer c e h) 0 (λ zero. some (is ∙ zero)) in
    rw other

-- ---- one event of a run of two levels

module _ (s : LevelRun) (e : List ℕ) where
  abbrev first_level : Handed
  first_level = handed_of (s.level one)

  abbrev second_level : Handed
  second_level = handed_of (s.level two)

  -- each level alone accepts
  levels_both : (levels_result s e).answer ≡ 0 → ((alone s.context e first_level).step.answer ≡ 0) × ((alone s.context e second_level).step.answer ≡ 0)
  unfolding levels_result
  levels_both zero = both_accept s.context e first_level second_level zero

  accepts_each : (levels_result s e).answer ≡ 0 → (n : LevelNumber) → (counted_result (level_run n s) e).step.answer ≡ 0
  unfolding counted_result level_run
  accepts_each zero one = (levels_both zero).0
  accepts_each zero two = (levels_both zero).1

  -- two accepted steps of one context and event have one verdict
  same_verdict : (levels_result s e).answer ≡ 0 → Same s e
  unfolding verdict counted_result level_run counted_stepped accepted_step
  same_verdict zero =
      let both = levels_both zero in
      let first : own_answer s.context e first_level ≡ 0 =
      sym (counted_stepped_answer s.context (s.level one).kinds (s.level one).pcids (s.level one).table e (length (s.level one).back)) ∙ both.0 in
      let second : own_answer s.context e second_level ≡ 0 =
      sym (counted_stepped_answer s.context (s.level two).kinds (s.level two).pcids (s.level two).table e (length (s.level two).back)) ∙ both.1 in
      rw (first, second)

  -- so each level after it is that of the counted run
  pub levels_accepted_after : (levels_result s e).answer ≡ 0 → (n : LevelNumber) → level_run n (levels_after s e) ≡ counted_after (level_run n s) e
  levels_accepted_after zero n = level_after n s e (alone_steps s e (same_verdict zero) n)

  -- a refused event leaves the context and each level as they were
  given_context : ((levels_result s e).answer ≡ 0 → ⊥) → (given s.context e first_level second_level).context ≡ s.context
  unfolding levels_result levels_stepped given
  given_context some =
      by_answer (alone s.context e first_level).step.answer
      (λ zero. rw zero (alone_context s.context e second_level (λ second. some (rw zero second))))
      (λ first. rw (ne_eqb (alone s.context e first_level).step.answer 0 first) (alone_context s.context e first_level first))

  pub levels_refused_after : ((levels_result s e).answer ≡ 0 → ⊥) → (n : LevelNumber) → level_run n (levels_after s e) ≡ level_run n s
  unfolding level_run levels_after levels_result levels_stepped level_told level_pcids level_written accepted_by_both pcids_of_first first_written pcids_of_second second_written
  levels_refused_after some one = rw (ne_eqb (given s.context e first_level second_level).answer 0 some, given_context some)
  levels_refused_after some two = rw (ne_eqb (given s.context e first_level second_level).answer 0 some, given_context some)

-- ---- the claims

module _ (test : List ℕ → Bool) where
  alike_first : (c : Context) (e : List ℕ) (h k h' k' : Handed) → (levels_stepped c e h k).answer ≡ 0 → (levels_stepped c e h' k').answer ≡ 0
      → Alike test h.table h'.table
      → Alike test (first_table_after c e h k) (first_table_after c e h' k')
  alike_first c e h k h' k' zero zero' same =
      rw ((tables_alone c e h k zero).0, (tables_alone c e h' k' zero').0)
      ((counted_apart test).step c h.kinds h'.kinds h.pcids h'.pcids h.table h'.table e h.buffer h'.buffer (both_accept c e h k zero).0 (both_accept c e h' k' zero').0 same)

  alike_second : (c : Context) (e : List ℕ) (h k h' k' : Handed) → (levels_stepped c e h k).answer ≡ 0 → (levels_stepped c e h' k').answer ≡ 0
      → Alike test k.table k'.table
      → Alike test (second_table_after c e h k) (second_table_after c e h' k')
  alike_second c e h k h' k' zero zero' same =
      rw ((tables_alone c e h k zero).1, (tables_alone c e h' k' zero').1)
      ((counted_apart test).step c k.kinds k'.kinds k.pcids k'.pcids k.table k'.table e k.buffer k'.buffer (both_accept c e h k zero).1 (both_accept c e h' k' zero').1 same)

  module _ (n : LevelNumber) where
    -- a level of each run, as a run of one table
    LevelsAlike : LevelRun → LevelRun → Type 0
    LevelsAlike s s' =
        ((level_run n s).run.context ≡ (level_run n s').run.context) × Alike test (level_run n s).run.table (level_run n s').run.table

    levels_alike_after : (s s' : LevelRun) (e : List ℕ) → LevelsAlike s s' → levels_accept s e ≡ levels_accept s' e → LevelsAlike (levels_after s e) (levels_after s' e)
    unfolding LevelsAlike After
    levels_alike_after s s' e same both =
        by_answer (levels_result s e).answer
        (λ zero.
        let zero' = eqb-true (levels_result s' e).answer 0 (sym both ∙ eq-eqb (levels_result s e).answer 0 zero) in
        rw (levels_accepted_after s e zero n, levels_accepted_after s' e zero' n)
        (counted_alike_after test (level_run n s) (level_run n s') e same.0 same.1 (ap (λ a. eqb a 0) (accepts_each s e zero n ∙ sym (accepts_each s' e zero' n)))))
        (λ some.
        let some' = eqb-false (levels_result s' e).answer 0 (sym both ∙ ne_eqb (levels_result s e).answer 0 some) in
        rw (levels_refused_after s e some n, levels_refused_after s' e some' n) same)

    alike_log : (s s' : LevelRun) (es : List (List ℕ)) → LevelsAlike s s' → LevelsTogether s s' es → LevelsAlike (levels_of s es) (levels_of s' es)
    unfolding levels_of LevelsTogether
    alike_log s s' [] same together = same
    alike_log s s' (e ∷ es) same together = alike_log (levels_after s e) (levels_after s' e) es (levels_alike_after s s' e same together.0) together.1

  levels_log : (n : LevelNumber) (s s' : LevelRun) (es : List (List ℕ)) → s.context ≡ s'.context → Alike test (s.level n).table (s'.level n).table → LevelsTogether s s' es
      → Alike test ((levels_of s es).level n).table ((levels_of s' es).level n).table
  unfolding LevelsAlike level_run
  levels_log n s s' es context same together = (alike_log n s s' es (context, same) together).1

  pub levels_apart : LevelsApart test
  levels_apart = record { first = alike_first; second = alike_second; log = levels_log }

pub levels_renters_apart_holds : LevelsRentersApart
levels_renters_apart_holds = (λ vpid. levels_apart (of_vpid vpid), λ ep4ta. levels_apart (of_ep4ta ep4ta))
