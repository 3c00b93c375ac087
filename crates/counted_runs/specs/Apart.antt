-- Document 02, Ask 14, of the step that carries a tally (Ask 7) and of counted runs. What an event leaves of one VPID's
-- records depends on no other record of the table, and on the tallies only in whether it is accepted; and the like for
-- guest-physical records by EP4TA.
use Rattle.std.specs.Prelude.{ℕ, Bool, List, [], ◌∷◌, ◌≡◌, eqb, length, take}
use Rattle.model.specs.declared.Context.{Context}
use Rattle.tally_rows.specs.declared.KindCounts.{KindCounts}
use Rattle.counted_steps.specs.Steps.{counted_stepped, counted_written}
use Rattle.runs.specs.Apart.{of_vpid, of_ep4ta, Alike}
use Rattle.counted_runs.specs.Runs.{CountedRun, counted_result, counted_after, counted_of}

-- the new table of a counted step into a buffer
unfoldable pub counted_table_after : Context → List KindCounts → List ℕ → List ℕ → List ℕ → List ℕ → List ℕ
counted_table_after c kinds pcids t e buffer =
    take (counted_stepped c kinds pcids t e (length buffer)).step.length (counted_written c kinds pcids t e buffer)

-- the run accepts the event
abbrev pub accepts : CountedRun → List ℕ → Bool
accepts s e = eqb (counted_result s e).step.answer 0

-- "each event is accepted in both or refused in both"
unfoldable pub CountedTogether : CountedRun → CountedRun → List (List ℕ) → Type 0
CountedTogether s s' [] = Unit {0}
CountedTogether s s' (e ∷ es) = (accepts s e ≡ accepts s' e) × CountedTogether (counted_after s e) (counted_after s' e) es

-- two tables that are alike, each with a tally of its own, stay so under one event that both steps accept, and over a log,
-- "from any two such tables with one context"; the tallies may match their tables or not
pub record CountedApart (test : List ℕ → Bool) : Type 0 where
  pub step : (c : Context) (kinds kinds' : List KindCounts) (pcids pcids' t t' e buffer buffer' : List ℕ)
      → (counted_stepped c kinds pcids t e (length buffer)).step.answer ≡ 0
      → (counted_stepped c kinds' pcids' t' e (length buffer')).step.answer ≡ 0
      → Alike test t t'
      → Alike test (counted_table_after c kinds pcids t e buffer) (counted_table_after c kinds' pcids' t' e buffer')
  pub log : (s s' : CountedRun) (es : List (List ℕ))
      → s.run.context ≡ s'.run.context
      → Alike test s.run.table s'.run.table
      → CountedTogether s s' es
      → Alike test (counted_of s es).run.table (counted_of s' es).run.table

abbrev pub CountedRentersApart : Type 0
CountedRentersApart = ((vpid : ℕ) → CountedApart (of_vpid vpid)) × ((ep4ta : ℕ) → CountedApart (of_ep4ta ep4ta))
