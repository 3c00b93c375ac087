-- Document 02, Ask 14, of each table of two levels (Ask 10): what an event leaves of one VPID's records in a level depends on
-- no other record of that level and on none of the other, but for whether both accept the event; and the like for
-- guest-physical records by EP4TA.
use Rattle.std.specs.Prelude.{ℕ, Bool, List, [], ◌∷◌, ◌≡◌, eqb, take}
use Rattle.model.specs.declared.Context.{Context}
use Rattle.level_steps.specs.Levels.{Handed, levels_stepped, first_written, second_written}
use Rattle.runs.specs.Apart.{of_vpid, of_ep4ta, Alike}
use Rattle.level_runs.specs.Runs.{LevelNumber, LevelRun, levels_result, levels_after, levels_of}

-- the new table of each level after a step of both
unfoldable pub first_table_after : Context → List ℕ → Handed → Handed → List ℕ
first_table_after c e h k = take (levels_stepped c e h k).first.length (first_written c e h k)

unfoldable pub second_table_after : Context → List ℕ → Handed → Handed → List ℕ
second_table_after c e h k = take (levels_stepped c e h k).second.length (second_written c e h k)

-- the run accepts the event, for both levels
abbrev pub levels_accept : LevelRun → List ℕ → Bool
levels_accept s e = eqb (levels_result s e).answer 0

-- "each event is accepted in both or refused in both"
unfoldable pub LevelsTogether : LevelRun → LevelRun → List (List ℕ) → Type 0
LevelsTogether s s' [] = Unit {0}
LevelsTogether s s' (e ∷ es) = (levels_accept s e ≡ levels_accept s' e) × LevelsTogether (levels_after s e) (levels_after s' e) es

-- two pairs of tables, one level of which is alike in both, under one event that both steps accept, and over a log, "from any
-- two such tables with one context"; the other level, the tallies and the buffers are any
pub record LevelsApart (test : List ℕ → Bool) : Type 0 where
  pub first : (c : Context) (e : List ℕ) (h k h' k' : Handed)
      → (levels_stepped c e h k).answer ≡ 0
      → (levels_stepped c e h' k').answer ≡ 0
      → Alike test h.table h'.table
      → Alike test (first_table_after c e h k) (first_table_after c e h' k')
  pub second : (c : Context) (e : List ℕ) (h k h' k' : Handed)
      → (levels_stepped c e h k).answer ≡ 0
      → (levels_stepped c e h' k').answer ≡ 0
      → Alike test k.table k'.table
      → Alike test (second_table_after c e h k) (second_table_after c e h' k')
  pub log : (n : LevelNumber) (s s' : LevelRun) (es : List (List ℕ))
      → s.context ≡ s'.context
      → Alike test (s.level n).table (s'.level n).table
      → LevelsTogether s s' es
      → Alike test ((levels_of s es).level n).table ((levels_of s' es).level n).table

abbrev pub LevelsRentersApart : Type 0
LevelsRentersApart = ((vpid : ℕ) → LevelsApart (of_vpid vpid)) × ((ep4ta : ℕ) → LevelsApart (of_ep4ta ep4ta))
