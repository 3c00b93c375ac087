-- The results of the step and the lookup of two levels as flat structs of numbers, for callers in other languages.
use Rattle.std.specs.Prelude.{ℕ, ◌-◌, cond, List, eqb, length}
use Rattle.tally_rows.specs.declared.KindCounts.{KindCounts}
use Rattle.level_lookups.specs.Levels.{lookup_levels_answer, lookup_levels_level, lookup_levels_start, lookup_levels}
use Rattle.level_steps.specs.declared.Level.{Level}
use Rattle.level_steps.specs.declared.LevelStep.{LevelStep}
use Rattle.level_steps.specs.Levels.{Handed, level_refusal, levels_stepped, pcids_of_first, first_written, pcids_of_second, second_written}
use Rattle.flat_contexts.specs.declared.FlatContext.{FlatContext}
use Rattle.flat_contexts.specs.Contexts.{is_known, unflatten, flatten}
use Rattle.flat_levels.specs.declared.FlatLevel.{FlatLevel}
use Rattle.flat_levels.specs.declared.FlatLevelStep.{FlatLevelStep}
use Rattle.flat_levels.specs.declared.FlatLevelPart.{FlatLevelPart}

abbrev pub flat_level : Level → FlatLevel
flat_level l = record { length = l.length; dropped = l.dropped; kinds = l.kinds }

-- answer 1 where a number stands for nothing
abbrev pub flat_levels_refusal : FlatContext → List KindCounts → List KindCounts → FlatLevelStep
flat_levels_refusal c kinds kinds' =
    record { answer = 1; rule = 0; context = c; first = flat_level (level_refusal kinds); second = flat_level (level_refusal kinds') }

-- a step's result; a refusal hands back the context as it came
abbrev pub flat_levels_result : FlatContext → LevelStep → FlatLevelStep
flat_levels_result c s =
    record {
      answer = s.answer;
      rule = s.rule;
      context = cond (eqb s.answer 0) (flatten s.context) c;
      first = flat_level s.first;
      second = flat_level s.second;
    }

unfoldable pub flat_levels_step : FlatContext → List ℕ → Handed → Handed → FlatLevelStep
flat_levels_step c e h k =
    cond (is_known c) (flat_levels_result c (levels_stepped (unflatten c) e h k)) (flat_levels_refusal c h.kinds k.kinds)

-- the counts by PCID and the new buffers after it
unfoldable pub flat_first_pcids : FlatContext → List ℕ → Handed → Handed → List ℕ
flat_first_pcids c e h k = cond (is_known c) (pcids_of_first (unflatten c) e h k) h.pcids

unfoldable pub flat_first_written : FlatContext → List ℕ → Handed → Handed → List ℕ
flat_first_written c e h k = cond (is_known c) (first_written (unflatten c) e h k) h.buffer

unfoldable pub flat_second_pcids : FlatContext → List ℕ → Handed → Handed → List ℕ
flat_second_pcids c e h k = cond (is_known c) (pcids_of_second (unflatten c) e h k) k.pcids

unfoldable pub flat_second_written : FlatContext → List ℕ → Handed → Handed → List ℕ
flat_second_written c e h k = cond (is_known c) (second_written (unflatten c) e h k) k.buffer

-- a part of a table as numbers, from its start and end
abbrev pub flat_part : ℕ → ℕ → ℕ → ℕ → FlatLevelPart
flat_part answer level start end = record { answer = answer; level = level; start = start; length = end - start }

-- a lookup: its answer, the level that has the part, and where it stands in that table
unfoldable pub flat_levels_lookup : FlatContext → ℕ → List ℕ → List ℕ → FlatLevelPart
flat_levels_lookup c address t u =
    cond (is_known c)
    (record {
      answer = lookup_levels_answer (unflatten c) t u;
      level = lookup_levels_level (unflatten c) address t u;
      start = lookup_levels_start (unflatten c) address t u;
      length = length (lookup_levels (unflatten c) address t u);
    })
    (record { answer = 1; level = 0; start = 0; length = 0 })
