-- Rows about the results of two levels as flat structs, all under one statement. The numbers of a row differ, so that none is
-- taken for another.
use Rattle.std.specs.Prelude.{ℕ, List, [], ◌∷◌, ◌≡◌, refl}
use Rattle.model.specs.declared.Context.{Context}
use Rattle.model.specs.declared.Place.TheVariants.{Root}
use Rattle.tally_rows.specs.declared.KindCounts.{KindCounts}
use Rattle.level_steps.specs.declared.LevelStep.{LevelStep}
use Rattle.level_steps.specs.Levels.{Handed, handed}
use Rattle.flat_contexts.specs.declared.FlatContext.{FlatContext}
use Rattle.flat_contexts.specs.Contexts.{is_known, flatten}
use Rattle.flat_levels.specs.declared.FlatLevelStep.{FlatLevelStep}
use Rattle.flat_levels.specs.Flat.{flat_levels_result, flat_levels_step, flat_first_pcids, flat_first_written, flat_second_pcids, flat_second_written, flat_levels_lookup}

-- a context in root, and contexts as numbers: place 1 is root, 3 stands for nothing
context : Context
context = record { capability = 11; width = 12; linear_width = 15; pcid = 13; cpl = 14; place = Root }

numbers : ℕ → FlatContext
numbers place = record { capability = 11; width = 12; linear_width = 15; pcid = 13; cpl = 14; place = place; vpid = 0; ept = 0; ep4ta = 0 }

counts : ℕ → List KindCounts
counts n = record { spans = n ∷ [] } ∷ []

-- a step with an answer, and the same with a context as numbers
told : ℕ → LevelStep
told answer =
    record {
      answer = answer;
      rule = 4;
      context = context;
      first = record { length = 21; dropped = 22; kinds = counts 23 };
      second = record { length = 31; dropped = 32; kinds = counts 33 };
    }

flat : ℕ → FlatContext → FlatLevelStep
flat answer c =
    record {
      answer = answer;
      rule = 4;
      context = c;
      first = record { length = 21; dropped = 22; kinds = counts 23 };
      second = record { length = 31; dropped = 32; kinds = counts 33 };
    }

-- two tables, each with its counts, its counts by PCID, its bytes and its buffer
one : Handed
one = handed (counts 41) (42 ∷ []) (43 ∷ []) (44 ∷ [])

two : Handed
two = handed (counts 51) (52 ∷ []) (53 ∷ []) (54 ∷ [])

-- Every row holds.
record Rows : Type 0 where
  accepted : flat_levels_result (numbers 3) (told 0) ≡ flat 0 (numbers 1)
  refused : flat_levels_result (numbers 3) (told 8) ≡ flat 8 (numbers 3)
  unknown : flat_levels_step (numbers 3) (25 ∷ []) one two
      ≡ record {
        answer = 1;
        rule = 0;
        context = numbers 3;
        first = record { length = 0; dropped = 0; kinds = counts 41 };
        second = record { length = 0; dropped = 0; kinds = counts 51 };
      }
  unchanged : flat_first_pcids (numbers 3) (25 ∷ []) one two ≡ 42 ∷ []
  unwritten : flat_first_written (numbers 3) (25 ∷ []) one two ≡ 44 ∷ []
  second_unchanged : flat_second_pcids (numbers 3) (25 ∷ []) one two ≡ 52 ∷ []
  second_unwritten : flat_second_written (numbers 3) (25 ∷ []) one two ≡ 54 ∷ []
  nowhere : flat_levels_lookup (numbers 3) 0 [] [] ≡ record { answer = 1; level = 0; start = 0; length = 0 }

cards_hold : Rows
unfolding context numbers counts told flat one two is_known flatten flat_levels_step flat_first_pcids flat_first_written flat_second_pcids flat_second_written flat_levels_lookup
cards_hold =
    record {
      accepted = refl;
      refused = refl;
      unknown = refl;
      unchanged = refl;
      unwritten = refl;
      second_unchanged = refl;
      second_unwritten = refl;
      nowhere = refl;
    }
