-- Document 02, Ask 10: the step of two tables. "Each event steps both tables; if either would be refused, neither is
-- written and the context stays. Room is judged for each against its own buffer, and a creation goes into both. Each table
-- keeps its own tally."
use Rattle.std.specs.Prelude.{ℕ, Bool, cond, List, eqb, length}
use Rattle.model.specs.declared.Context.{Context}
use Rattle.model.specs.declared.Step.{Step}
use Rattle.tally_rows.specs.declared.KindCounts.{KindCounts}
use Rattle.counted_steps.specs.declared.CountedStep.{CountedStep}
use Rattle.counted_steps.specs.Steps.{counted_stepped, counted_pcids, counted_written}
use Rattle.level_steps.specs.declared.Level.{Level}
use Rattle.level_steps.specs.declared.LevelStep.{LevelStep}

-- one of the two tables, with its own tally and its own new buffer
pub record Handed : Type 0 where
  pub kinds : List KindCounts
  pub pcids : List ℕ
  pub table : List ℕ
  pub buffer : List ℕ

abbrev pub handed : List KindCounts → List ℕ → List ℕ → List ℕ → Handed
handed kinds pcids t b = record { kinds = kinds; pcids = pcids; table = t; buffer = b }

-- what one of them does alone: Ask 7's step, its counts by PCID and its new buffer after it
abbrev pub alone : Context → List ℕ → Handed → CountedStep
alone c e h = counted_stepped c h.kinds h.pcids h.table e (length h.buffer)

abbrev pub alone_pcids : Context → List ℕ → Handed → List ℕ
alone_pcids c e h = counted_pcids c h.kinds h.pcids h.table e (length h.buffer)

abbrev pub alone_written : Context → List ℕ → Handed → List ℕ
alone_written c e h = counted_written c h.kinds h.pcids h.table e h.buffer

-- "the number is the first table's, or the second's where that is 0, for steps too": the step whose answer is given
unfoldable pub given : Context → List ℕ → Handed → Handed → Step
given c e h k = cond (eqb (alone c e h).step.answer 0) (alone c e k).step (alone c e h).step

-- "accepted for both"
unfoldable pub accepted_by_both : Context → List ℕ → Handed → Handed → Bool
accepted_by_both c e h k = eqb (given c e h k).answer 0

-- what is reported of a table: of an accepted step what that of the table alone does, of a refused one 0 and 0, with the
-- counts as they came
abbrev pub level_of : CountedStep → Level
level_of s = record { length = s.step.length; dropped = s.step.dropped; kinds = s.kinds }

abbrev pub level_refusal : List KindCounts → Level
level_refusal kinds = record { length = 0; dropped = 0; kinds = kinds }

abbrev pub levels_refusal : ℕ → ℕ → Context → List KindCounts → List KindCounts → LevelStep
levels_refusal answer rule c kinds kinds' =
    record { answer = answer; rule = rule; context = c; first = level_refusal kinds; second = level_refusal kinds' }

unfoldable pub levels_stepped : Context → List ℕ → Handed → Handed → LevelStep
levels_stepped c e h k =
    record {
      answer = (given c e h k).answer;
      rule = (given c e h k).rule;
      context = (given c e h k).context;
      first = cond (accepted_by_both c e h k) (level_of (alone c e h)) (level_refusal h.kinds);
      second = cond (accepted_by_both c e h k) (level_of (alone c e k)) (level_refusal k.kinds);
    }

-- the counts by PCID and the new buffers after it
unfoldable pub pcids_of_first : Context → List ℕ → Handed → Handed → List ℕ
pcids_of_first c e h k = cond (accepted_by_both c e h k) (alone_pcids c e h) h.pcids

unfoldable pub first_written : Context → List ℕ → Handed → Handed → List ℕ
first_written c e h k = cond (accepted_by_both c e h k) (alone_written c e h) h.buffer

unfoldable pub pcids_of_second : Context → List ℕ → Handed → Handed → List ℕ
pcids_of_second c e h k = cond (accepted_by_both c e h k) (alone_pcids c e k) k.pcids

unfoldable pub second_written : Context → List ℕ → Handed → Handed → List ℕ
second_written c e h k = cond (accepted_by_both c e h k) (alone_written c e k) k.buffer
