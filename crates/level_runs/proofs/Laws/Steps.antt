-- One step of two levels: where each alone would get the same answer, rule and context, each does what it does alone. So
-- does a removal.
use Rattle.std.specs.Prelude.{ℕ, Bool, true, false, cond, List, ◌≡◌, refl, eqb, length, take}
use Rattle.std.proofs.Math.Path.{sym, ap}
use Rattle.std.proofs.Common.{◌∙◌}
use Rattle.model.specs.declared.Context.{Context}
use Rattle.model.specs.declared.Step.{Step}
use Rattle.counted_steps.specs.declared.CountedStep.{CountedStep}
use Rattle.counted_steps.specs.Steps.{counted_pcids, counted_written}
use Rattle.level_steps.specs.declared.Level.{Level}
use Rattle.level_steps.specs.Levels.{alone, given, levels_stepped, level_of}
use Rattle.level_steps.proofs.Laws.Levels.{Each, each_accepted, each_refused}
use Rattle.runs.specs.Runs.{Run, started, moved, report, run_without, Verdict, verdict}
use Rattle.runs.proofs.Laws.Steps.{by_answer}
use Rattle.counted_runs.specs.Runs.{CountedRun, counted_started, counted_result, counted_after, counted_without}
use Rattle.level_runs.specs.Runs.{LevelNumber, one, two, LevelState, LevelRun, level_run, levels_started, handed_of, levels_result, level_told, level_pcids, level_written, levels_after, level_report, levels_without}

-- what a step of both levels does to one of them is what it does alone
pub record Alone (n : LevelNumber) (s : LevelRun) (e : List ℕ) : Type 0 where
  pub answer : (levels_result s e).answer ≡ (counted_result (level_run n s) e).step.answer
  pub rule : (levels_result s e).rule ≡ (counted_result (level_run n s) e).step.rule
  pub context : (levels_result s e).context ≡ (counted_result (level_run n s) e).step.context
  pub told : level_told n (levels_result s e) ≡ level_of (counted_result (level_run n s) e)
  pub pcids : level_pcids n s e ≡ counted_pcids s.context (s.level n).kinds (s.level n).pcids (s.level n).table e (length (s.level n).back)
  pub written : level_written n s e ≡ counted_written s.context (s.level n).kinds (s.level n).pcids (s.level n).table e (s.level n).back

-- each alone would get the same answer, rule and context
abbrev pub Same : LevelRun → List ℕ → Type 0
Same s e = verdict (report (counted_result (level_run one s) e).step) ≡ verdict (report (counted_result (level_run two s) e).step)

module _ (s : LevelRun) (e : List ℕ) (same : Same s e) where
  abbrev step_of : LevelNumber → Step
  step_of n = (alone s.context e (handed_of (s.level n))).step

  same_answer : (step_of one).answer ≡ (step_of two).answer
  unfolding verdict counted_result level_run
  same_answer = ap (λ (v : Verdict). v.answer) same

  same_rule : (step_of one).rule ≡ (step_of two).rule
  unfolding verdict counted_result level_run
  same_rule = ap (λ (v : Verdict). v.rule) same

  same_context : (step_of one).context ≡ (step_of two).context
  unfolding verdict counted_result level_run
  same_context = ap (λ (v : Verdict). v.context) same

  -- whichever step's answer is given
  of_given : (n : LevelNumber) (m : LevelNumber) → Each s.context e (handed_of (s.level one)) (handed_of (s.level two)) same_answer
      → given s.context e (handed_of (s.level one)) (handed_of (s.level two)) ≡ step_of m
      → Alone n s e
  unfolding levels_result levels_stepped level_told level_pcids level_written counted_result level_run
  of_given one one each is =
      record { answer = each.answer; rule = ap (λ (r : Step). r.rule) is; context = ap (λ (r : Step). r.context) is; told = each.first; pcids = each.first_counts; written = each.first_buffer }
  of_given one two each is =
      record { answer = each.answer; rule = ap (λ (r : Step). r.rule) is ∙ sym same_rule; context = ap (λ (r : Step). r.context) is ∙ sym same_context; told = each.first; pcids = each.first_counts; written = each.first_buffer }
  of_given two one each is =
      record { answer = each.answer ∙ same_answer; rule = ap (λ (r : Step). r.rule) is ∙ same_rule; context = ap (λ (r : Step). r.context) is ∙ same_context; told = each.second; pcids = each.second_counts; written = each.second_buffer }
  of_given two two each is =
      record { answer = each.answer ∙ same_answer; rule = ap (λ (r : Step). r.rule) is; context = ap (λ (r : Step). r.context) is; told = each.second; pcids = each.second_counts; written = each.second_buffer }

  pub alone_steps : (n : LevelNumber) → Alone n s e
  alone_steps n =
      by_answer (step_of one).answer
      (λ zero. let both = each_accepted s.context e (handed_of (s.level one)) (handed_of (s.level two)) same_answer zero in of_given n two both.0 both.1)
      (λ some. let both = each_refused s.context e (handed_of (s.level one)) (handed_of (s.level two)) same_answer some in of_given n one both.0 both.1)

-- a level after a step, as a run of one table, from what the step tells
abbrev built : LevelState → Bool → Context → Level → List ℕ → List ℕ → CountedRun
built l accepted c told p b =
    let l' : LevelState =
    cond accepted
    (record { kinds = told.kinds; pcids = p; table = take told.length b; front = b; back = l.front })
    (record { kinds = told.kinds; pcids = p; table = l.table; front = l.front; back = b }) in
    record { run = record { context = c; table = l'.table; front = l'.front; back = l'.back }; kinds = l'.kinds; pcids = l'.pcids }

built_moved : (n : LevelNumber) (s : LevelRun) (r : CountedStep) (p b : List ℕ)
    → built (s.level n) (eqb r.step.answer 0) r.step.context (level_of r) p b ≡ record { run = moved (level_run n s).run r.step b; kinds = r.kinds; pcids = p }
unfolding level_run
built_moved n s r p b = go (eqb r.step.answer 0)
  where
    go : (accepted : Bool) → built (s.level n) accepted r.step.context (level_of r) p b
        ≡ record {
          run = cond {A = Run} accepted
              (record { context = r.step.context; table = take r.step.length b; front = b; back = (s.level n).front })
              (record { context = r.step.context; table = (s.level n).table; front = (s.level n).front; back = b });
          kinds = r.kinds;
          pcids = p;
        }
    go true = refl
    go false = refl

-- so the level after it is that of the run of one table, and so is what is told of it
module _ (n : LevelNumber) (s : LevelRun) (e : List ℕ) (does : Alone n s e) where
  pub level_after : level_run n (levels_after s e) ≡ counted_after (level_run n s) e
  unfolding level_run levels_after counted_after
  level_after =
      (λ i. built (s.level n) (eqb (does.answer i) 0) (does.context i) (does.told i) (does.pcids i) (does.written i))
      ∙ built_moved n s (counted_result (level_run n s) e) _ _

  pub level_reported : level_report n (levels_result s e) ≡ report (counted_result (level_run n s) e).step
  unfolding level_report
  level_reported = λ i. record { answer = does.answer i; rule = does.rule i; dropped = (does.told i).dropped; context = does.context i }

-- a level at the start, and after a removal
pub level_started : (n : LevelNumber) (c : Context) (a b : LevelNumber → List ℕ) → level_run n (levels_started c a b) ≡ counted_started c (a n) (b n)
unfolding level_run levels_started counted_started started
level_started n c a b = refl

pub level_without : (n : LevelNumber) (gone : LevelNumber → List Bool) (s : LevelRun) → level_run n (levels_without gone s) ≡ counted_without (gone n) (level_run n s)
unfolding level_run levels_without counted_without run_without
level_without n gone s = refl
