-- An event that is not valid is answered 1 to 4. What judging shows of a valid one is told, or the event performed.
use Rattle.std.proofs.Common.{true, ◌<◌, ◌≡◌, sym, ◌∙◌}
use Rattle.model.specs.Events.{event}
use Rattle.model.specs.Answers.{valid_here}
use Rattle.model.specs.Refusals.{refusal_number}
use Rattle.laws.specs.Events.{valid_event_read, valid_event_invalid}
use Rattle.laws.specs.Refusals.{refusal_number_some, refusal_rule_below_8}
use Rattle.laws.specs.Rules.{rule_below_8}
use Rattle.counted_steps.proofs.Laws.Steps.{counted_of_invalid, invalid_refused, counted_step_refused}
use Rattle.counted_steps.proofs.counted_step.Goals as goal
use Rattle.counted_steps.proofs.counted_step.Goals.{In-Some}

pub returns-in_default : goal.returns-in_default
returns-in_default c =
    let a = c.args in
    let invalid = valid_event_invalid _ _ (sym c.read_event.ensures ∙ c.in_default.is) in
    let is = c.refuse_invalid.ensures in
    let low : refusal_number c.refuse_invalid.result < 8 = rw is (invalid_refused a.c a.table.now).1 in
    let all = counted_step_refused _ _ _ _ _ _ (counted_of_invalid _ _ _ _ _ _ invalid ∙ sym is) (refusal_number_some _) (refusal_rule_below_8 _ low ∙ rule_below_8 _ _ _ low) c.refused.ensures in
    record { value = all.0; pcids_after = all.1.0; after = all.1.1 }

-- the event is valid, and read
read : (c : In-Some)
    → (valid_here c.args.c c.args.event.now ≡ true) × (c.in-Some.e ≡ event c.args.event.now)
read c = valid_event_read _ _ _ (sym c.read_event.ensures ∙ c.in-Some.is)

pub judge-requires : goal.judge-requires
judge-requires c = let all = read (goal.at.judge-requires c).In-Some in record { raw_value = all.0; e_value = all.1 }

pub returns-in-Err : goal.returns-in-Err
returns-in-Err c =
    let shows = rw c.in-Err.is at c.judge.ensures in
    let all = counted_step_refused _ _ _ _ _ _ (sym shows.answer) (refusal_number_some _) shows.rule c.refused-in-Err.ensures in
    record { value = all.0; pcids_after = all.1.0; after = all.1.1 }

pub perform-requires : goal.perform-requires
perform-requires c = record { e_value = (read (goal.at.perform-requires c).In-Some).1; shows = rw c.in-Ok.is at c.judge.ensures }
