-- An event that is not valid is answered for the first table. What judging shows of either table is told, the first's first;
-- else both perform the event.
use Rattle.std.proofs.Common.{true, ◌<◌, ◌≡◌, sym, ◌∙◌}
use Rattle.model.specs.Events.{event}
use Rattle.model.specs.Answers.{valid_here}
use Rattle.model.specs.Refusals.{refusal_number}
use Rattle.laws.specs.Events.{valid_event_read, valid_event_invalid}
use Rattle.laws.specs.Refusals.{refusal_number_some, refusal_rule_below_8}
use Rattle.laws.specs.Rules.{rule_below_8}
use Rattle.counted_steps.proofs.Laws.Steps.{counted_of_invalid, invalid_refused}
use Rattle.level_steps.proofs.Laws.Levels.{refused_by_first, refused_by_second, levels_accepted}
use Rattle.level_steps.proofs.step.Goals as goal
use Rattle.level_steps.proofs.step.Goals.{In-Some}

pub returns-in_default : goal.returns-in_default
returns-in_default c =
    let a = c.args in
    let invalid = valid_event_invalid _ _ (sym c.read_event.ensures ∙ c.in_default.is) in
    let is = c.refuse_invalid.ensures in
    let low : refusal_number c.refuse_invalid.result < 8 = rw is (invalid_refused a.c a.table.now).1 in
    let all = refused_by_first _ _ _ _ (is ∙ sym (counted_of_invalid _ _ _ _ _ _ invalid)) (refusal_number_some _) (refusal_rule_below_8 _ low ∙ rule_below_8 _ _ _ low) c.refused.ensures in
    record { value = all.0; pcids_after = all.1.0; after = all.1.1.0; second_pcids_after = all.1.1.1.0; second_new_after = all.1.1.1.1 }

-- the event is valid, and read
read : (c : In-Some)
    → (valid_here c.args.c c.args.event.now ≡ true) × (c.in-Some.e ≡ event c.args.event.now)
read c = valid_event_read _ _ _ (sym c.read_event.ensures ∙ c.in-Some.is)

pub judge-requires : goal.judge-requires
judge-requires c = let all = read (goal.at.judge-requires c).In-Some in record { raw_value = all.0; e_value = all.1 }

pub returns-in-Err : goal.returns-in-Err
returns-in-Err c =
    let shows = c.in-Err.ensures in
    let all = refused_by_first _ _ _ _ shows.answer (refusal_number_some _) shows.rule c.refused-in-Err.ensures in
    record { value = all.0; pcids_after = all.1.0; after = all.1.1.0; second_pcids_after = all.1.1.1.0; second_new_after = all.1.1.1.1 }

pub judge-requires-2 : goal.judge-requires-2
judge-requires-2 c = let all = read (goal.at.judge-requires-2 c).In-Some in record { raw_value = all.0; e_value = all.1 }

pub returns-in-Err-judge : goal.returns-in-Err-judge
returns-in-Err-judge c =
    let shows = c.in-Err-judge.ensures in
    let all = refused_by_second _ _ _ _ (sym c.in-Ok.ensures.answer) shows.answer (refusal_number_some _) shows.rule c.refused-in-Err-judge.ensures in
    record { value = all.0; pcids_after = all.1.0; after = all.1.1.0; second_pcids_after = all.1.1.1.0; second_new_after = all.1.1.1.1 }

pub perform-first-requires-clause-e_value : goal.perform-first-requires-clause-e_value
perform-first-requires-clause-e_value c = (read (goal.at.perform-first-requires-clause-e_value c).In-Some).1

pub perform-second-requires-clause-e_value : goal.perform-second-requires-clause-e_value
perform-second-requires-clause-e_value c = (read (goal.at.perform-second-requires-clause-e_value c).In-Some).1

pub returns : goal.returns
returns c =
    let one = c.perform-first.ensures in
    let two = c.perform-second.ensures in
    let all = levels_accepted _ _ _ _ (sym c.in-Ok.ensures.answer) (sym c.in-Ok-judge.ensures.answer) one.value two.value c.level_of.ensures c.level_of-2.ensures one.pcids_after one.after two.pcids_after two.after in
    record { value = all.0; pcids_after = all.1.0; after = all.1.1.0; second_pcids_after = all.1.1.1.0; second_new_after = all.1.1.1.1 }
