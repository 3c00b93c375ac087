-- Each refusal is the first ground that applies; else the event is performed without a count.
use Rattle.std.proofs.Common.{true, ◌<◌, ◌≡◌, sym, refl, ◌∙◌}
use Rattle.std.proofs.lemmas.Bool.{false≢true}
use Rattle.std.proofs.lemmas.Result.{err_from_is_err_and}
use native.Mathlib.Omega.{arith}
use Rattle.model.specs.Events.{event}
use Rattle.model.specs.Answers.{valid_here, rule_with}
use Rattle.model.specs.Refusals.{refusal_number}
use Rattle.laws.specs.Answers.{answer_of_table, answer_of_invalid, accepted_parts}
use Rattle.laws.specs.Events.{valid_event_read, valid_event_invalid}
use Rattle.laws.specs.Refusals.{refusal_number_some, refusal_rule_below_8}
use Rattle.laws.specs.Rules.{rule_below_8, table_answer_below_8}
use Rattle.laws.specs.Steps.{step_refused, step_accepted}
use Rattle.steps.proofs.Laws.Acceptances.{acceptance_accepted}
use Rattle.steps.proofs.try_step.Goals as goal
use Rattle.steps.proofs.try_step.Goals.{In-Some}

pub returns-in_err-count : goal.returns-in_err-count
returns-in_err-count c =
    let a = c.args in
    let p = err_from_is_err_and c.from_residual.result c.from_residual.ensures.1 in
    let is = c.in_err-count.ensures.answer_value in
    let low : refusal_number c.in_err-count.field-0.0 < 8 = rw is (table_answer_below_8 a.c a.table.now) in
    let rule = refusal_rule_below_8 _ low ∙ rule_below_8 a.c a.event.now _ low in
    let all = step_refused _ _ _ _ (answer_of_table _ _ _ _ (λ z. refusal_number_some _ (is ∙ z)) ∙ sym is) (refusal_number_some _) rule refl in
    record { value = rw (p.1, p.2) all.0; after = all.1 }

pub returns-in_default : goal.returns-in_default
unfolding rule_with
returns-in_default c =
    let invalid = valid_event_invalid _ _ (sym c.read_event.ensures ∙ c.in_default.is) in
    let all = step_refused _ _ _ _ (answer_of_invalid _ _ _ _ (sym c.in_ok-count.ensures.answer_value) invalid) (λ z. omega arith) refl refl in
    record { value = all.0; after = all.1 }

-- the event is valid, and was read
read : (c : In-Some)
    → (valid_here c.args.c c.args.event.now ≡ true) × (c.in-Some.e ≡ event c.args.event.now)
read c = valid_event_read _ _ _ (sym c.read_event.ensures ∙ c.in-Some.is)

pub check_event-requires-clause-raw_value : goal.check_event-requires-clause-raw_value
check_event-requires-clause-raw_value c = (read (goal.at.check_event-requires-clause-raw_value c).In-Some).0

pub check_event-requires-clause-e_value : goal.check_event-requires-clause-e_value
check_event-requires-clause-e_value c = (read (goal.at.check_event-requires-clause-e_value c).In-Some).1

pub returns-in_err-check_event : goal.returns-in_err-check_event
returns-in_err-check_event c =
    let p = err_from_is_err_and c.from_residual-in_err-check_event.result c.from_residual-in_err-check_event.ensures.1 in
    let check = c.in_err-check_event.ensures in
    let all = step_refused _ _ _ _ (sym check.answer_value) (refusal_number_some _) check.rule_value refl in
    record { value = rw (p.1, p.2) all.0; after = all.1 }

pub perform-performed-requires-clause-raw_value : goal.perform-performed-requires-clause-raw_value
perform-performed-requires-clause-raw_value c = (read (goal.at.perform-performed-requires-clause-raw_value c).In-Some).0

pub perform-performed-requires-clause-e_value : goal.perform-performed-requires-clause-e_value
perform-performed-requires-clause-e_value c = (read (goal.at.perform-performed-requires-clause-e_value c).In-Some).1

pub perform-performed-requires-clause-raw_in_bounds : goal.perform-performed-requires-clause-raw_in_bounds
perform-performed-requires-clause-raw_in_bounds c = (accepted_parts _ _ _ _ (sym c.in_ok-check_event.ensures.answer_value)).fits

pub returns : goal.returns
returns c =
    let done = c.perform-performed.ensures in
    let answered = sym c.in_ok-check_event.ensures.answer_value in
    let all = step_accepted _ _ _ _ answered (c.accepted.ensures ∙ acceptance_accepted _ _ _ (read (goal.at.returns c).In-Some).1 done.length_value) done.after in
    record { value = all.0; after = all.1 }
