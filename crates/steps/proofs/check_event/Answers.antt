-- The event's own refusal, then room.
use Rattle.std.proofs.Common.{Bool, cond, ap, sym, refl, ◌∙◌}
use Rattle.std.proofs.lemmas.Result.{err_from_is_err_and}
use Rattle.model.specs.Answers.{event_answer, rule_with}
use Rattle.laws.specs.Answers.{answer_of_event, answer_of_room}
use Rattle.laws.specs.Refusals.{refusal_number_some}
use Rattle.steps.proofs.check_event.Goals as goal

pub returns-in_err-check_event-clause-answer_value : goal.returns-in_err-check_event-clause-answer_value
returns-in_err-check_event-clause-answer_value c =
    let p = err_from_is_err_and c.from_residual.result c.from_residual.ensures.1 in
    let is = c.in_err-check_event.ensures.answer ∙ ap (event_answer c.args.c) c.requires.e_value in
    rw (p.1, p.2) (is ∙ sym (answer_of_event _ _ _ _ c.requires.table_value c.requires.raw_value (λ z. refusal_number_some _ (is ∙ z))))

pub returns-in_err-check_event-clause-rule_value : goal.returns-in_err-check_event-clause-rule_value
unfolding rule_with
returns-in_err-check_event-clause-rule_value c =
    let p = err_from_is_err_and c.from_residual.result c.from_residual.ensures.1 in
    rw (p.1, p.2, c.in_err-check_event.ensures.answer, ← c.requires.e_value) c.in_err-check_event.ensures.rule

pub returns-then-is_without_room-clause-answer_value : goal.returns-then-is_without_room-clause-answer_value
returns-then-is_without_room-clause-answer_value c =
    let none = sym (c.in_ok-check_event.ensures.answer ∙ ap (event_answer c.args.c) c.requires.e_value) in
    sym (answer_of_room _ _ _ _ c.requires.table_value c.requires.raw_value none ∙ ap (λ (b : Bool). cond b 12 0) (sym c.is_without_room.ensures ∙ c.if-is_without_room.true))

pub returns-then-is_without_room-clause-rule_value : goal.returns-then-is_without_room-clause-rule_value
unfolding rule_with
returns-then-is_without_room-clause-rule_value c = refl

pub returns-clause-answer_value : goal.returns-clause-answer_value
returns-clause-answer_value c =
    let none = sym (c.in_ok-check_event.ensures.answer ∙ ap (event_answer c.args.c) c.requires.e_value) in
    sym (answer_of_room _ _ _ _ c.requires.table_value c.requires.raw_value none ∙ ap (λ (b : Bool). cond b 12 0) (sym c.is_without_room.ensures ∙ c.if-is_without_room.false))

pub returns-clause-rule_value : goal.returns-clause-rule_value
unfolding rule_with
returns-clause-rule_value c = refl
