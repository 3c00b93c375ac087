-- Each ground gives its judgement; past them the claim is matched.
use Rattle.std.proofs.Common.{true, ◌<◌, ◌≤◌, ◌≡◌, refl, sym, ◌∙◌, arith, length}
use Rattle.std.proofs.lemmas.Result.{err_from_is_err_and}
use Rattle.model.specs.Tables.{limit}
use Rattle.model.specs.Events.{event}
use Rattle.model.specs.Answers.{valid_here, valid_table, answer, rule_with}
use Rattle.model.specs.Refusals.{refusal_number}
use Rattle.laws.specs.Answers.{answer_of_table, answer_of_invalid, stored_valid, valid_table_parts}
use Rattle.laws.specs.Events.{valid_event_read, valid_event_invalid}
use Rattle.laws.specs.Refusals.{refusal_number_some, refusal_rule_below_8}
use Rattle.laws.specs.Rules.{rule_below_8, table_answer_below_8}
use Rattle.laws.specs.Steps.{judged_whole}
use Rattle.claims.proofs.Laws.Judgements.{malformed_refused, malformed_valid, answer_of_ok, judgement_refused, judgement_malformed, judgement_matched}
use Rattle.claims.proofs.try_judge.Goals as goal
use Rattle.claims.proofs.try_judge.Goals.{In-Some, In_ok-check_event, Else-is_err}

pub returns-in_err-judge_in : goal.returns-in_err-judge_in
returns-in_err-judge_in c =
    let a = c.args in
    let p = err_from_is_err_and c.from_residual.result c.from_residual.ensures.1 in
    let is = c.in_err-judge_in.ensures.answer_value in
    let some = refusal_number_some c.in_err-judge_in.field-0.0 in
    let low : refusal_number c.in_err-judge_in.field-0.0 < 8 = rw is (table_answer_below_8 a.c a.table.now) in
    let rule = refusal_rule_below_8 _ low ∙ rule_below_8 a.c a.event.now _ low in
    rw (p.1, p.2) (sym (judgement_refused a.c a.table.now a.event.now a.claim.now (answer_of_table _ _ _ _ (λ z. some (is ∙ z)) ∙ sym is) some rule))

pub returns-in_default : goal.returns-in_default
unfolding rule_with
returns-in_default c =
    let a = c.args in
    let invalid = valid_event_invalid _ _ (sym c.read_event.ensures ∙ c.in_default.is) in
    sym (judgement_refused a.c a.table.now a.event.now a.claim.now (answer_of_invalid _ _ _ _ (sym c.in_ok-judge_in.ensures.answer_value) invalid) (λ z. omega arith) refl)

-- the event is valid, and was read
read : (c : In-Some)
    → (valid_here c.args.c c.args.event.now ≡ true) × (c.in-Some.e ≡ event c.args.event.now)
read c = valid_event_read _ _ _ (sym c.read_event.ensures ∙ c.in-Some.is)

pub check_event-requires-clause-raw_value : goal.check_event-requires-clause-raw_value
check_event-requires-clause-raw_value c = (read (goal.at.check_event-requires-clause-raw_value c).In-Some).0

pub check_event-requires-clause-e_value : goal.check_event-requires-clause-e_value
check_event-requires-clause-e_value c = (read (goal.at.check_event-requires-clause-e_value c).In-Some).1

pub returns-in_err-check_event : goal.returns-in_err-check_event
returns-in_err-check_event c =
    let a = c.args in
    let p = err_from_is_err_and c.from_residual-in_err-check_event.result c.from_residual-in_err-check_event.ensures.1 in
    let check = c.in_err-check_event.ensures in
    rw (p.1, p.2) (sym (judgement_refused a.c a.table.now a.event.now a.claim.now (sym check.answer_value) (refusal_number_some _) check.rule_value))

-- the event is accepted
accepted : (c : In_ok-check_event) → answer c.args.c c.args.table.now c.args.event.now limit ≡ 0
accepted c = sym c.in_ok-check_event.ensures.answer_value

pub returns-then-is_err : goal.returns-then-is_err
returns-then-is_err c =
    let a = c.args in
    let bad = malformed_refused a.c a.claim.now _ c.judge.ensures.answer_value (sym c.if-is_err.ensures.value) in
    sym (judgement_malformed a.c a.table.now a.event.now a.claim.now (accepted (goal.at.returns-then-is_err c).In_ok-check_event) bad)

-- the claim is a valid table
claimed : (c : Else-is_err) → (length c.args.claim.now ≤ limit) × (valid_table c.args.c.linear_width c.args.claim.now ≡ true)
claimed c = stored_valid _ _ (sym c.judge.ensures.answer_value ∙ answer_of_ok _ (sym c.if-is_err.ensures.value))

pub match_claim-requires-clause-raw_value : goal.match_claim-requires-clause-raw_value
match_claim-requires-clause-raw_value c = (read (goal.at.match_claim-requires-clause-raw_value c).In-Some).0

pub match_claim-requires-clause-e_value : goal.match_claim-requires-clause-e_value
match_claim-requires-clause-e_value c = (read (goal.at.match_claim-requires-clause-e_value c).In-Some).1

pub match_claim-requires-clause-table_value : goal.match_claim-requires-clause-table_value
match_claim-requires-clause-table_value c = judged_whole _ _ (sym c.in_ok-judge_in.ensures.answer_value)

pub match_claim-requires-clause-claim_value : goal.match_claim-requires-clause-claim_value
match_claim-requires-clause-claim_value c = (valid_table_parts _ _ (claimed c).1).0

pub returns : goal.returns
returns c =
    let a = c.args in
    let valid = claimed (goal.at.returns c).Else-is_err in
    c.match_claim.ensures
    ∙ sym (judgement_matched a.c a.table.now a.event.now a.claim.now (accepted (goal.at.returns c).In_ok-check_event) (malformed_valid _ _ valid.0 valid.1))
