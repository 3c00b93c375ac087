-- Each refusal gives the number of its stage; an accepted event leaves the table where it is, or moves it.
use Rattle.std.specs.Prelude.{◌+◌, ◌≤◌, ◌≡◌, true, not, ◌&&◌, length, take, leb}
use Rattle.std.proofs.Common.{sym, ap, ◌∙◌, arith}
use Rattle.std.proofs.lemmas.Bool.{not-true, not-false}
use Rattle.model.specs.Context.{in_range}
use Rattle.model.specs.Tables.{limit}
use Rattle.model.specs.Events.{event}
use Rattle.model.specs.Answers.{first, table_grounds, valid_here, answer, created}
use Rattle.laws.specs.Answers.{answer_of_table, answer_of_invalid, accepted_parts, table_grounds_out_of_range}
use Rattle.laws.specs.Events.{valid_event_read, valid_event_invalid}
use Rattle.laws.specs.Refusals.{refusal_number_some}
use Rattle.runs.specs.InPlace.{stays}
use Rattle.runs.proofs.Laws.InPlace.{stays_parts}
use Rattle.states.specs.States.{run_on}
use Rattle.states.proofs.Laws.States.{length_table, few_records, holds_judged, applies_refused, applies_extended, applies_exchanged}
use Rattle.states.proofs.apply_to.Goals as goal
use Rattle.states.proofs.apply_to.Goals.{After-has_scope, In-Some, In_default-check_event}

pub returns-then-not-is_in_range : goal.returns-then-not-is_in_range
returns-then-not-is_in_range c =
    let a = c.args in
    let out = sym c.is_in_range.ensures ∙ not-true _ (ap not c.if-not-is_in_range.true) in
    let one = table_grounds_out_of_range a.state.context (take a.state.length a.front.now) out in
    let is = answer_of_table a.state.context (take a.state.length a.front.now) a.event.now (length a.back.now) (λ z. omega (arith, one, z)) ∙ one in
    rw c.refuse.ensures (applies_refused a.state a.front.now a.back.now c.requires a.event.now 1 is (λ z. omega arith))

pub returns-in_default : goal.returns-in_default
returns-in_default c =
    let a = c.args in
    let judged = holds_judged a.state a.front.now a.back.now c.requires (sym c.is_in_range.ensures ∙ not-false _ (ap not c.if-not-is_in_range.false)) in
    let invalid = valid_event_invalid _ _ (sym c.read_event.ensures ∙ c.in_default.is) in
    let is = answer_of_invalid a.state.context (take a.state.length a.front.now) a.event.now (length a.back.now) judged invalid in
    rw c.refuse-in_default.ensures (applies_refused a.state a.front.now a.back.now c.requires a.event.now 4 is (λ z. omega arith))

-- what is known once the event was read
fits : (c : In-Some) → in_range c.args.state.context ≡ true
fits c = sym c.is_in_range.ensures ∙ not-false _ (ap not c.if-not-is_in_range.false)

read : (c : In-Some)
    → (valid_here c.args.state.context c.args.event.now ≡ true) × (c.in-Some.e ≡ event c.args.event.now)
read c = valid_event_read _ _ _ (sym c.read_event.ensures ∙ c.in-Some.is)

pub check_event-requires-clause-table_value : goal.check_event-requires-clause-table_value
check_event-requires-clause-table_value c =
    holds_judged c.args.state c.args.front.now c.args.back.now c.requires (fits (goal.at.check_event-requires-clause-table_value c).In-Some)

pub check_event-requires-clause-raw_value : goal.check_event-requires-clause-raw_value
check_event-requires-clause-raw_value c = (read (goal.at.check_event-requires-clause-raw_value c).In-Some).0

pub check_event-requires-clause-e_value : goal.check_event-requires-clause-e_value
check_event-requires-clause-e_value c = (read (goal.at.check_event-requires-clause-e_value c).In-Some).1

pub returns-in-Err : goal.returns-in-Err
returns-in-Err c =
    let a = c.args in
    rw c.refuse-in-Err.ensures (applies_refused a.state a.front.now a.back.now c.requires a.event.now _ (sym c.in-Err.ensures.answer_value) (refusal_number_some c.in-Err.why))

-- no ground applies
accepted : (c : In_default-check_event) → answer c.args.state.context (take c.args.state.length c.args.front.now) c.args.event.now (length c.args.back.now) ≡ 0
accepted c = sym c.in_default-check_event.ensures.answer_value

room : (c : In_default-check_event) → c.args.state.length + length (created c.args.event.now) ≤ length c.args.back.now
room c =
    omega (arith, length_table c.args.state c.args.front.now c.args.back.now c.requires, (accepted_parts _ _ _ _ (accepted c)).fits)

-- the table stays, or not, as was tested
tested : (c : After-has_scope)
    → stays (run_on c.args.state c.args.front.now c.args.back.now) c.args.event.now
    ≡ (leb limit (length c.args.front.now) && leb limit (length c.args.back.now) && not c.has_scope.result)
unfolding stays run_on
tested c = rw (c.has_scope.ensures, (read (goal.at.After-has_scope c).In-Some).1)

pub extend-requires-clause-e_value : goal.extend-requires-clause-e_value
extend-requires-clause-e_value c = (read (goal.at.extend-requires-clause-e_value c).In-Some).1

pub extend-requires-clause-raw_in_bounds : goal.extend-requires-clause-raw_in_bounds
unfolding run_on
extend-requires-clause-raw_in_bounds c =
    let stay = stays_parts _ _ (tested (goal.at.extend-requires-clause-raw_in_bounds c).After-has_scope ∙ c.if-long-has_scope.true) in
    omega (arith, length_table c.args.state c.args.front.now c.args.back.now c.requires, (accepted_parts _ _ _ _ (accepted (goal.at.extend-requires-clause-raw_in_bounds c).In_default-check_event)).short, stay.front)

pub extend-requires-clause-records_le_limit : goal.extend-requires-clause-records_le_limit
extend-requires-clause-records_le_limit c = few_records c.args.state c.args.front.now c.args.back.now c.requires

pub returns-then-long-has_scope : goal.returns-then-long-has_scope
returns-then-long-has_scope c =
    let a = c.args in
    let done = c.extend.ensures in
    let stay = tested (goal.at.returns-then-long-has_scope c).After-has_scope ∙ c.if-long-has_scope.true in
    rw (done.value, done.buffer_after) (applies_extended a.state a.front.now a.back.now c.requires a.event.now (accepted (goal.at.returns-then-long-has_scope c).In_default-check_event) stay)

pub exchange-requires-clause-raw_value : goal.exchange-requires-clause-raw_value
exchange-requires-clause-raw_value c = (read (goal.at.exchange-requires-clause-raw_value c).In-Some).0

pub exchange-requires-clause-e_value : goal.exchange-requires-clause-e_value
exchange-requires-clause-e_value c = (read (goal.at.exchange-requires-clause-e_value c).In-Some).1

pub exchange-requires-clause-raw_in_bounds : goal.exchange-requires-clause-raw_in_bounds
exchange-requires-clause-raw_in_bounds c = room (goal.at.exchange-requires-clause-raw_in_bounds c).In_default-check_event

pub returns : goal.returns
returns c =
    let a = c.args in
    let done = c.exchange.ensures in
    let move = tested (goal.at.returns c).After-has_scope ∙ c.if-long-has_scope.false in
    rw (done.value, done.back_after) (applies_exchanged a.state a.front.now a.back.now c.requires a.event.now (accepted (goal.at.returns c).In_default-check_event) move)
