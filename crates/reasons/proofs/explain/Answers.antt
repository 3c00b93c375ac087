-- Each refusal gives the number of its stage; past them the reason is the scope's.
use Rattle.std.proofs.Common.{◌≡◌, ℕ, Option, Some, None, Ok, Err, refl, sym, ap, ◌∙◌, true, arith}
use Rattle.std.specs.Option.{ok_or}
use Rattle.std.proofs.lemmas.Result.{err_from_is_err_and}
use Rattle.model.specs.declared.Event.{Event}
use Rattle.model.specs.declared.Refusal.{Refusal}
use Rattle.model.specs.declared.Refusal.TheVariants.{EventNotValid}
use Rattle.model.specs.Mappings.{mapping}
use Rattle.model.specs.Events.{event, valid_event}
use Rattle.model.specs.Answers.{rule_with}
use Rattle.model.specs.Refusals.{refusal_number}
use Rattle.model.specs.Reasons.{Refused, Accepted, reason}
use Rattle.laws.specs.Mappings.{starts_parts, valid_starts}
use Rattle.laws.specs.Events.{valid_event_read, valid_event_invalid}
use Rattle.laws.specs.Refusals.{refusal_number_some}
use Rattle.laws.specs.Reasons.{one_record_parts, explanation_refused, explanation_accepted, explained_out_of_range, explained_no_record, explained_invalid, explained_event, explained_accepted}
use Rattle.reasons.proofs.explain.Goals as goal
use Rattle.reasons.proofs.explain.Goals.{In_ok-e}

pub returns-then-not-is_in_range : goal.returns-then-not-is_in_range
unfolding rule_with
returns-then-not-is_in_range c =
    explanation_refused _ _ _ 1 (explained_out_of_range _ _ _ (sym c.if-not-is_in_range.ensures)) (λ z. omega arith)

pub returns-then-not-is_one_record : goal.returns-then-not-is_one_record
unfolding rule_with
returns-then-not-is_one_record c =
    explanation_refused _ _ _ 3 (explained_no_record _ _ _ (sym c.if-not-is_in_range.ensures) (sym c.if-not-is_one_record.ensures)) (λ z. omega arith)

-- no event was read, or one
none_read : (o : Option Event) (why : Refusal) → Err why ≡ ok_or o EventNotValid → (o ≡ None) × (why ≡ EventNotValid)
none_read (Some e) why h = absurd (let z : ◌≡◌ {A = ℕ} 0 1 = cc in omega arith)
none_read None why h = (refl, cc)

one_read : (o : Option Event) (e : Event) → Ok e ≡ ok_or o EventNotValid → o ≡ Some e
one_read (Some x) e h = cc
one_read None e h = absurd (let z : ◌≡◌ {A = ℕ} 0 1 = cc in omega arith)

pub returns-in_err-e : goal.returns-in_err-e
unfolding rule_with
returns-in_err-e c =
    let a = c.args in
    let p = err_from_is_err_and c.from_residual.result c.from_residual.ensures.1 in
    let none = none_read _ _ c.in_err-e.ensures.value in
    let invalid = valid_event_invalid a.c.linear_width a.event.now (sym c.read_event.ensures ∙ none.0) in
    rw (p.1, p.2, none.1)
    (explanation_refused a.c a.bytes.now a.event.now 4
    (explained_invalid a.c a.bytes.now a.event.now (sym c.if-not-is_in_range.ensures) (sym c.if-not-is_one_record.ensures) invalid)
    (λ z. omega arith))

-- the event is valid, and was read
valid : (c : In_ok-e) → (valid_event c.args.c.linear_width c.args.event.now ≡ true) × (c.in_ok-e.e ≡ event c.args.event.now)
valid c = valid_event_read _ _ _ (sym c.read_event.ensures ∙ one_read _ _ c.in_ok-e.ensures.value)

pub returns-in_err-check_event : goal.returns-in_err-check_event
unfolding rule_with
returns-in_err-check_event c =
    let a = c.args in
    let why = c.in_err-check_event.field-0.0 in
    let p = err_from_is_err_and c.from_residual-in_err-check_event.result c.from_residual-in_err-check_event.ensures.1 in
    let read = valid (goal.at.returns-in_err-check_event c).In_ok-e in
    let is = rw read.1 at c.in_err-check_event.ensures.answer in
    let rule = rw read.1 at c.in_err-check_event.ensures.rule in
    rw (p.1, p.2)
    (ap (Refused (refusal_number why)) (rule ∙ rw is)
    ∙ explanation_refused a.c a.bytes.now a.event.now (refusal_number why)
    (explained_event a.c a.bytes.now a.event.now (sym c.if-not-is_in_range.ensures) (sym c.if-not-is_one_record.ensures) read.0
    (λ z. refusal_number_some why (is ∙ z))
    ∙ sym is)
    (refusal_number_some why))

pub invariant_of-reason : goal.invariant_of-reason
invariant_of-reason c =
    let valid_record = (one_record_parts _ _ (sym c.if-not-is_one_record.ensures)).valid in
    record { held = (starts_parts _ (valid_starts _ valid_record)).held }

pub returns : goal.returns
returns c =
    let a = c.args in
    let read = valid (goal.at.returns c).In_ok-e in
    let accepted =
    explained_accepted a.c a.bytes.now a.event.now (sym c.if-not-is_in_range.ensures) (sym c.if-not-is_one_record.ensures) read.0
    (rw read.1 at (sym c.in_ok-check_event.ensures.answer)) in
    ap Accepted (c.reason.ensures ∙ ap (λ e. reason a.c e (mapping a.bytes.now)) read.1)
    ∙ explanation_accepted a.c a.bytes.now a.event.now accepted
