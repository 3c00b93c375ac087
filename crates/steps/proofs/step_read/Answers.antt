-- A refusal leaves the counts; an accepted event is performed.
use mathlib.Core.Path.{refl, sym, ◌∙◌}
use Rattle.laws.specs.Answers.{accepted_parts}
use Rattle.laws.specs.Refusals.{refusal_number_some}
use Rattle.laws.specs.Steps.{step_refused, step_accepted}
use Rattle.steps.proofs.Laws.Counts.{records_after_accepted, records_after_refused}
use Rattle.steps.proofs.Laws.Acceptances.{acceptance_accepted}
use Rattle.steps.proofs.step_read.Goals as goal

pub returns-in-Err : goal.returns-in-Err
returns-in-Err c =
    let check = c.in-Err.ensures in
    let some = refusal_number_some c.in-Err.why in
    let refused = step_refused _ _ _ _ (sym check.answer_value) some check.rule_value c.refused.ensures in
    record { value = refused.0; after = refused.1; carries = record { counted = λ on. rw (records_after_refused _ _ _ _ (sym check.answer_value) some) (c.requires.tallied on); kept = λ off. (refl, refl) } }

pub perform-performed-requires : goal.perform-performed-requires
perform-performed-requires c =
    let pre = c.requires in
    let answered = sym c.in_default.ensures.answer_value in
    record { table_value = pre.table_value; raw_value = pre.raw_value; e_value = pre.e_value; count_value = pre.count_value; raw_in_bounds = (accepted_parts _ _ _ _ answered).fits; tallied = pre.tallied }

pub returns : goal.returns
returns c =
    let done = c.perform-performed.ensures in
    let answered = sym c.in_default.ensures.answer_value in
    let told = c.accepted.ensures ∙ acceptance_accepted _ _ _ c.requires.e_value done.length_value in
    let accepted = step_accepted _ _ _ _ answered told done.after in
    record { value = accepted.0; after = accepted.1; carries = record { counted = λ on. rw (records_after_accepted _ _ _ _ answered) (done.carries.counted on); kept = done.carries.kept } }
