-- The plain step writes the new table and carries the counts, which the tally has.
use mathlib.Core.Path.{refl, ◌∙◌}
use Rattle.laws.specs.Answers.{accepted_parts}
use Rattle.laws.specs.Steps.{step_accepted}
use Rattle.steps.proofs.Laws.Counts.{records_after_accepted}
use Rattle.steps.proofs.Laws.Acceptances.{acceptance_accepted}
use Rattle.counted_steps.proofs.Laws.Steps.{shown_accepted, counted_step_matching}
use Rattle.counted_steps.proofs.perform.Goals as goal

pub perform-performed-requires : goal.perform-performed-requires
perform-performed-requires c =
    let pre = c.requires in
    let passed = pre.shows.passed in
    let parts = accepted_parts _ _ _ _ (shown_accepted _ _ _ _ _ _ pre.shows) in
    record { table_value = passed.grounds; raw_value = parts.valid; e_value = pre.e_value; count_value = passed.number; raw_in_bounds = parts.fits; tallied = λ on. passed.tallied }

pub returns : goal.returns
returns c =
    let pre = c.requires in
    let done = c.perform-performed.ensures in
    let answered = shown_accepted _ _ _ _ _ _ pre.shows in
    let told = c.accepted.ensures ∙ acceptance_accepted _ _ _ pre.e_value done.length_value in
    let accepted = step_accepted _ _ _ _ answered told done.after in
    let all = counted_step_matching _ _ _ _ _ _ pre.shows.passed.match accepted.0 accepted.1 (rw (records_after_accepted _ _ _ _ answered) (done.carries.counted refl)) c.update.ensures in record { value = all.0; pcids_after = all.1.0; after = all.1.1 }
