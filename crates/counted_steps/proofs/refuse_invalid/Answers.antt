-- The refusal of the context and the table, or 4.
use Rattle.std.proofs.Common.{sym}
use Rattle.laws.specs.Refusals.{refusal_number_some}
use Rattle.counted_steps.proofs.Laws.Steps.{invalid_of_table, invalid_is_4}
use Rattle.counted_steps.proofs.refuse_invalid.Goals as goal

pub returns-in-Ok : goal.returns-in-Ok
returns-in-Ok c = invalid_is_4 _ _ (sym c.in-Ok.ensures.answer_value)

pub returns-in-Err : goal.returns-in-Err
returns-in-Err c = invalid_of_table _ _ c.in-Err.ensures.answer_value (refusal_number_some c.in-Err.why)
