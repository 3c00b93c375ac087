-- The creation is put behind the table, and counted; the rest of the state is that after the event.
use mathlib.Core.Path.{ap, ◌∙◌}
use native.Mathlib.Omega.{arith}
use Rattle.model.specs.Scopes.{next_context}
use Rattle.laws.specs.Steps.{length_creation}
use Rattle.states.specs.Outcomes.{extended}
use Rattle.states.proofs.extend.Goals as goal

pub overflow_add-result : goal.overflow_add-result
overflow_add-result c =
    record { fits = omega (arith, c.requires.records_le_limit, c.created_records.ensures, length_creation c.args.raw.now) }

pub returns : goal.returns
unfolding extended
returns c =
    let add = c.add_creation-length.ensures in
    let context = c.next_context.ensures ∙ ap (next_context c.args.state.context) c.requires.e_value in
    record { value = rw (context, add.value, c.created_records.ensures); buffer_after = add.buffer_after }
