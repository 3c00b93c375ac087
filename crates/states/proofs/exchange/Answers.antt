-- The table that is held is performed on as it is, with its number of records; nothing is counted.
use mathlib.Core.Bool.{false≢true}
use mathlib.Core.Path.{◌≡◌, sym}
use native.Mathlib.Omega.{arith}
use lib.ListN.{take}
use Rattle.model.specs.Steps.{dropped_count}
use Rattle.laws.specs.Steps.{length_creation}
use Rattle.states.specs.Outcomes.{exchanged}
use Rattle.states.proofs.Laws.States.{length_table, few_records, dropped_few, holds_judged}
use Rattle.states.proofs.exchange.Goals as goal
use Rattle.states.proofs.exchange.Goals.{After-perform-performed}

pub slice_bounds-table-end : goal.slice_bounds-table-end
slice_bounds-table-end c =
    sym (length_table c.args.state c.args.front.now c.args.back.now c.requires.holds)

pub perform-performed-requires : goal.perform-performed-requires
perform-performed-requires c =
    let a = c.args in
    let pre = c.requires in
    let size = length_table a.state a.front.now a.back.now pre.holds in
    record { table_value = holds_judged a.state a.front.now a.back.now pre.holds pre.context_value; raw_value = pre.raw_value; e_value = pre.e_value; count_value = pre.holds.counted; raw_in_bounds = omega (arith, size, pre.raw_in_bounds); tallied = λ on. absurd (false≢true on) }

-- how many records are dropped
dropped : (c : After-perform-performed) → c.perform-performed.result.dropped ≡ dropped_count c.args.state.context (take c.args.state.length c.args.front.now) c.args.raw.now
dropped c = c.perform-performed.ensures.length_value.1

pub overflow_sub-result : goal.overflow_sub-result
overflow_sub-result c =
    omega (arith, dropped (goal.at.overflow_sub-result c).After-perform-performed, dropped_few c.args.state c.args.front.now c.args.back.now c.requires.holds c.args.raw.now)

pub overflow_add-result : goal.overflow_add-result
overflow_add-result c =
    record { fits = omega (arith, few_records c.args.state c.args.front.now c.args.back.now c.requires.holds, c.created_records.ensures, length_creation c.args.raw.now) }

pub returns : goal.returns
unfolding exchanged
returns c =
    let perform = c.perform-performed.ensures in
    let read = c.requires.e_value in
    record { value = rw (perform.length_value.0, perform.length_value.1, c.next_context.ensures, read, c.created_records.ensures); back_after = perform.after }
