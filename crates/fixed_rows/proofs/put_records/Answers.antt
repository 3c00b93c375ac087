-- The loop writes the record that each row but the last names behind those before it, and zeros, which the next writes
-- over; the last record is written without them.
use Rattle.std.proofs.Common.{◌∙◌, arith}
use Rattle.fixed_rows.proofs.Laws.Loops.{importing_none, importing_fitting, importing_room, importing_last_fitting, importing_last_room, importing_turn, importing_last}
use Rattle.fixed_rows.proofs.put_records.Goals as goal

-- no row at all
pub returns-in_default : goal.returns-in_default
returns-in_default c = importing_none _ _ (rw (c.chunks_exact-front.ensures.rest, c.chunks_exact-front.ensures.size) at c.in_default.ensures.steps.2.0)

pub put_record-to-requires : goal.put_record-to-requires
put_record-to-requires c =
    let steps = c.in-Some-row.ensures.steps in
    let long = steps.1.1 ∙ c.loop-row.invariant.0 in
    let row = importing_fitting c.loop-row.invariant.1 _ _ steps.1.0 long in
    record { in_bounds = omega (arith, long); row_value = row.known; row_value_2 = row.small; row_in_bounds = importing_room c.loop-row.invariant.1 _ _ steps.1.0 long }

pub loop-row-preserved : goal.loop-row-preserved
loop-row-preserved c =
    let steps = c.in-Some-row.ensures.steps in
    (steps.0 ∙ c.loop-row.invariant.0, importing_turn c.loop-row.invariant.1 _ _ steps.1.0 (steps.1.1 ∙ c.loop-row.invariant.0) c.put_record-to.ensures.value c.put_record-to.ensures.table_after)

pub put_last_record-requires-clause-fitting : goal.put_last_record-requires-clause-fitting
put_last_record-requires-clause-fitting c = importing_last_fitting c.loop-row.invariant.1 (rw c.loop-row.invariant.0 at c.in-None.ensures.steps.1.0)

pub put_last_record-requires-clause-row_in_bounds : goal.put_last_record-requires-clause-row_in_bounds
put_last_record-requires-clause-row_in_bounds c = importing_last_room c.loop-row.invariant.1 (rw c.loop-row.invariant.0 at c.in-None.ensures.steps.1.0)

pub returns : goal.returns
returns c = importing_last c.loop-row.invariant.1 (rw c.loop-row.invariant.0 at c.in-None.ensures.steps.1.0) c.put_last_record.ensures
