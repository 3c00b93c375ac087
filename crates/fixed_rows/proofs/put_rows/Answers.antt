-- A turn writes the row of the next record.
use Rattle.std.proofs.Common.{◌∙◌, arith}
use Rattle.laws.specs.Writing.{progress_room, progress_turn, progress_end}
use Rattle.model.specs.Mappings.{mapping}
use Rattle.row_fields.specs.Rows.{row_of}
use Rattle.row_fields.proofs.Laws.Rows.{length_row}
use Rattle.fixed_rows.specs.FixedRows.{exported}
use Rattle.fixed_rows.proofs.Laws.Loops.{exported_first, exported_none}
use Rattle.fixed_rows.proofs.put_rows.Goals as goal

pub put_row-to-requires : goal.put_row-to-requires
put_row-to-requires c =
    let r = c.in-Some.record.bytes.now in
    omega (arith, progress_room c.loop-record.invariant (row_of r) (exported c.next.new.self.rest.now) (exported_first _ _ _ c.in-Some.ensures.steps), length_row (mapping r))

pub loop-record-preserved : goal.loop-record-preserved
loop-record-preserved c =
    let r = c.in-Some.record.bytes.now in
    progress_turn c.loop-record.invariant _ _ (exported_first _ _ c.next.new.self.rest.now c.in-Some.ensures.steps) (c.put_row-to.ensures.value ∙ rw (length_row (mapping r))) c.put_row-to.ensures.rows_after

pub returns : goal.returns
returns c = progress_end c.loop-record.invariant (exported_none _ c.in-None.ensures.steps.0)
