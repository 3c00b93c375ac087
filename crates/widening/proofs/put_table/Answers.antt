-- A turn writes the next record.
use Rattle.std.proofs.Common.{arith}
use Rattle.laws.specs.Writing.{progress_room, progress_turn, progress_end}
use Rattle.widening.specs.Widening.{widened, widened_table}
use Rattle.widening.proofs.Laws.Loops.{widened_first, widened_none}
use Rattle.widening.proofs.put_table.Goals as goal

pub put_widened-to-requires : goal.put_widened-to-requires
put_widened-to-requires c =
    let s = c.loop-record in
    omega (arith, progress_room s.invariant (widened c.in-Some.record.bytes.now) (widened_table c.next.new.self.rest.now) (widened_first _ _ _ c.in-Some.ensures.steps))

pub loop-record-preserved : goal.loop-record-preserved
loop-record-preserved c =
    progress_turn c.loop-record.invariant _ _ (widened_first _ _ c.next.new.self.rest.now c.in-Some.ensures.steps) c.put_widened-to.ensures.value c.put_widened-to.ensures.after

pub returns : goal.returns
returns c = progress_end c.loop-record.invariant (widened_none _ c.in-None.ensures.steps.0)
