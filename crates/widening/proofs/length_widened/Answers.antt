-- A turn adds the length of the next record.
use Rattle.std.proofs.Common.{arith}
use Rattle.widening.proofs.Laws.Loops.{adding_turn, adding_end}
use Rattle.widening.proofs.length_widened.Goals as goal

pub loop-record-preserved : goal.loop-record-preserved
loop-record-preserved c =
    let s = c.loop-record in
    adding_turn c.args.table.now s.record-iterator.rest.now c.in-Some.record.bytes.now c.next.new.self.rest.now s.invariant c.in-Some.ensures.steps s.record-iterator.is_whole c.next.new.self.is_whole c.in-Some.record.held c.length_of_widened-length.ensures

pub overflow_add-length : goal.overflow_add-length
overflow_add-length c = record { fits = omega (arith, (loop-record-preserved c).few, c.requires.table_len_bound) }

pub returns : goal.returns
returns c = adding_end c.loop-record.invariant c.in-None.ensures.steps.0
