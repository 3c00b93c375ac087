use Rattle.laws.specs.Writing.{Progress}
use Rattle.widening.specs.Widening.{widened_table}
use Rattle.widening.proofs.put_table.Given as goal

abbrev pub invariant-loop-record : goal.invariant-loop-record
invariant-loop-record l = Progress (widened_table l.table) (widened_table l.record-iterator.rest.now) l.initial.new l.to l.new
