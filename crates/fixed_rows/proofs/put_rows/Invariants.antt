use Rattle.laws.specs.Writing.{Progress}
use Rattle.fixed_rows.specs.FixedRows.{exported}
use Rattle.fixed_rows.proofs.put_rows.Given as goal

abbrev pub invariant-loop-record : goal.invariant-loop-record
invariant-loop-record l = Progress (exported l.table) (exported l.record-iterator.rest.now) l.initial.rows l.to l.rows
