use Rattle.widening.proofs.Laws.Loops.{Adding}
use Rattle.widening.proofs.length_widened.Given as goal

abbrev pub invariant-loop-record : goal.invariant-loop-record
invariant-loop-record l = Adding l.table l.record-iterator.rest.now l.length
