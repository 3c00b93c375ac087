use Rattle.tally_rows.proofs.Laws.Rows.{Stored}
use Rattle.tally_rows.proofs.update.Given as goal

abbrev pub invariant-loop-at : goal.invariant-loop-at
invariant-loop-at l = Stored l.cells l.row-items l.at
