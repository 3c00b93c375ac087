-- One more row is stored.
use Rattle.std.proofs.Common.{arith}
use Rattle.tally_rows.proofs.Laws.Rows.{stored_next}
use Rattle.tally_rows.proofs.update.Goals as goal

pub loop-at-preserved : goal.loop-at-preserved
loop-at-preserved c = stored_next _ _ _ _ c.loop-at.invariant (omega (arith, c.loop-at-test.true)) c.row_at.ensures
