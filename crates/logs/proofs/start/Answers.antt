-- The context is that after a reset.
use Rattle.logs.specs.Progress.{begun}
use Rattle.logs.proofs.start.Goals as goal

pub returns : goal.returns
unfolding begun
returns c = rw c.reset-context.ensures
