use Rattle.model.specs.Context.{after_reset}
use Rattle.next_contexts.proofs.reset.Goals as goal

pub returns : goal.returns
unfolding after_reset
returns c = cc
