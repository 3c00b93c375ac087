-- The context after the event is worked out; the rest is handed on.
use Rattle.steps.proofs.accepted.Goals as goal

pub returns : goal.returns
returns c = rw c.next_context.ensures
