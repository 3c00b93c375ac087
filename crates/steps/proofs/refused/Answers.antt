-- The fields as they were given.
use Rattle.steps.proofs.refused.Goals as goal

pub returns : goal.returns
returns c = rw (c.number.ensures, c.rule.ensures)
