-- `is_exiting` tests what its definition says, by what its callees ensure.
use Rattle.answers.proofs.is_exiting.Goals as goal

pub returns : goal.returns
unfolding Rattle.model.specs.Answers.exits
returns c = rw (c.kind_of_event-kind.ensures, c.is_in_guest.ensures)
