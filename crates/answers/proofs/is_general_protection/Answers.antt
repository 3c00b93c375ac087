-- `is_general_protection` tests what its definition says, by what its callee ensures.
use Rattle.answers.proofs.is_general_protection.Goals as goal

pub returns : goal.returns
unfolding Rattle.model.specs.Answers.general_protection
returns c = rw c.kind_of_event-kind.ensures
