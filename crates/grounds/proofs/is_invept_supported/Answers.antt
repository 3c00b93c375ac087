-- `is_invept_supported` answers each type as its definition does.
use Rattle.std.proofs.Common.{rules, tests}
use Rattle.grounds.proofs.is_invept_supported.Goals as goal

pub returns-in-1 : goal.returns-in-1
unfolding Rattle.model.specs.Answers.invept_supported
returns-in-1 c = rw c.in-1.is

pub returns-in-2 : goal.returns-in-2
unfolding Rattle.model.specs.Answers.invept_supported
returns-in-2 c = rw c.in-2.is

pub returns-in_default : goal.returns-in_default
unfolding Rattle.model.specs.Answers.invept_supported
returns-in_default c = search (rules, tests)
