-- `is_invvpid_supported` answers each type as its definition does.
use Rattle.std.proofs.Common.{rules, tests}
use Rattle.grounds.proofs.is_invvpid_supported.Goals as goal

pub returns-in-0 : goal.returns-in-0
unfolding Rattle.model.specs.Answers.invvpid_supported
returns-in-0 c = rw c.in-0.is

pub returns-in-1 : goal.returns-in-1
unfolding Rattle.model.specs.Answers.invvpid_supported
returns-in-1 c = rw c.in-1.is

pub returns-in-2 : goal.returns-in-2
unfolding Rattle.model.specs.Answers.invvpid_supported
returns-in-2 c = rw c.in-2.is

pub returns-in-3 : goal.returns-in-3
unfolding Rattle.model.specs.Answers.invvpid_supported
returns-in-3 c = rw c.in-3.is

pub returns-in_default : goal.returns-in_default
unfolding Rattle.model.specs.Answers.invvpid_supported
returns-in_default c = search (rules, tests)
