-- `is_invalid_opcode` tests what its definition says, by what its callees ensure.
use Rattle.answers.proofs.is_invalid_opcode.Goals as goal

pub returns : goal.returns
unfolding Rattle.model.specs.Answers.invalid_opcode
returns c = rw (c.kind_of_event-kind.ensures, c.is_outside.ensures)
