-- `is_bad_invpcid` tests what its definition says, by what its callee ensures.
use Rattle.grounds.proofs.is_bad_invpcid.Goals as goal

pub returns : goal.returns
unfolding Rattle.model.specs.Answers.bad_invpcid
returns c = rw c.is_canonical.ensures
