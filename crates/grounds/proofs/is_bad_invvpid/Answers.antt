-- `is_bad_invvpid` tests what its definition says, by what its callees ensure. The named VPID,
-- bits 15:0, is a quotient by 1.
use native.Mathlib.Nat.{div-one}
use Rattle.grounds.proofs.is_bad_invvpid.Goals as goal

pub returns : goal.returns
unfolding Rattle.model.specs.Answers.bad_invvpid
returns c = rw (div-one, c.is_invvpid_supported.ensures, c.is_canonical.ensures)
