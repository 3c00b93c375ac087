-- Type 0, types 1 and 2, and others.
use native.Mathlib.Omega.{arith}
use Rattle.scopes.proofs.Laws.Queries.{meets_invvpid_page, meets_invvpid, meets_invvpid_sparing}
use Rattle.scopes.proofs.invvpid_query.Goals as goal
use Rattle.scopes.proofs.invvpid_query.Goals.{in-0, in-1, in_default}

pub returns : goal.returns
returns c =
    rw c.vpids_named.ensures
    (elim c.match-o.branch [ in-0 w ↦ rw (w.further-is, w.page.ensures, w.nothing.ensures) (meets_invvpid_page _ _ w.in-0.is) | in-1 w ↦ rw w.further-is (meets_invvpid _ _ (omega arith) (omega arith)) | in_default w ↦ rw (w.further-is, w.nothing-in_default.ensures) (meets_invvpid_sparing _ _ (omega arith)) ])
