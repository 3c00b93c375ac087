-- Type 1 or another.
use borrow.Author.Tests.{eq-eqb, ne_eqb}
use Rattle.scopes.proofs.Laws.Queries.{meets_invept_one, meets_invept}
use Rattle.scopes.proofs.invept_query.Goals as goal
use Rattle.scopes.proofs.invept_query.Goals.{then-o-eq1, else-o-eq1}

pub returns : goal.returns
returns c =
    rw c.any.ensures
    (elim c.if-o-eq1.branch [ then-o-eq1 w ↦ rw (w.further-is, w.nothing.ensures, w.only.ensures, w.ep4ta.ensures) (meets_invept_one _ (eq-eqb _ 1 w.if-o-eq1.true)) | else-o-eq1 w ↦ rw w.further-is (meets_invept _ (ne_eqb _ 1 w.if-o-eq1.false)) ])
