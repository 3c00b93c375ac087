-- Type 0 or another.
use borrow.Author.Tests.{eq-eqb, ne_eqb}
use Rattle.scopes.proofs.Laws.Queries.{meets_invpcid_page, meets_invpcid_no_page}
use Rattle.scopes.proofs.invpcid_query.Goals as goal
use Rattle.scopes.proofs.invpcid_query.Goals.{then-o-eq0, else-o-eq0}

pub returns : goal.returns
returns c =
    rw (c.only.ensures, c.vpid.ensures, c.pcids_named.ensures, c.nothing.ensures)
    (elim c.if-o-eq0.branch [ then-o-eq0 w ↦ rw (w.page-is, w.page.ensures) (meets_invpcid_page _ _ (eq-eqb _ 0 w.if-o-eq0.true)) | else-o-eq0 w ↦ rw w.page-is (meets_invpcid_no_page _ _ (ne_eqb _ 0 w.if-o-eq0.false)) ])
