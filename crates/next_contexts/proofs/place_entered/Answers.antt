-- The VPID and the EPT state, each by its flag.
use mathlib.Core.Bool.{cond}
use mathlib.Core.Path.{◌≡◌}
use borrow.Author.Tests.{ne_eqb}
use lib.Dec.{eqb}
use Rattle.next_contexts.proofs.place_entered.Goals as goal
use Rattle.next_contexts.proofs.place_entered.Goals.{Joined-n-eq1, else-n-eq1, then-n-eq1}

-- the VPID where the two ways meet
vpid-is : (c : Joined-n-eq1)
    → c.if-n-eq1.vpid ≡ cond (eqb c.args.n.vpids 1) c.args.n.vpid 0
vpid-is c =
    elim c.if-n-eq1.branch [ then-n-eq1 w ↦ rw (w.vpid-is, w.if-n-eq1.true) | else-n-eq1 w ↦ rw (w.vpid-is, ne_eqb _ 1 w.if-n-eq1.false) ]

pub returns-then-n-eq1-2 : goal.returns-then-n-eq1-2
unfolding Rattle.model.specs.Scopes.entered
returns-then-n-eq1-2 c = rw (vpid-is (goal.at.returns-then-n-eq1-2 c).Joined-n-eq1, c.if-n-eq1-2.true, c.ep4ta.ensures)

pub returns-else-n-eq1-2 : goal.returns-else-n-eq1-2
unfolding Rattle.model.specs.Scopes.entered
returns-else-n-eq1-2 c = rw (vpid-is (goal.at.returns-else-n-eq1-2 c).Joined-n-eq1, ne_eqb _ 1 c.if-n-eq1-2.false)
