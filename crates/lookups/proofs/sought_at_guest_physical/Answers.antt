-- With EPT on a guest-physical mapping of its EP4TA is sought.
use mathlib.Core.Path.{sym, ◌∙◌}
use native.Mathlib.Omega.{arith}
use borrow.Author.Tests.{lt-ltb}
use Rattle.lookups.proofs.Laws.Seeking.{seeks_guest_physical}
use Rattle.lookups.proofs.sought_at_guest_physical.Goals as goal

pub returns-in-On : goal.returns-in-On
returns-in-On c =
    rw c.guest_physical_page.ensures
    (seeks_guest_physical _ _ _ (lt-ltb _ _ (omega arith)) (sym c.ept.ensures ∙ c.in-On.is))
