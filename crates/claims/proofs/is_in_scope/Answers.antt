-- No mapping is in the scope of an event that has none. Only the last reason drops a mapping, and it drops those in scope.
use Rattle.std.proofs.Common.{◌≡◌, refl, false, not, ap, sym, ◌∙◌}
use borrow.Author.Tests.{not-true}
use Rattle.model.specs.declared.Reason.{Reason}
use Rattle.model.specs.declared.Reason.TheVariants.{NoScope, NotCanonical, WrongKind, WrongVpid, WrongPcid, WrongEp4ta, NotCovering, SparedAsGlobal, InScope}
use Rattle.model.specs.Reasons.{drops}
use Rattle.laws.specs.Reasons.{drops_reason}
use Rattle.laws.specs.Scopes.{out_of_scope}
use Rattle.claims.proofs.is_in_scope.Goals as goal

pub returns-then-not-scoped : goal.returns-then-not-scoped
returns-then-not-scoped c = sym (out_of_scope _ _ (sym c.requires ∙ not-true _ (ap not c.if-not-scoped.true)) _)

pub returns-in-InScope : goal.returns-in-InScope
returns-in-InScope c = ap drops c.in-InScope.ensures ∙ drops_reason _ _ _

kept : (r : Reason) → (r ≡ InScope → ⊥) → false ≡ drops r
kept NoScope other = refl
kept NotCanonical other = refl
kept WrongKind other = refl
kept WrongVpid other = refl
kept WrongPcid other = refl
kept WrongEp4ta other = refl
kept NotCovering other = refl
kept SparedAsGlobal other = refl
kept InScope other = absurd (other refl)

pub returns-in_default : goal.returns-in_default
returns-in_default c = kept _ c.in_default.not-InScope ∙ ap drops c.reason.ensures ∙ drops_reason _ _ _
