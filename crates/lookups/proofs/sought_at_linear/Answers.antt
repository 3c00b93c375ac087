-- An address that is not canonical has no usable record; otherwise the EPT state decides.
use mathlib.Core.Path.{sym, ◌∙◌}
use borrow.Author.Tests.{not-true, not-false}
use Rattle.lookups.proofs.Laws.Seeking.{seeks_nothing, seeks_linear, seeks_combined, not_canonical}
use Rattle.std.proofs.Common.{ap, not}
use Rattle.lookups.proofs.sought_at_linear.Goals as goal
use Rattle.lookups.proofs.sought_at_linear.Goals.{in-Off, in-On}

pub returns-then-not-is_canonical : goal.returns-then-not-is_canonical
returns-then-not-is_canonical c =
    let none = not-true c.is_canonical.result (ap not c.if-not-is_canonical.true) in
    λ wanted sets. seeks_nothing _ (not_canonical _ _ wanted (sym c.is_canonical.ensures ∙ none))

pub returns : goal.returns
returns c =
    let some = sym c.is_canonical.ensures ∙ not-false c.is_canonical.result (ap not c.if-not-is_canonical.false) in
    λ wanted sets.
    rw (c.page.ensures, c.vpid.ensures)
    (elim c.match-ept.branch [ in-Off w ↦ rw w.kinds-is (seeks_linear _ _ wanted _ _ sets some (sym c.ept.ensures ∙ w.in-Off.is)) | in-On w ↦ rw w.kinds-is (seeks_combined _ _ wanted _ _ sets some _ (sym c.ept.ensures ∙ w.in-On.is)) ])
