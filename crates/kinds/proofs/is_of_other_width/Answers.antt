-- The kinds of 48 bits are a set, and those of 57 a range.
use mathlib.Core.Path.{sym, ◌∙◌}
use borrow.Author.Tests.{eq-eqb, ne_eqb}
use Rattle.model.specs.Mappings.{other_width}
use Rattle.laws.specs.Mappings.{narrow_set}
use Rattle.kinds.proofs.is_of_other_width.Goals as goal

pub returns-then-width-eq-WIDE_WIDTH : goal.returns-then-width-eq-WIDE_WIDTH
unfolding other_width
returns-then-width-eq-WIDE_WIDTH c =
    let a = c.args in
    c.is_in.ensures ∙ rw (eq-eqb _ _ c.if-width-eq-WIDE_WIDTH.true) (sym (narrow_set a.kind))

pub returns : goal.returns
unfolding other_width
returns c = c.is_wide.ensures ∙ rw (ne_eqb _ _ c.if-width-eq-WIDE_WIDTH.false)
