-- The kinds of each width, as a set or by number.
use mathlib.Core.Path.{sym}
use borrow.Author.Tests.{eq-eqb, ne_eqb}
use Rattle.model.specs.Mappings.{other_width}
use Rattle.laws.specs.Mappings.{of_48_range, of_57_set}
use Rattle.kinds.proofs.is_mapping_at.Goals as goal

pub returns-then-width-eq-WIDE_WIDTH : goal.returns-then-width-eq-WIDE_WIDTH
unfolding other_width
returns-then-width-eq-WIDE_WIDTH c =
    let a = c.args in
    rw (c.is_in.ensures, eq-eqb _ _ c.if-width-eq-WIDE_WIDTH.true) (sym (of_57_set a.kind))

pub returns : goal.returns
unfolding other_width
returns c = rw (ne_eqb _ _ c.if-width-eq-WIDE_WIDTH.false) (sym (of_48_range c.args.kind))
