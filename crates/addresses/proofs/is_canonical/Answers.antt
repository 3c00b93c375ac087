use mathlib.Core.Path.{refl}
use borrow.Author.Tests.{eq-eqb, ne_eqb}
use Rattle.addresses.proofs.is_canonical.Goals as goal

pub returns-then-width-eq-WIDE_WIDTH : goal.returns-then-width-eq-WIDE_WIDTH
unfolding Rattle.model.specs.Events.canonical
returns-then-width-eq-WIDE_WIDTH c = rw (eq-eqb _ _ c.if-width-eq-WIDE_WIDTH.true) refl

pub returns : goal.returns
unfolding Rattle.model.specs.Events.canonical
returns c = rw (ne_eqb _ _ c.if-width-eq-WIDE_WIDTH.false) refl
