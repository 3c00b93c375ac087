use mathlib.Core.Path.{refl, ◌∙◌}
use borrow.Author.Tests.{lt-ltb, le-ltb}
use Rattle.kinds.proofs.is_in.Goals as goal

pub returns-then-kind-lt64 : goal.returns-then-kind-lt64
returns-then-kind-lt64 c = c.is_among.ensures ∙ rw (lt-ltb _ _ c.if-kind-lt64.true) refl

pub returns : goal.returns
returns c = rw (le-ltb _ _ c.if-kind-lt64.false) refl
