-- The kinds are a set.
use mathlib.Core.Path.{sym, ◌∙◌}
use Rattle.laws.specs.Mappings.{linear_set}
use Rattle.kinds.proofs.is_linear.Goals as goal

pub returns : goal.returns
returns c = c.is_in.ensures ∙ sym (linear_set c.args.kind)
