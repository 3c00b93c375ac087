-- The kinds are a set.
use mathlib.Core.Path.{sym, ◌∙◌}
use Rattle.laws.specs.Mappings.{combined_set}
use Rattle.kinds.proofs.is_combined.Goals as goal

pub returns : goal.returns
returns c = c.is_in.ensures ∙ sym (combined_set c.args.kind)
