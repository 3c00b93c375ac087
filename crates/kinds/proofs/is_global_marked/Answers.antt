-- The kinds are a set.
use mathlib.Core.Path.{sym, ◌∙◌}
use Rattle.laws.specs.Mappings.{global_marked_set}
use Rattle.kinds.proofs.is_global_marked.Goals as goal

pub returns : goal.returns
returns c = c.is_in.ensures ∙ sym (global_marked_set c.args.kind)
