-- The kinds are a set.
use mathlib.Core.Path.{sym, ◌∙◌}
use Rattle.laws.specs.Mappings.{guest_physical_set}
use Rattle.kinds.proofs.is_guest_physical.Goals as goal

pub returns : goal.returns
returns c = c.is_in.ensures ∙ sym (guest_physical_set c.args.kind)
