-- The known kinds, by number.
use mathlib.Core.Path.{sym}
use Rattle.laws.specs.Layouts.{mapping_kind_range}
use Rattle.kinds.proofs.is_mapping.Goals as goal

pub returns : goal.returns
returns c = sym (mapping_kind_range c.args.kind)
