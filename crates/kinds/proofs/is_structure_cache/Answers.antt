-- The kinds by number.
use mathlib.Core.Path.{sym}
use Rattle.laws.specs.Mappings.{structure_cache_range}
use Rattle.kinds.proofs.is_structure_cache.Goals as goal

pub returns : goal.returns
returns c = sym (structure_cache_range c.args.kind)
