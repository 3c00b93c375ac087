-- The kinds by number.
use mathlib.Core.Path.{sym}
use Rattle.laws.specs.Mappings.{wide_range}
use Rattle.kinds.proofs.is_wide.Goals as goal

pub returns : goal.returns
returns c = sym (wide_range c.args.kind)
