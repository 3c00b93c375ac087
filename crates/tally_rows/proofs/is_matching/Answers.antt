-- The rows, and what is left by PCID.
use Rattle.std.specs.Prelude.{◌&&◌}
use Rattle.std.proofs.Common.{ap₂, ◌∙◌}
use Rattle.tally_rows.proofs.Laws.Rows.{same_kinds_made}
use Rattle.tally_rows.proofs.is_matching.Goals as goal

pub returns : goal.returns
returns c = ap₂ ◌&&◌ (rw c.update-rows.ensures at (c.eq.ensures ∙ same_kinds_made c.args.kinds c.update-rows.result)) c.is_none_left.ensures
