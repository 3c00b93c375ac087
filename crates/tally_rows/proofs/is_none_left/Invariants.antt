use Rattle.std.proofs.Common.{◌≡◌, ◌&&◌, nat_eq, drop}
use Rattle.tally_rows.specs.Rows.{none_left}
use Rattle.tally_rows.proofs.is_none_left.Given as goal

-- the rest decides, where the bits of the counts before together are 0
abbrev pub invariant-loop-n : goal.invariant-loop-n
invariant-loop-n l = (nat_eq l.all 0 && none_left (drop l.n-index l.left)) ≡ none_left l.left
