use Prim.Native.Nat.{◌-◌}
use lib.ListN.{length, drop}
use mathlib.Core.Bool.{Bool, true}
use mathlib.Core.Path.{◌≡◌}
use Rattle.std.specs.Prelude.{Some}
use Rattle.model.specs.declared.Mapping.{Mapping}
use Rattle.model.specs.Tables.{whole}
use Rattle.lookups.specs.Search.{AsksFor}
use Rattle.lookups.proofs.Laws.Searching.{Searching}
use Rattle.lookups.proofs.search.Given as goal

abbrev pub invariant-loop-at : goal.invariant-loop-at
invariant-loop-at l = (whole (drop l.at l.table) ≡ true) × ((p : Mapping → Bool) → AsksFor p (Some l.asked) → Searching p l.table l.k l.at l.left)

abbrev pub decreases-loop-at : goal.decreases-loop-at
decreases-loop-at l = length l.table - l.at
