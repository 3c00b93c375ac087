use Prim.Native.Nat.{◌-◌}
use lib.ListN.{length}
use Rattle.model.specs.Scopes.{passed}
use Rattle.queries.specs.Queries.{query_tests}
use Rattle.filters.proofs.Laws.Dropping.{FilteringCounting}
use Rattle.filters.proofs.filter.Given as goal

abbrev pub invariant-loop-at : goal.invariant-loop-at
invariant-loop-at l =
    FilteringCounting (λ m. passed (query_tests l.query m)) l.table l.initial.new l.counting l.initial.cells l.initial.pcids l.cells l.pcids l.at l.from l.to l.dropped l.new

abbrev pub decreases-loop-at : goal.decreases-loop-at
decreases-loop-at l = length l.table - l.at
