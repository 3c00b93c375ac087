use Rattle.std.proofs.Common.{◌-◌, length}
use Rattle.tables.proofs.Laws.Counting.{WalkedCounting}
use Rattle.tables.proofs.walk.Given as goal

abbrev pub invariant-loop-length : goal.invariant-loop-length
invariant-loop-length l = WalkedCounting l.width l.table l.counting l.initial.pcids l.cells l.pcids l.at l.records

abbrev pub decreases-loop-length : goal.decreases-loop-length
decreases-loop-length l = length l.table - l.at
