use Prim.Native.Nat.{◌-◌}
use lib.ListN.{length}
use Rattle.logs.proofs.Laws.Replaying.{Replaying}
use Rattle.logs.proofs.replay.Given as goal

abbrev pub invariant-loop-p : goal.invariant-loop-p
invariant-loop-p l = Replaying l.width l.initial.p l.log l.initial.first l.initial.second l.initial.rows l.most l.p l.first l.second l.rows

abbrev pub decreases-loop-p : goal.decreases-loop-p
decreases-loop-p l = length l.log - l.p.at
