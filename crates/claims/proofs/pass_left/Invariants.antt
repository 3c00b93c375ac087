use Rattle.model.specs.Scopes.{scope}
use Rattle.claims.proofs.Laws.Matching.{Matching}
use Rattle.claims.proofs.pass_left.Given as goal

abbrev pub invariant-loop-record : goal.invariant-loop-record
invariant-loop-record l = Matching (scope l.c l.e) l.table l.claim l.record-iterator.rest.now l.reached
