-- Demand 3, proved: for every list of events the first run is the book's, and any second run that
-- drops mappings in between answers alike and shows no record that the first does not.
use Rattle.runs.specs.Theorem.{Demand3Always}
use Rattle.runs.proofs.Laws.First.{first_run_holds}
use Rattle.runs.proofs.Laws.Second.{second_run_holds}

pub demand_3_holds : Demand3Always
demand_3_holds c es a b h k =
    record {
      first_run = first_run_holds c es a b h k;
      second_run = λ removals a' b' h' k' room. second_run_holds c es a b removals a' b' h k h' k' room;
    }
