-- What an event leaves and tells, by whether it is refused, and whether the table stays or moves.
use Rattle.std.specs.Prelude.{ℕ, ◌+◌, ◌-◌, not, List, length}
use Rattle.model.specs.Events.{event}
use Rattle.model.specs.Scopes.{next_context}
use Rattle.model.specs.Answers.{created, creation}
use Rattle.model.specs.Steps.{new_table, dropped_count}
use Rattle.states.specs.declared.State.{State}
use Rattle.states.specs.declared.Applied.{Applied}

-- a refused event, and an accepted one whose table stays or moves; t is the table
unfoldable pub refused : State → ℕ → Applied
refused s answer = record { state = s; answer = answer; dropped = 0 }

unfoldable pub extended : State → List ℕ → Applied
extended s e =
    record {
      state =
          record {
            context = next_context s.context (event e);
            length = s.length + length (created e);
            records = s.records + length (creation e);
            first = s.first;
          };
      answer = 0;
      dropped = 0;
    }

unfoldable pub exchanged : State → List ℕ → List ℕ → Applied
exchanged s t e =
    record {
      state =
          record {
            context = next_context s.context (event e);
            length = length (new_table s.context t e);
            records = (s.records - dropped_count s.context t e) + length (creation e);
            first = not s.first;
          };
      answer = 0;
      dropped = dropped_count s.context t e;
    }
