-- What the step of an accepted event hands back, by the length of the new table and the number of records dropped.
use Rattle.std.specs.Prelude.{ℕ, Result, Ok, Err}
use Rattle.model.specs.declared.Context.{Context}
use Rattle.model.specs.declared.Event.{Event}
use Rattle.model.specs.declared.Refusal.{Refusal}
use Rattle.model.specs.declared.Step.{Step}
use Rattle.model.specs.Refusals.{refusal_number, refusal_rule}
use Rattle.model.specs.Steps.{refusal}
use Rattle.model.specs.Scopes.{next_context}

abbrev pub acceptance : Context → Event → ℕ → ℕ → Step
acceptance c e length dropped =
    record { answer = 0; rule = 0; context = next_context c e; length = length; dropped = dropped }

-- what is reported of a step, or of its refusal
abbrev pub reported : Context → Result Step Refusal → Step
reported c (Ok step) = step
reported c (Err why) = refusal (refusal_number why) (refusal_rule why) c
