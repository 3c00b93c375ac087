-- What a performed event reports is the accepted step.
use Rattle.std.specs.Prelude.{ℕ, List, ◌≡◌, refl, length}
use Rattle.std.proofs.Common.{ap}
use Rattle.model.specs.declared.Context.{Context}
use Rattle.model.specs.declared.Event.{Event}
use Rattle.model.specs.Events.{event}
use Rattle.model.specs.Scopes.{next_context}
use Rattle.model.specs.Steps.{new_table, dropped_count, accepted_step}
use Rattle.laws.specs.Steps.{accepted_step_is}
use Rattle.steps.specs.Acceptances.{acceptance}

pub acceptance_accepted : (c : Context) (t e : List ℕ) {x : Event} {long dropped : ℕ} → x ≡ event e
    → (long ≡ length (new_table c t e)) × (dropped ≡ dropped_count c t e) → acceptance c x long dropped ≡ accepted_step c t e
acceptance_accepted c t e read told = accepted_step_is c t e refl refl (ap (next_context c) read) told.0 told.1
