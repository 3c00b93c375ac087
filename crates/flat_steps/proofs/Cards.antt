-- Rows about the result of a step as a flat struct, all under one statement. The numbers of a row differ, so that none is
-- taken for another.
use Rattle.std.specs.Prelude.{ℕ, ◌≡◌, refl}
use Rattle.model.specs.declared.Context.{Context}
use Rattle.model.specs.declared.Place.TheVariants.{Root}
use Rattle.model.specs.declared.Step.{Step}
use Rattle.flat_contexts.specs.declared.FlatContext.{FlatContext}
use Rattle.flat_contexts.specs.Contexts.{flatten}
use Rattle.flat_steps.specs.Steps.{flat_result}

-- a context in root, and numbers with a place
context : Context
context = record { capability = 11; width = 12; linear_width = 15; pcid = 13; cpl = 14; place = Root }

numbers : ℕ → FlatContext
numbers place = record { capability = 11; width = 12; linear_width = 15; pcid = 13; cpl = 14; place = place; vpid = 0; ept = 0; ep4ta = 0 }

-- a step with an answer
told : ℕ → Step
told answer = record { answer = answer; rule = 4; context = context; length = 21; dropped = 22 }

-- Every row holds.
record Rows : Type 0 where
  accepted : flat_result (numbers 3) (told 0) ≡ record { answer = 0; rule = 0; context = numbers 1; length = 21; dropped = 22 }
  refused : flat_result (numbers 1) (told 8) ≡ record { answer = 8; rule = 4; context = numbers 1; length = 0; dropped = 0 }

cards_hold : Rows
unfolding context numbers told flatten
cards_hold = record { accepted = refl; refused = refl }
