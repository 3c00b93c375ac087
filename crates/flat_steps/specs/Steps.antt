-- The result of a step as a flat struct of numbers, for callers in other languages.
use Rattle.std.specs.Prelude.{ℕ, cond, eqb}
use Rattle.model.specs.declared.Step.{Step}
use Rattle.flat_contexts.specs.declared.FlatContext.{FlatContext}
use Rattle.flat_contexts.specs.Contexts.{flatten}
use Rattle.flat_steps.specs.declared.FlatStep.{FlatStep}

-- a refusal hands back the context as it came
abbrev pub refused : ℕ → ℕ → FlatContext → FlatStep
refused answer rule c = record { answer = answer; rule = rule; context = c; length = 0; dropped = 0 }

-- a step's result
abbrev pub flat_result : FlatContext → Step → FlatStep
flat_result c s =
    cond (eqb s.answer 0)
    (record { answer = 0; rule = 0; context = flatten s.context; length = s.length; dropped = s.dropped })
    (refused s.answer s.rule c)
