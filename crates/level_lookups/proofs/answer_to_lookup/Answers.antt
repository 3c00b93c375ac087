-- The first table's refusal, else what the second's judgement gives.
use mathlib.Core.Path.{sym, ◌∙◌}
use borrow.Author.Tests.{eq-eqb, ne_eqb}
use Rattle.std.proofs.lemmas.Result.{err_from_is_err_and}
use Rattle.laws.specs.Refusals.{refusal_number_some}
use Rattle.level_lookups.specs.Levels.{lookup_levels_answer}
use Rattle.level_lookups.proofs.answer_to_lookup.Goals as goal

pub returns-in_err-answer_to_lookup : goal.returns-in_err-answer_to_lookup
unfolding lookup_levels_answer
returns-in_err-answer_to_lookup c =
    let p = err_from_is_err_and c.from_residual.result c.from_residual.ensures.1 in
    let is = c.in_err-answer_to_lookup.ensures in
    rw (p.1, p.2, ne_eqb _ 0 (λ zero. refusal_number_some _ (is ∙ zero))) is

pub returns : goal.returns
unfolding lookup_levels_answer
returns c = rw (eq-eqb _ 0 (sym c.in_ok-answer_to_lookup.ensures)) c.answer_to_lookup-2.ensures
