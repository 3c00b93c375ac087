-- A table that is accepted is whole, and the search finds the part; without anything to ask for there is none.
use mathlib.Core.Path.{sym, ◌∙◌}
use Rattle.std.proofs.lemmas.Result.{err_from_is_err_and}
use Rattle.laws.specs.Lookups.{lookup_answer_whole}
use Rattle.laws.specs.Refusals.{refusal_number_some}
use Rattle.lookups.proofs.Laws.Finding.{finds, finds_refused, searched_nothing}
use Rattle.lookups.proofs.find.Goals as goal

pub returns-in_err-answer_to_lookup-clause-start_value : goal.returns-in_err-answer_to_lookup-clause-start_value
returns-in_err-answer_to_lookup-clause-start_value c =
    let p = err_from_is_err_and c.from_residual.result c.from_residual.ensures.1 in
    rw p.1 (finds_refused _ _ _ _ (λ zero. refusal_number_some _ (c.in_err-answer_to_lookup.ensures ∙ zero))).places

pub returns-in_err-answer_to_lookup-clause-part_value : goal.returns-in_err-answer_to_lookup-clause-part_value
returns-in_err-answer_to_lookup-clause-part_value c =
    let p = err_from_is_err_and c.from_residual.result c.from_residual.ensures.1 in
    rw p.1 (finds_refused _ _ _ _ (λ zero. refusal_number_some _ (c.in_err-answer_to_lookup.ensures ∙ zero))).part

pub returns-in_default-clause-start_value : goal.returns-in_default-clause-start_value
returns-in_default-clause-start_value c =
    (finds _ _ _ _ (sym c.in_ok-answer_to_lookup.ensures) (searched_nothing (rw c.in_default.is at c.sought_at.ensures) _ _)).places

pub returns-in_default-clause-part_value : goal.returns-in_default-clause-part_value
returns-in_default-clause-part_value c =
    (finds _ _ _ _ (sym c.in_ok-answer_to_lookup.ensures) (searched_nothing (rw c.in_default.is at c.sought_at.ensures) _ _)).part

pub search-requires : goal.search-requires
search-requires c = lookup_answer_whole _ _ (sym c.in_ok-answer_to_lookup.ensures)

pub returns-clause-start_value : goal.returns-clause-start_value
returns-clause-start_value c =
    (finds _ _ _ _ (sym c.in_ok-answer_to_lookup.ensures) (c.search.ensures.searched _ (rw c.in-Some.is at c.sought_at.ensures))).places

pub returns-clause-part_value : goal.returns-clause-part_value
returns-clause-part_value c =
    (finds _ _ _ _ (sym c.in_ok-answer_to_lookup.ensures) (c.search.ensures.searched _ (rw c.in-Some.is at c.sought_at.ensures))).part
