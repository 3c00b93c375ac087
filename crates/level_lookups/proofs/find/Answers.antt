-- Tables that are accepted are whole, and the searches find the part; a refusal gives 0, 0 and 0.
use Rattle.std.specs.Prelude.{Some}
use mathlib.Core.Bool.{not}
use mathlib.Core.Path.{◌≡◌, refl, sym}
use native.Mathlib.Omega.{arith}
use Rattle.std.proofs.lemmas.Result.{err_from_is_err_and}
use Rattle.model.specs.Mappings.{structure_cache}
use Rattle.laws.specs.Refusals.{refusal_number_some}
use Rattle.lookups.specs.Search.{AsksFor}
use Rattle.lookups.proofs.Laws.Finding.{searched_nothing}
use Rattle.level_lookups.specs.Levels.{usable_translation, lookup_levels_answer}
use Rattle.level_lookups.proofs.Laws.Levels.{translations, both_whole, found_refused, found_first, found_neither, found_last}
use Rattle.level_lookups.proofs.find.Goals as goal
use Rattle.level_lookups.proofs.find.Goals.{After-sought_at_linear, In-Some}

pub returns-in_err-answer_to_lookup-clause-value : goal.returns-in_err-answer_to_lookup-clause-value
returns-in_err-answer_to_lookup-clause-value c =
    let p = err_from_is_err_and c.from_residual.result c.from_residual.ensures.1 in
    rw (p.1, p.2) (found_refused _ _ _ _ c.in_err-answer_to_lookup.ensures (refusal_number_some _)).0

pub returns-in_err-answer_to_lookup-clause-stands : goal.returns-in_err-answer_to_lookup-clause-stands
returns-in_err-answer_to_lookup-clause-stands c =
    let p = err_from_is_err_and c.from_residual.result c.from_residual.ensures.1 in
    rw (p.1, p.2) (found_refused _ _ _ _ c.in_err-answer_to_lookup.ensures (refusal_number_some _)).1

-- the tables are accepted, and the data ask for the usable translations
passes : (c : After-sought_at_linear)
    → lookup_levels_answer c.args.c c.args.first.now c.args.second.now ≡ 0
passes c = sym c.in_ok-answer_to_lookup.ensures

asks : (c : After-sought_at_linear)
    → AsksFor (usable_translation c.args.c c.args.address) c.sought_at_linear.result
unfolding usable_translation
asks c = c.sought_at_linear.ensures (λ k. not (structure_cache k)) translations

pub returns-in_default-clause-value : goal.returns-in_default-clause-value
returns-in_default-clause-value c =
    let before = (goal.at.returns-in_default-clause-value c).After-sought_at_linear in
    let none = rw c.in_default.is at (asks before) in
    (found_neither _ _ _ _ (passes before) (searched_nothing none _ 0) refl (searched_nothing none _ 0) refl).0

pub returns-in_default-clause-stands : goal.returns-in_default-clause-stands
returns-in_default-clause-stands c =
    let before = (goal.at.returns-in_default-clause-stands c).After-sought_at_linear in
    let none = rw c.in_default.is at (asks before) in
    (found_neither _ _ _ _ (passes before) (searched_nothing none _ 0) refl (searched_nothing none _ 0) refl).1

pub search-requires : goal.search-requires
search-requires c = (both_whole _ _ _ (passes (goal.at.search-requires c).After-sought_at_linear)).0

-- the data that are asked for
some : (c : In-Some) → AsksFor (usable_translation c.args.c c.args.address) (Some c.in-Some.asked)
unfolding usable_translation
some c = rw c.in-Some.is at (c.sought_at_linear.ensures (λ k. not (structure_cache k)) translations)

pub returns-in-Some-search-clause-value : goal.returns-in-Some-search-clause-value
returns-in-Some-search-clause-value c =
    let before = (goal.at.returns-in-Some-search-clause-value c) in
    let found = c.in-Some-search.ensures in
    (found_first _ _ _ _ (passes before.After-sought_at_linear) (found.searched _ (some before.In-Some)) (λ nil. absurd (omega (arith, found.filled, nil)))).0

pub returns-in-Some-search-clause-stands : goal.returns-in-Some-search-clause-stands
returns-in-Some-search-clause-stands c =
    let before = (goal.at.returns-in-Some-search-clause-stands c) in
    let found = c.in-Some-search.ensures in
    (found_first _ _ _ _ (passes before.After-sought_at_linear) (found.searched _ (some before.In-Some)) (λ nil. absurd (omega (arith, found.filled, nil)))).1

pub search-requires-2 : goal.search-requires-2
search-requires-2 c = (both_whole _ _ _ (passes (goal.at.search-requires-2 c).After-sought_at_linear)).1

pub returns-clause-value : goal.returns-clause-value
returns-clause-value c =
    let before = (goal.at.returns-clause-value c) in
    let first = rw c.in_default-search.is at (c.search.ensures.searched _ (some before.In-Some)) in
    let second = c.search-2.ensures in
    (found_last _ _ _ _ (passes before.After-sought_at_linear) first refl _ _ c.map.ensures.cases (second.searched _ (some before.In-Some)) second.filled).0

pub returns-clause-stands : goal.returns-clause-stands
returns-clause-stands c =
    let before = (goal.at.returns-clause-stands c) in
    let first = rw c.in_default-search.is at (c.search.ensures.searched _ (some before.In-Some)) in
    let second = c.search-2.ensures in
    (found_last _ _ _ _ (passes before.After-sought_at_linear) first refl _ _ c.map.ensures.cases (second.searched _ (some before.In-Some)) second.filled).1
