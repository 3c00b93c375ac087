-- An event with no record in scope leaves the table, a reset drops it, and for any other event the table
-- is filtered by what the event asks.
use borrow.Author.Tests.{not-true, not-false}
use mathlib.Core.Bool.{false≢true}
use mathlib.Core.Path.{refl, sym, ◌∙◌}
use native.Mathlib.Nat.{zero-add}
use Rattle.model.specs.Scopes.{has_scope, scope}
use Rattle.laws.specs.Scopes.{out_of_scope}
use Rattle.queries.proofs.Laws.Queries.{passed_scope}
use Rattle.tallies.proofs.Laws.Tallied.{tallied_nil, length_tallied}
use Rattle.filters.proofs.Laws.Filters.{left_all, filters_all, left_none, filters_none, left_agree, filters_agree}
use Rattle.std.proofs.Common.{ap}
use Rattle.std.proofs.Common.{not}
use Rattle.filters.proofs.filter_event.Goals as goal

pub returns-then-not-has_scope : goal.returns-then-not-has_scope
returns-then-not-has_scope c =
    let none = out_of_scope c.args.c c.args.e (sym c.has_scope.ensures ∙ not-true _ (ap not c.if-not-has_scope.true)) in
    let put = c.put.ensures in
    record { filters = filters_all _ none _ _ c.requires.table_value (put.value ∙ rw zero-add) put.out_after; carries = record { counted = λ on. rw (left_all _ none) (c.requires.tallied on); kept = λ off. (refl, refl) } }

pub clear-requires : goal.clear-requires
clear-requires c =
    let all = length_tallied (c.requires.tallied c.if-counting.true) in record { cells_len = all.0; pcids_len = all.1 }

pub returns-then-counting : goal.returns-then-counting
unfolding scope has_scope
returns-then-counting c =
    let cleared = c.clear.ensures in
    rw c.in-Reset.is (record {
      filters = filters_none _ (λ m. refl) _ _ c.requires.count_value;
      carries = record {
        counted = λ on. rw (left_none _ (λ m. refl), cleared.0, cleared.1) tallied_nil;
        kept = λ off. absurd (false≢true (sym off ∙ c.if-counting.true));
      };
    })

pub returns-else-counting : goal.returns-else-counting
unfolding scope has_scope
returns-else-counting c =
    rw c.in-Reset.is (record { filters = filters_none _ (λ m. refl) _ _ c.requires.count_value; carries = record { counted = λ on. absurd (false≢true (sym c.if-counting.false ∙ on)); kept = λ off. (refl, refl) } })

pub returns-in_default : goal.returns-in_default
returns-in_default c =
    let query = c.query-query in
    let some = sym c.has_scope.ensures ∙ not-false _ (ap not c.if-not-has_scope.false) in
    let agree = passed_scope c.args.c c.args.e query.result query.ensures some in
    let filter = c.filter.ensures in
    record { filters = filters_agree _ _ agree _ filter.filters; carries = record { counted = λ on. rw (← (left_agree _ _ agree _)) (filter.carries.counted on); kept = filter.carries.kept } }
