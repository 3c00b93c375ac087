-- `filter` keeps the loop's invariant: a record that passes ends a run, and is taken off where the records are counted;
-- any other record lengthens the run. The measure is what is left of the table.
use mathlib.Core.Path.{◌≡◌, refl, sym, ◌∙◌}
use native.Mathlib.Omega.{arith}
use lib.ListN.{drop}
use Rattle.model.specs.Mappings.{mapping}
use Rattle.model.specs.Scopes.{passed}
use Rattle.queries.specs.Queries.{query_tests}
use Rattle.laws.specs.Tables.{rest_of_drop, Next, held_of_whole, next_of_whole}
use Rattle.filters.proofs.Laws.Filtering.{filtering_start, filtering_room, filtering_out, filtering_in, filtering_end}
use Rattle.filters.proofs.Laws.Dropping.{dropping_start, dropping_ready, dropping_end, filtering_left, filtering_counted, filtering_uncounted}
use Rattle.filters.proofs.filter.Goals as goal
use Rattle.filters.proofs.filter.Goals.{After-is_passing, After-length, else-counting, then-counting}

pub loop-at-init : goal.loop-at-init
loop-at-init c =
    record {
      filtering = filtering_start _ _ _ c.requires.table_value c.requires.table_in_bounds;
      cells_long = refl;
      pcids_long = refl;
      counts = λ on. dropping_start _ _ (c.requires.tallied on);
      kept = λ off. (refl, refl);
    }

pub invariant_of-record : goal.invariant_of-record
invariant_of-record c = record { held = held_of_whole _ _ c.loop-at.invariant.filtering.rest c.loop-at-test.true }

-- the record at the position
next : (c : After-length) → Next c.args.table.now c.loop-at.at c.length.result
next c = next_of_whole _ _ c.loop-at.invariant.filtering.rest c.loop-at-test.true c.length.ensures

-- whether it passes
told : (c : After-is_passing)
    → c.is_passing.result ≡ passed (query_tests c.args.query (mapping (drop c.loop-at.at c.args.table.now)))
told c = rw rest_of_drop at c.is_passing.ensures

pub take_off-requires : goal.take_off-requires
take_off-requires c =
    let loop = c.loop-at.invariant in
    rw rest_of_drop
    (dropping_ready _ (loop.counts c.if-counting.true) (next (goal.at.take_off-requires c).After-length)
    (rw rest_of_drop at (held_of_whole _ _ loop.filtering.rest c.loop-at-test.true)))

pub put-to-requires : goal.put-to-requires
put-to-requires c = filtering_room _ c.loop-at.invariant.filtering

pub loop-at-smaller-after-counting : goal.loop-at-smaller-after-counting
loop-at-smaller-after-counting c = omega (arith, next (goal.at.loop-at-smaller-after-counting c).After-length)

pub loop-at-preserved-after-counting : goal.loop-at-preserved-after-counting
loop-at-preserved-after-counting c =
    let inv = c.loop-at.invariant in
    let here = next (goal.at.loop-at-preserved-after-counting c).After-length in
    let inside = sym (told (goal.at.loop-at-preserved-after-counting c).After-is_passing) ∙ c.if-is_passing.true in
    let on = filtering_in _ inv.filtering here inside c.put-to.ensures.value c.put-to.ensures.out_after in
    elim c.if-counting.branch [ then-counting w ↦ filtering_counted _ inv here inside on w.if-counting.true (w.cells-is ∙ w.take_off.ensures.cells_after) (w.pcids-is ∙ w.take_off.ensures.pcids_after) | else-counting w ↦ filtering_uncounted _ inv here inside on w.if-counting.false w.cells-is w.pcids-is ]

pub loop-at-smaller : goal.loop-at-smaller
loop-at-smaller c = omega (arith, next (goal.at.loop-at-smaller c).After-length)

pub loop-at-preserved : goal.loop-at-preserved
loop-at-preserved c =
    let inv = c.loop-at.invariant in
    let out = sym (told (goal.at.loop-at-preserved c).After-is_passing) ∙ c.if-is_passing.false in
    filtering_left _ inv (next (goal.at.loop-at-preserved c).After-length) out (filtering_out _ inv.filtering (next (goal.at.loop-at-preserved c).After-length) out)

pub put-to-requires-2 : goal.put-to-requires-2
put-to-requires-2 c = filtering_room _ c.loop-at.invariant.filtering

pub returns : goal.returns
returns c =
    let inv = c.loop-at.invariant in
    let end = c.loop-at-test.false in
    record { filters = filtering_end _ inv.filtering end c.put-to-2.ensures.value c.put-to-2.ensures.out_after; carries = record { counted = λ on. dropping_end _ (inv.counts on) end; kept = inv.kept } }
