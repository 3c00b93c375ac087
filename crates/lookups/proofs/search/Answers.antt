-- What is left to find stands behind the position of the walk, for every test for which the data ask. The measure is what is left of the length.
use native.Mathlib.Omega.{arith}
use Rattle.laws.specs.Tables.{Next, whole_rest, held_of_whole, next_of_whole}
use Rattle.lookups.proofs.Laws.Searching.{search_start, search_end, search_skip, search_next, search_found}
use Rattle.lookups.proofs.search.Goals as goal
use Rattle.lookups.proofs.search.Goals.{After-length}

pub loop-at-init : goal.loop-at-init
loop-at-init c = (c.requires, λ p asks. search_start p _ _)

pub invariant_of-record : goal.invariant_of-record
invariant_of-record c = record { held = held_of_whole _ _ c.loop-at.invariant.0 c.if-table-at.false }

-- the record at the position, in a turn of the loop
next : (c : After-length) → Next c.args.table.now c.loop-at.at c.length.result
next c = next_of_whole _ _ c.loop-at.invariant.0 c.if-table-at.false c.length.ensures

pub overflow_add-end : goal.overflow_add-end
overflow_add-end c = omega (arith, (next c).within)

pub loop-at-smaller-else-left-eq0 : goal.loop-at-smaller-else-left-eq0
loop-at-smaller-else-left-eq0 c = omega (arith, next (goal.at.loop-at-smaller-else-left-eq0 c).After-length)

pub loop-at-preserved-else-left-eq0 : goal.loop-at-preserved-else-left-eq0
loop-at-preserved-else-left-eq0 c =
    let inv = c.loop-at.invariant in
    let here = next (goal.at.loop-at-preserved-else-left-eq0 c).After-length in
    (whole_rest inv.0 here, λ p asks. search_next inv.0 (inv.1 p asks) asks here c.is_met.ensures c.if-is_met.true c.if-left-eq0.false)

pub loop-at-smaller : goal.loop-at-smaller
loop-at-smaller c = omega (arith, next (goal.at.loop-at-smaller c).After-length)

pub loop-at-preserved : goal.loop-at-preserved
loop-at-preserved c =
    let inv = c.loop-at.invariant in
    let here = next (goal.at.loop-at-preserved c).After-length in
    (whole_rest inv.0 here, λ p asks. search_skip inv.0 (inv.1 p asks) asks here c.is_met.ensures c.if-is_met.false)

pub returns-then-table-at-clause-searched : goal.returns-then-table-at-clause-searched
returns-then-table-at-clause-searched c = λ p asks. search_end (c.loop-at.invariant.1 p asks) c.if-table-at.true

pub returns-then-left-eq0-clause-searched : goal.returns-then-left-eq0-clause-searched
returns-then-left-eq0-clause-searched c =
    let inv = c.loop-at.invariant in
    λ p asks. search_found inv.0 (inv.1 p asks) asks (next (goal.at.returns-then-left-eq0-clause-searched c).After-length) c.is_met.ensures c.if-is_met.true c.if-left-eq0.true

pub returns-then-left-eq0-clause-filled : goal.returns-then-left-eq0-clause-filled
returns-then-left-eq0-clause-filled c = omega (arith, next (goal.at.returns-then-left-eq0-clause-filled c).After-length)
