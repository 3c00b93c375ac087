-- The walk stands after whole, valid records of the linear width, and has counted them and struck them off. The measure is
-- what is left of the length.
use Rattle.std.proofs.Common.{◌∙◌, arith}
use Rattle.laws.specs.Tables.{rest_of_drop}
use Rattle.tables.proofs.Laws.Walk.{walk_start, walk_read, walk_held, walk_on, walk_stop}
use Rattle.tables.proofs.Laws.Counting.{counting_start, counting_ready, walked_counted, walked_uncounted, walked_all}
use Rattle.tables.proofs.walk.Goals as goal
use Rattle.tables.proofs.walk.Goals.{else-counting, then-counting}

pub loop-length-init : goal.loop-length-init
loop-length-init c = record { walked = walk_start _ _; counts = λ on. counting_start _ (c.requires.struck on) }

pub invariant_of-strike : goal.invariant_of-strike
invariant_of-strike c = record { held = walk_held c.loop-length.invariant.walked c.in-Some.ensures.some }

pub strike-requires : goal.strike-requires
strike-requires c =
    let inv = c.loop-length.invariant in
    let read = c.in-Some.ensures.some in
    rw rest_of_drop
    (counting_ready (inv.counts c.if-counting.true) (walk_read inv.walked read) read.0
    (omega (arith, (walk_on inv.walked read).within, read.0, c.requires.table_len_bound)))

pub loop-length-preserved : goal.loop-length-preserved
loop-length-preserved c =
    let inv = c.loop-length.invariant in
    let read = c.in-Some.ensures.some in
    elim c.if-counting.branch [ then-counting w ↦ walked_counted inv read w.if-counting.true (w.cells-is ∙ w.strike.ensures.cells_after) (w.pcids-is ∙ w.strike.ensures.pcids_after) | else-counting w ↦ rw (w.cells-is, w.pcids-is) (walked_uncounted inv read w.if-counting.false) ]

pub overflow_add-at : goal.overflow_add-at
overflow_add-at c =
    record { fits = omega (arith, (walk_on c.loop-length.invariant.walked c.in-Some.ensures.some).within) }

pub loop-length-smaller : goal.loop-length-smaller
loop-length-smaller c =
    let read = c.in-Some.ensures.some in
    omega (arith, (walk_on c.loop-length.invariant.walked read).within, read.0)

pub returns-clause-tells : goal.returns-clause-tells
returns-clause-tells c = walk_stop c.loop-length.invariant.walked c.in_default.ensures.none

pub returns-clause-struck_2 : goal.returns-clause-struck_2
returns-clause-struck_2 c = walked_all c.loop-length.invariant (returns-clause-tells c)
