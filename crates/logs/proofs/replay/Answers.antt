-- The loop keeps `Replaying`; its measure is what is left of the log. At the end no event is left, and
-- with long buffers the run is by the book.
use Prim.Native.Nat.{◌-◌, ◌/◌}
use native.Mathlib.Omega.{arith}
use lib.ListN.{length}
use Rattle.logs.specs.Progress.{begun, Ready}
use Rattle.logs.proofs.Laws.Lines.{by_the_book}
use Rattle.logs.proofs.Laws.Progress.{ready_begun, at_increases, Going, going, none_from, taking_end}
use Rattle.logs.proofs.Laws.Replaying.{replaying_start, replaying_turn, length_written, written_end, replays}
use Rattle.logs.proofs.replay.Goals as goal
use Rattle.logs.proofs.replay.Goals.{In-loop-p}

pub loop-p-init : goal.loop-p-init
unfolding begun
loop-p-init c =
    let a = c.args in
    let ready : Ready c.start-p.result a.log.now a.first.now a.second.now =
    rw c.start-p.ensures (ready_begun a.c a.log.now a.first.now a.second.now) in
    replaying_start _ c.start-p.result a.log.now a.first.now a.second.now a.rows.now _ (rw c.start-p.ensures) ready

-- in a turn there is an event, and room for its row
goes : (c : In-loop-p)
    → Going c.args.log.now c.loop-p.p.at c.loop-p.p.count (length c.args.rows.now / 24)
goes c = going _ c.loop-p.p.at c.loop-p.p.count _ c.loop-p-test.true

pub advance-advanced-requires : goal.advance-advanced-requires
advance-advanced-requires c =
    record { ready = c.loop-p.invariant.taking.ready; at_in_bounds = (goes (goal.at.advance-advanced-requires c).In-loop-p).more }

pub overflow_mul-at : goal.overflow_mul-at
overflow_mul-at c =
    omega (arith, (goes (goal.at.overflow_mul-at c).In-loop-p).fewer, c.well_formed)

pub put_row-requires : goal.put_row-requires
put_row-requires c =
    omega (arith, (goes (goal.at.put_row-requires c).In-loop-p).fewer, length_written c.loop-p.invariant.rows)

pub loop-p-smaller : goal.loop-p-smaller
loop-p-smaller c =
    let more = (goes (goal.at.loop-p-smaller c).In-loop-p).more in
    omega (arith, more, at_increases more c.advance-advanced.ensures)

pub loop-p-preserved : goal.loop-p-preserved
loop-p-preserved c =
    replaying_turn c.loop-p.invariant (omega arith) (goes (goal.at.loop-p-preserved c).In-loop-p) c.advance-advanced.ensures c.advance-advanced.auto.first c.advance-advanced.auto.second c.put_row.ensures

pub shape_of-first : goal.shape_of-first
shape_of-first c = c.loop-p.invariant.taking.first

pub shape_of-second : goal.shape_of-second
shape_of-second c = c.loop-p.invariant.taking.second

pub shape_of-rows : goal.shape_of-rows
shape_of-rows c = length_written c.loop-p.invariant.rows

pub returns : goal.returns
returns c =
    let l = c.loop-p in
    let a = c.args in
    let none = none_from _ a.log.now l.p.at l.p.count (length a.rows.now / 24) c.loop-p-test.false in
    let inv = rw c.start-p.ensures at l.invariant in
    let done = replays a.c a.log.now a.first.now a.second.now a.rows.now (taking_end inv.taking none) (written_end inv.rows none) in
    record { replays = done; by_the_book = by_the_book done }
