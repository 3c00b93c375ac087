-- The loop keeps `Telling`. It ends where there is no event more, or no room.
use Prim.Native.Nat.{◌-◌, ◌/◌}
use native.Mathlib.Omega.{arith}
use mathlib.Core.Path.{◌≡◌}
use lib.ListN.{length}
use Rattle.logs.specs.Logs.{program_width}
use Rattle.logs.proofs.Laws.Logs.{events_from_none, events_from_end}
use Rattle.texts.proofs.Laws.Texts.{telling_turn, telling_end}
use Rattle.texts.proofs.write_lines.Goals as goal

pub loop-preserved : goal.loop-preserved
loop-preserved c =
    let here = c.loop.invariant in
    let next = c.advance-advanced in
    telling_turn here (omega arith) (record { more = c.if-progress-log.false; fewer = c.loop-test.true }) next.ensures next.auto.first next.auto.second (c.put-length.ensures.value, c.put-length.ensures.out_after)

pub returns-after-loop : goal.returns-after-loop
returns-after-loop c =
    let l = c.loop in
    let full : length c.args.out.now / 84 - l.counter ≡ 0 = omega (arith, c.loop-test.false) in
    telling_end l.invariant (rw full (events_from_none program_width c.args.log.now l.progress.at))

pub returns-then-progress-log : goal.returns-then-progress-log
returns-then-progress-log c =
    telling_end c.loop.invariant (events_from_end program_width c.args.log.now c.loop.progress.at _ c.if-progress-log.true)
