-- The size that is read is that of the event at the position, which lies within the log.
use Prim.Native.Nat.{◌+◌, ◌-◌, ◌≤◌}
use mathlib.Core.Path.{◌≡◌}
use native.Mathlib.Omega.{arith}
use lib.ListN.{length, drop}
use Rattle.laws.specs.Tables.{rest_of_drop}
use Rattle.logs.specs.Logs.{event_size}
use Rattle.logs.proofs.Laws.Logs.{event_size_within}
use Rattle.logs.proofs.Laws.Progress.{advances}
use Rattle.logs.proofs.advance.Goals as goal
use Rattle.logs.proofs.advance.Goals.{After-size_of_event}

-- the size, and that the event lies within the log
size : (c : After-size_of_event)
    → c.size_of_event.result ≡ event_size c.args.width (drop c.args.p.at c.args.log.now)
size c = rw rest_of_drop at c.size_of_event.ensures

within : (c : After-size_of_event)
    → c.args.p.at + c.size_of_event.result ≤ length c.args.log.now
within c =
    rw (size c) (event_size_within c.args.width c.args.log.now c.args.p.at c.requires.at_in_bounds).1

pub overflow_add-end : goal.overflow_add-end
overflow_add-end c = omega (arith, within c)

pub slice_bounds-apply-end : goal.slice_bounds-apply-end
slice_bounds-apply-end c = omega (arith, within c)

pub overflow_add-result : goal.overflow_add-result
overflow_add-result c =
    record { fits = omega (arith, c.requires.ready.few, c.requires.at_in_bounds, c.well_formed) }

pub returns : goal.returns
returns c =
    let part : c.args.p.at + c.size_of_event.result - c.args.p.at ≡ event_size c.args.width (drop c.args.p.at c.args.log.now) = omega (arith, size (goal.at.returns c).After-size_of_event) in
    advances c.requires.ready c.requires.at_in_bounds (rw part at c.apply-applied.ensures) (rw (size (goal.at.returns c).After-size_of_event))
