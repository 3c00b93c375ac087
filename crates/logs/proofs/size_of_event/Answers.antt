-- The length that is told, or what is left.
use mathlib.Core.Path.{sym}
use Rattle.logs.proofs.Laws.Logs.{event_size_told}
use Rattle.logs.proofs.size_of_event.Goals as goal

pub returns-then-length-size : goal.returns-then-length-size
returns-then-length-size c =
    let told = c.length_of_event-length.ensures in
    sym (rw (← told, c.if-length-size.true) at (event_size_told c.args.width c.args.log.now))

pub returns-else-length-size : goal.returns-else-length-size
returns-else-length-size c =
    let told = c.length_of_event-length.ensures in
    sym (rw (← told, c.if-length-size.false) at (event_size_told c.args.width c.args.log.now))
