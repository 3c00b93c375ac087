-- Both branches are the same law, at the buffer that holds the table.
use Rattle.states.proofs.Laws.States.{holds_first, holds_second, applies_first, applies_second}
use Rattle.states.proofs.apply.Goals as goal

pub apply_to-requires : goal.apply_to-requires
apply_to-requires c = holds_first _ _ _ c.if-state.true c.requires

pub returns-then-state : goal.returns-then-state
returns-then-state c =
    let a = c.args in
    applies_first a.state a.event.now a.first.now a.second.now c.if-state.true c.apply_to.ensures

pub apply_to-requires-2 : goal.apply_to-requires-2
apply_to-requires-2 c = holds_second _ _ _ c.if-state.false c.requires

pub returns : goal.returns
returns c =
    let a = c.args in
    applies_second a.state a.event.now a.first.now a.second.now c.if-state.false c.apply_to-2.ensures
