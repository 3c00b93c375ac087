-- Every count is a copy of 0.
use Rattle.tallies.proofs.clear.Goals as goal

pub returns : goal.returns
returns c =
    (rw c.requires.cells_len at (c.fill.ensures.after (λ y is. is)), rw c.requires.pcids_len at (c.fill-2.ensures.after (λ y is. is)))
