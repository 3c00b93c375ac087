-- The length that the kind of the first byte has, where it is of the linear width.
use mathlib.Core.Bool.{and-true, and-false}
use mathlib.Core.Path.{sym, ◌∙◌}
use Rattle.logs.specs.Logs.{told_length}
use Rattle.logs.proofs.length_of_event.Goals as goal

pub returns-then-is_of_other_width : goal.returns-then-is_of_other_width
unfolding told_length
returns-then-is_of_other_width c =
    let said = sym (rw c.first_byte-kind.ensures at c.is_of_other_width.ensures) ∙ c.if-is_of_other_width.true in
    rw (said, and-false)

pub returns : goal.returns
unfolding told_length
returns c =
    let kind = c.first_byte-kind.ensures in
    let said = sym (rw kind at c.is_of_other_width.ensures) ∙ c.if-is_of_other_width.false in
    rw (said, and-true) (rw kind at c.length.ensures)
