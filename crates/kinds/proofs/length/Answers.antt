-- Each word has the lengths of its twelve kinds, and no other kind is known.
use mathlib.Core.Path.{refl, ◌∙◌}
use native.Mathlib.Omega.{arith}
use Rattle.model.specs.Layouts.{event_kind, length_of, body_of}
use Rattle.kinds.proofs.Laws.Places.{numbers_of_lengths, length_from_12, length_from_28}
use Rattle.kinds.proofs.length.Goals as goal

pub returns-then-kind-lt12 : goal.returns-then-kind-lt12
unfolding event_kind length_of body_of
returns-then-kind-lt12 c = c.number_at.ensures ∙ numbers_of_lengths _ 0 refl _ c.args.kind (omega arith) c.if-kind-lt12.true

pub returns-then-kind-lt16 : goal.returns-then-kind-lt16
returns-then-kind-lt16 c = length_from_12 _ c.if-kind-lt12.false c.if-kind-lt16.true

pub returns-then-kind-lt28 : goal.returns-then-kind-lt28
unfolding event_kind length_of body_of
returns-then-kind-lt28 c = c.number_at-then-kind-lt28.ensures ∙ numbers_of_lengths _ 16 refl _ c.args.kind (omega arith) (omega arith)

pub returns : goal.returns
returns c = length_from_28 _ c.if-kind-lt28.false
