-- The number of each kind is the place of the EP4TA.
use mathlib.Core.Path.{refl, ◌∙◌}
use native.Mathlib.Omega.{arith}
use Rattle.model.specs.Layouts.{Field, body_of}
use Rattle.laws.specs.Layouts.{mapping_kind_le}
use Rattle.kinds.specs.Places.{place_of}
use Rattle.kinds.proofs.Laws.Places.{numbers_of_mappings}
use Rattle.kinds.proofs.place_of_ep4ta.Goals as goal

pub number_at-requires : goal.number_at-requires
number_at-requires c = omega (arith, mapping_kind_le _ c.requires)

pub returns : goal.returns
unfolding body_of place_of
returns c = c.number_at.ensures ∙ numbers_of_mappings (place_of Field.ep4ta) _ refl _ c.requires
