-- The number of each kind is its length.
use mathlib.Core.Path.{refl, ◌∙◌}
use native.Mathlib.Omega.{arith}
use Rattle.model.specs.Layouts.{length_of, body_of}
use Rattle.laws.specs.Layouts.{mapping_kind_le}
use Rattle.kinds.proofs.Laws.Places.{numbers_of_mappings}
use Rattle.kinds.proofs.length_of_mapping.Goals as goal

pub number_at-requires : goal.number_at-requires
number_at-requires c = omega (arith, mapping_kind_le _ c.requires)

pub returns : goal.returns
unfolding length_of body_of
returns c = c.number_at.ensures ∙ numbers_of_mappings length_of _ refl _ c.requires
