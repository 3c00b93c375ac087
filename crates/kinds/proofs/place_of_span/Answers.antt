-- The bit of each kind gives the place of the span.
use Prim.Native.Nat.{◌+◌, ◌/◌, ◌%◌, ◌^◌}
use mathlib.Core.Path.{refl}
use native.Mathlib.Omega.{arith}
use Rattle.model.specs.Layouts.{Field, body_of}
use Rattle.laws.specs.Layouts.{mapping_kind_le}
use Rattle.kinds.specs.Places.{place_of}
use Rattle.kinds.proofs.Laws.Places.{tested_of_mappings}
use Rattle.kinds.proofs.place_of_span.Goals as goal

pub overflow_shr-result : goal.overflow_shr-result
overflow_shr-result c = omega (arith, mapping_kind_le _ c.requires)

pub returns : goal.returns
unfolding body_of place_of
returns c = tested_of_mappings (place_of Field.span) (λ k. 5 + 0x1AE / 2 ^ k % 2) refl _ c.requires
