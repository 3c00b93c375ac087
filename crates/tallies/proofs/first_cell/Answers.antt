-- The number of each kind is five times its row.
use Rattle.std.proofs.Common.{◌*◌, refl}
use Rattle.model.specs.Mappings.{linear, guest_physical, structure_cache}
use Rattle.kinds.proofs.Laws.Places.{numbers_of_mappings}
use Rattle.tallies.specs.Tallies.{row_of}
use Rattle.tallies.proofs.first_cell.Goals as goal

pub returns : goal.returns
unfolding row_of linear guest_physical structure_cache
returns c = numbers_of_mappings (λ k. 5 * row_of k) _ refl _ c.requires
