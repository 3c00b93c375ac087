-- The bit of each kind is the definition's number.
use Rattle.std.proofs.Common.{nat_eq, refl, ap, ◌∙◌, eqb-true}
use Rattle.std.specs.Int.{from_bool}
use Rattle.model.specs.Bits.{bit}
use Rattle.model.specs.Mappings.{guest_physical}
use Rattle.laws.specs.Layouts.{of_mapping_kind}
use Rattle.tallies.specs.Tallies.{by_pcid}
use Rattle.tallies.proofs.times_by_pcid.Goals as goal

pub returns : goal.returns
unfolding by_pcid guest_physical
returns c =
    c.from.ensures
    ∙ ap from_bool c.is_among.ensures
    ∙ eqb-true _ _ (of_mapping_kind (λ k. nat_eq (from_bool (bit k 0x7DA)) (by_pcid k)) refl _ c.requires)
