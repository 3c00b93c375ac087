-- The bits of the two halves decide.
use Rattle.std.specs.Prelude.{ℕ, ◌&&◌}
use Rattle.std.specs.Int.Bits.{bit_and}
use Rattle.std.proofs.Math.Dec.{eqb}
use Rattle.std.proofs.Common.{ap₂, ◌∙◌, arith}
use Rattle.valid_records.proofs.Laws.Masks.{masks_of_record}
use Rattle.valid_records.proofs.is_in_ranges.Goals as goal

pub returns : goal.returns
returns c =
    ap₂ (λ (x y : ℕ). eqb x 0 && eqb y 0)
    (ap₂ bit_and c.number.ensures.0 c.mask_at-mask.ensures.0)
    (ap₂ bit_and c.number-2.ensures.0 c.mask_at-mask.ensures.1)
    ∙ masks_of_record _ (λ i. omega (arith, c.type_inv.part i)) c.requires _ _ c.kind.ensures c.span-span.ensures c.if-span-gt4.false
