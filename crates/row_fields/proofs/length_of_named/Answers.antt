-- The bits of the row decide.
use Rattle.std.specs.Prelude.{ℕ, Bool, cond, ◌&&◌, ◌≡◌}
use Rattle.std.specs.Int.Bits.{bit_and}
use Rattle.std.proofs.Math.Dec.{eqb}
use Rattle.std.proofs.Common.{sym, ap, ap₂, not, ◌∙◌, arith}
use borrow.Author.Tests.{not-false}
use Rattle.model.specs.Bits.{number}
use Rattle.model.specs.Layouts.{length_of}
use Rattle.laws.specs.Layouts.{length_of_positive}
use Rattle.std.proofs.lemmas.Grind.{common_steps}
use Rattle.row_fields.specs.Rows.{named_length}
use Rattle.row_fields.specs.Masks.{frame_mask}
use Rattle.row_fields.proofs.Laws.Lengths.{named_length_masked}
use Rattle.row_fields.proofs.length_of_named.Goals as goal
use Rattle.row_fields.proofs.length_of_named.Goals.{After-number-4}

decided : (c : After-number-4) (b : Bool)
    → (eqb (bit_and c.number.result c.mask_at-mask.result.0) 0 && eqb (bit_and c.number-2.result c.mask_at-mask.result.1) 0 && eqb (bit_and c.number-3.result frame_mask) 0 && eqb (bit_and c.number-4.result c.mask_at-mask.result.2) 0) ≡ b
    → named_length c.args.width c.args.row.now ≡ cond b (length_of (number 1 0 c.args.row.now)) 0
decided c b is =
    let own = rw c.number-kind.ensures.0 at (sym c.is_mapping_at.ensures ∙ not-false _ (ap not c.if-not-is_mapping_at.false)) in
    named_length_masked _ _ own (λ i. omega (arith, c.type_inv.row i)) _ _ c.number-kind.ensures.0 c.number-span.ensures.0 c.if-span-gt4.false b
    (sym
    (ap₂ ◌&&◌
    (ap₂ ◌&&◌
    (ap₂ (λ (x y : ℕ). eqb x 0 && eqb y 0)
    (ap₂ bit_and c.number.ensures.0 c.mask_at-mask.ensures.0)
    (ap₂ bit_and c.number-2.ensures.0 c.mask_at-mask.ensures.1.0))
    (ap (λ (x : ℕ). eqb (bit_and x frame_mask) 0) c.number-3.ensures.0))
    (ap₂ (λ (x y : ℕ). eqb (bit_and x y) 0) c.number-4.ensures.0 c.mask_at-mask.ensures.1.1))
    ∙ is)

pub returns-then-number-mask-clause-some : goal.returns-then-number-mask-clause-some
returns-then-number-mask-clause-some c =
    let is = decided (goal.at.returns-then-number-mask-clause-some c).After-number-4 _ c.if-number-mask.true in
    grind (arith, common_steps, length_of_positive)

pub returns-clause-none : goal.returns-clause-none
returns-clause-none c = decided (goal.at.returns-clause-none c).After-number-4 _ c.if-number-mask.false
