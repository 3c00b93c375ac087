-- The length of the record that a row names, by the numbers of the row as they are read.
use Rattle.std.specs.Prelude.{ℕ, ◌+◌, ◌-◌, ◌*◌, ◌≤◌, ◌<◌, Bool, true, false, cond, not, ◌&&◌, List, ◌≡◌, get_or}
use Rattle.std.proofs.Math.Bool.{and-eq-true_iff}
use Rattle.std.proofs.Common.{sym, ◌∙◌}
use Rattle.model.specs.Bits.{number}
use Rattle.model.specs.Layouts.{mapping_kind, length_of}
use Rattle.model.specs.Mappings.{other_width}
use Rattle.laws.specs.Layouts.{mapping_kind_ge, mapping_kind_le, length_of_positive}
use Rattle.row_fields.specs.Rows.{column, good_row, named_length}
use Rattle.row_fields.specs.Masks.{first_mask_at, page_mask_at, ep4ta_mask_at}
use Rattle.row_fields.proofs.Laws.Rows.{bad_kind, good_by_ranges, length_good, length_bad}
use Rattle.row_fields.proofs.Laws.Masks.{unmasked, masks_of_row, far_span}

module _ (w : ℕ) (r : List ℕ) where
  -- 0 where the kind is no mapping's of that width
  pub named_length_other : (mapping_kind (number 1 0 r) && not (other_width w (number 1 0 r))) ≡ false → named_length w r ≡ 0
  unfolding column
  named_length_other off = length_bad w r (bad_kind w r off)

  -- 0 where no kind has the span; else the bits of the row decide
  module _ (own : (mapping_kind (number 1 0 r) && not (other_width w (number 1 0 r))) ≡ true) where
    pub named_length_far : 4 < number 1 1 r → named_length w r ≡ 0
    unfolding column
    named_length_far far = length_bad w r (good_by_ranges w r own ∙ far_span r far)

    pub named_length_masked : ((i : ℕ) → get_or r i 0 < 256) → (kind span : ℕ) → kind ≡ number 1 0 r → span ≡ number 1 1 r → span ≤ 4 → (b : Bool)
        → unmasked r (first_mask_at (5 * kind + span - 5)) (page_mask_at (5 * kind + span - 5)) (ep4ta_mask_at (5 * kind + span - 5)) ≡ b
        → named_length w r ≡ cond b (length_of (number 1 0 r)) 0
    unfolding column
    named_length_masked bytes kind span is_kind is_span few b is =
        go b (good_by_ranges w r own ∙ sym (masks_of_row r bytes ((and-eq-true_iff _ _).0 own).0 kind span is_kind is_span few) ∙ is)
      where
        go : (b : Bool) → good_row w r ≡ b → named_length w r ≡ cond b (length_of (number 1 0 r)) 0
        go true good = length_good w r good
        go false bad = length_bad w r bad

-- what the answers of the reader of a length rest on
pub ruleset named_lengths = (named_length_other, named_length_far, mapping_kind_ge, mapping_kind_le, length_of_positive)
