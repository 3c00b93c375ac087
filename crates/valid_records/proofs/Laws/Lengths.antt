-- The length of a record of a linear width, by the width of its kind.
use Rattle.std.specs.Prelude.{ℕ, ◌<◌, ◌≤◌, Bool, ◌&&◌, List, ◌≡◌, length}
use Rattle.std.proofs.Math.Bool.{true, false, cond, not, and-eq-true_iff}
use Rattle.std.proofs.lemmas.Bool.{false≢true}
use Rattle.std.proofs.Math.Path.{refl}
use Rattle.std.proofs.Common.{sym, ◌∙◌}
use borrow.Author.Tests.{not-true}
use Rattle.model.specs.Layouts.{kind_of, mapping_kind, length_of}
use Rattle.model.specs.Mappings.{mapping, other_width, fields_in_range, record_length}
use Rattle.laws.specs.Layouts.{length_of_positive}
use Rattle.laws.specs.Mappings.{record_length_unknown, record_length_short, record_length_held}
use Rattle.valid_records.specs.Lengths.{length_at}

module _ (w : ℕ) (r : List ℕ) where
  pub length_at_own : other_width w (kind_of r) ≡ false → length_at w r ≡ record_length r
  unfolding length_at
  length_at_own own = rw own

  pub length_at_other : other_width w (kind_of r) ≡ true → length_at w r ≡ 0
  unfolding length_at
  length_at_other other = rw other

  -- 0 where the kind is no mapping's of that width
  pub length_at_none : (mapping_kind (kind_of r) && not (other_width w (kind_of r))) ≡ false → length_at w r ≡ 0
  unfolding length_at
  length_at_none h = go (mapping_kind (kind_of r)) (other_width w (kind_of r)) refl h
    where
      go : (known other : Bool) → mapping_kind (kind_of r) ≡ known → (known && not other) ≡ false → cond other 0 (record_length r) ≡ 0
      go known true k h = refl
      go true false k h = absurd (false≢true (sym h))
      go false false k h = record_length_unknown r k

  -- too few bytes have none; else the fields decide
  module _ (known : (mapping_kind (kind_of r) && not (other_width w (kind_of r))) ≡ true) where
    own : other_width w (kind_of r) ≡ false
    own = not-true _ ((and-eq-true_iff _ _).0 known).1

    pub length_at_short : length r < length_of (kind_of r) → length_at w r ≡ 0
    length_at_short short = length_at_own own ∙ record_length_short r short

    pub length_at_whole : length_of (kind_of r) ≤ length r → (b : Bool) → fields_in_range (mapping r) ≡ b → length_at w r ≡ cond b (length_of (kind_of r)) 0
    length_at_whole fits b is =
        length_at_own own ∙ record_length_held r b (record { known = ((and-eq-true_iff _ _).0 known).0; fits = fits }) is

-- what the answers of the reader of a length rest on
pub ruleset lengths = (length_at_none, length_at_short, length_at_whole, length_of_positive)
