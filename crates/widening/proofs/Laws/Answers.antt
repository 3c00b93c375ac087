-- What the converter answers, reports and leaves.
use Rattle.std.specs.Prelude.{ℕ, min, ◌≤◌, true, false, cond, ◌||◌, List, [], ◌∷◌, ◌≡◌, length}
use Rattle.std.proofs.Math.Path.{refl, sym}
use Rattle.std.proofs.Common.{◌∙◌, arith}
use borrow.Author.Tests.{ne_eqb, ltb-false}
use Rattle.std.proofs.Math.Dec.{ltb}
use Rattle.model.specs.Buffers.{put}
use Rattle.model.specs.Tables.{limit, whole}
use Rattle.model.specs.Answers.{first, stored_grounds}
use Rattle.laws.specs.Answers.{first_append_some, first_append_none, stored_valid, valid_table_parts}
use Rattle.laws.specs.Refusals.{refusal_number_some}
use Rattle.laws.specs.Steps.{below_either}
use Rattle.widening.specs.Widening.{widened_table, widening_grounds, widening_answer, widening, widening_written}

module _ (t : List ℕ) (room : ℕ) where
  -- an invalid table
  pub widening_invalid : (n : ℕ) → n ≡ first (stored_grounds 48 t) → (n ≡ 0 → ⊥) → widening_answer t room ≡ n
  unfolding widening_answer widening_grounds
  widening_invalid n is some =
      first_append_some (stored_grounds 48 t) ((12, ltb (min room limit) (length (widened_table t))) ∷ []) (λ none. some (is ∙ none)) ∙ sym is

  module _ (valid : first (stored_grounds 48 t) ≡ 0) where
    pub widening_whole : whole t ≡ true
    widening_whole = (valid_table_parts _ _ (stored_valid 48 t valid).1).0

    pub widening_short : length t ≤ limit
    widening_short = (stored_valid 48 t valid).0

    -- the room decides
    by_room : widening_answer t room ≡ cond (ltb (min room limit) (length (widened_table t))) 12 0
    unfolding widening_answer widening_grounds first
    by_room = first_append_none (stored_grounds 48 t) ((12, ltb (min room limit) (length (widened_table t))) ∷ []) refl valid

    pub widening_no_room : (ltb room (length (widened_table t)) || ltb limit (length (widened_table t))) ≡ true → widening_answer t room ≡ 12
    widening_no_room short = by_room ∙ rw (sym (below_either room (length (widened_table t))) ∙ short)

    module _ (long : (ltb room (length (widened_table t)) || ltb limit (length (widened_table t))) ≡ false) where
      enough : ltb (min room limit) (length (widened_table t)) ≡ false
      enough = sym (below_either room (length (widened_table t))) ∙ long

      pub widening_room : length (widened_table t) ≤ room
      widening_room = omega (arith, ltb-false (min room limit) (length (widened_table t)) enough)

      pub widening_accepted : widening_answer t room ≡ 0
      widening_accepted = by_room ∙ rw enough

-- a refusal leaves the buffer; else the table is put to its front
module _ (t b : List ℕ) where
  pub refused : (n : ℕ) → n ≡ widening_answer t (length b) → (n ≡ 0 → ⊥) → widening t (length b) ≡ record { answer = n; length = 0 }
  unfolding widening
  refused n is some = rw (← is, ne_eqb n 0 some)

  pub refused_written : (n : ℕ) → n ≡ widening_answer t (length b) → (n ≡ 0 → ⊥) → widening_written t b ≡ b
  unfolding widening_written
  refused_written n is some = rw (← is, ne_eqb n 0 some)

  pub made : (n : ℕ) → 0 ≡ widening_answer t (length b) → n ≡ length (widened_table t) → widening t (length b) ≡ record { answer = 0; length = n }
  unfolding widening
  made n is long = rw (← is, long)

  pub made_written : 0 ≡ widening_answer t (length b) → widening_written t b ≡ put 0 (widened_table t) b
  unfolding widening_written
  made_written is = rw (← is)

-- what the answers on the length and on the converter rest on
pub ruleset judged = (widening_invalid, refusal_number_some, widening_whole, widening_short, widening_no_room, widening_room, widening_accepted)

pub ruleset converted = (refused, refused_written, made, made_written, refusal_number_some)
