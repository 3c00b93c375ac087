-- The record at the front of a whole table, and the table after it.
use Rattle.std.specs.Prelude.{ℕ, ◌≤◌, ◌<◌, true, List, [], ◌∷◌, ◌≡◌, length, take, drop}
use Rattle.std.proofs.Common.{sym, ◌∙◌, arith}
use Rattle.std.proofs.Math.Nat.{zero-add}
use Rattle.model.specs.Layouts.{kind_of, length_of}
use Rattle.model.specs.Mappings.{Held}
use Rattle.model.specs.Tables.{records, whole}
use Rattle.laws.specs.Mappings.{record_length_kind, held_record_length}
use Rattle.laws.specs.Tables.{Next, whole_starts, whole_rest, held_of_next, next_of_length, records_drop_end}
use Rattle.model.specs.Mappings.{record_length}

module _ (t : List ℕ) (w : whole t ≡ true) (some : 0 < length t) where
  starts : 0 < record_length t
  starts = whole_starts t w some

  pub held_front : Held t
  held_front = held_record_length t starts

  module _ (n : ℕ) (is : n ≡ length_of (kind_of t)) where
    next : Next t 0 n
    next =
        let long : record_length t ≡ n = record_length_kind t starts ∙ sym is in
        next_of_length t 0 n long (omega (arith, starts))

    pub front_within : n ≤ length t
    front_within = omega (arith, next.within)

    pub held_record : Held (take n t)
    held_record = held_of_next next held_front is

    pub whole_after : whole (drop n t) ≡ true
    whole_after = simp zero-add at (whole_rest w next)

    pub records_front : records t ≡ take n t ∷ records (drop n t)
    records_front = simp zero-add at next.split

pub records_empty : (t : List ℕ) → length t ≡ 0 → records t ≡ []
records_empty t none = records_drop_end t 0 (omega arith)

-- what the answers of the iterator rest on
pub ruleset fronts = (held_front, front_within, held_record, whole_after, records_front, records_empty)
