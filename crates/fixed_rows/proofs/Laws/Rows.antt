-- Rows cut out of bytes, one after the other.
use Rattle.std.specs.Prelude.{ℕ, suc, ◌+◌, ◌/◌, ◌≤◌, ◌<◌, Bool, true, false, cond, List, [], ◌∷◌, ◌++◌, ◌≡◌, refl, length}
use Rattle.std.proofs.Common.{sym, ap, ◌∙◌, arith, length-append, take_at}
use Rattle.std.proofs.lemmas.List.{drop_at}
use Rattle.model.specs.Layouts.{length_of}
use Rattle.model.specs.Tables.{joined}
use Rattle.laws.specs.Lists.{Every, none, more}
use Rattle.laws.specs.Layouts.{length_of_positive, length_of_mapping_le}
use Rattle.row_fields.specs.Rows.{Column, column, named, good_row, named_length}
use Rattle.row_fields.proofs.Laws.Records.{length_record_of}
use Rattle.row_fields.proofs.Laws.Rows.{good_parts, length_good, length_bad}
use Rattle.fixed_rows.specs.FixedRows.{rows_within, rows_in, first_bad_from, first_bad, record_named, imported, Fitting, Named}

-- how long the record of a row is
pub length_record_named : (r : List ℕ) → length (record_named r) ≡ length_of (column Column.kind r)
unfolding named
length_record_named r = length_record_of (named r)

-- the first row, and those behind it
pub rows_first : (b r behind : List ℕ) → b ≡ r ++ behind → length r ≡ 32 → rows_in b ≡ r ∷ rows_in behind
unfolding rows_in rows_within
rows_first b r behind cut long =
    let some : length b / 32 ≡ suc (length behind / 32) = omega (arith, ap length cut, length-append r behind, long) in
    rw some (rw (cut, take_at r behind 32 long, drop_at r behind 32 long))

pub rows_none : (b : List ℕ) → length b < 32 → rows_in b ≡ []
unfolding rows_in rows_within
rows_none b short = let zero_rows : length b / 32 ≡ 0 = omega arith in rw zero_rows

-- the table that rows make: the record of the first row, and the rest
pub imported_first : (b r behind : List ℕ) → b ≡ r ++ behind → length r ≡ 32 → imported b ≡ record_named r ++ imported behind
unfolding imported joined
imported_first b r behind cut long = rw (rows_first b r behind cut long)

pub imported_none : (b : List ℕ) → length b < 32 → imported b ≡ []
unfolding imported joined
imported_none b short = rw (rows_none b short)

-- the length that a row is said to name is not 0 exactly if the row is good
module _ (width : ℕ) (r : List ℕ) where
  pub named_some : (named_length width r ≡ 0 → ⊥) → good_row width r ≡ true
  named_some some = go (good_row width r) refl
    where
      go : (b : Bool) → good_row width r ≡ b → b ≡ true
      go true is = refl
      go false is = absurd (some (length_bad width r is))

  pub named_none : named_length width r ≡ 0 → good_row width r ≡ false
  named_none not_one = go (good_row width r) refl
    where
      go : (b : Bool) → good_row width r ≡ b → b ≡ false
      go true is = absurd (omega (arith, not_one, length_good width r is, length_of_positive (column Column.kind r)))
      go false is = refl

  pub length_named : good_row width r ≡ true → named_length width r ≡ length (record_named r)
  length_named is = length_good width r is ∙ sym (length_record_named r)

  pub length_named_le : good_row width r ≡ true → named_length width r ≤ 32
  length_named_le is =
      omega (arith, length_good width r is, length_of_mapping_le (column Column.kind r) (good_parts width r is).known)

-- no bad row: all are good
every_good : (width n : ℕ) (rs : List (List ℕ)) → 0 < n → first_bad_from width n rs ≡ 0 → Every (λ r. good_row width r ≡ true) rs
unfolding first_bad_from
every_good width n [] some clean = none
every_good width n (r ∷ rs) some clean = go (good_row width r) refl clean (λ k. every_good width (n + 1) rs (omega arith) k)
  where
    go : (b : Bool) → good_row width r ≡ b → cond b (first_bad_from width (n + 1) rs) n ≡ 0
        → (first_bad_from width (n + 1) rs ≡ 0 → Every (λ r. good_row width r ≡ true) rs)
        → Every (λ r. good_row width r ≡ true) (r ∷ rs)
    go true is h ih = more is (ih h)
    go false is h ih = absurd (omega arith)

pub all_good : (width : ℕ) (b : List ℕ) → first_bad width b ≡ 0 → Every (λ r. good_row width r ≡ true) (rows_in b)
unfolding first_bad
all_good width b clean = every_good width 1 (rows_in b) (omega arith) clean

pub named_of_good : (width : ℕ) (b : List ℕ) → first_bad width b ≡ 0 → Named b
named_of_good width b clean = record { each = go (all_good width b clean) }
  where
    go : {rs : List (List ℕ)} → Every (λ r. good_row width r ≡ true) rs → Every Fitting rs
    go none = none
    go (more {x} h hs) = let g = good_parts width x h in more (record { known = g.known; small = g.small }) (go hs)
