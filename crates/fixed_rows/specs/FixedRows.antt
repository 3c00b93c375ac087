-- Document 02, Ask 11: "Export any valid table, one row for each record in the table's order, and import rows back in
-- theirs." Ask 12: "Row calls are told the width; any but 48 or 57 is answer 1, before all else, with row 0."
use Rattle.std.specs.Prelude.{ℕ, zero, suc, min, ◌+◌, ◌/◌, ◌%◌, Bool, cond, not, ◌&&◌, true, List, [], ◌∷◌, ◌++◌, map, Result, Ok, Err, ◌≡◌, eqb, ltb, length, take, drop}
use Rattle.model.specs.Buffers.{put}
use Rattle.model.specs.Context.{linear_width_in_range}
use Rattle.model.specs.Layouts.{mapping_kind}
use Rattle.model.specs.Tables.{limit, joined, records}
use Rattle.model.specs.Answers.{first, stored_grounds}
use Rattle.laws.specs.Lists.{Every}
use Rattle.row_fields.specs.Rows.{row_of, named, record_of, good_row, Column, column, fits}
use Rattle.model.specs.Refusals.{refusal_number}
use Rattle.fixed_rows.specs.declared.Converted.{Converted}
use Rattle.fixed_rows.specs.declared.Unconverted.{Unconverted}
use Rattle.fixed_rows.specs.declared.Unconverted.TheVariants.{Refused, BadRows}

-- a length, or why nothing is converted, as it is reported
abbrev pub converted : Result ℕ Unconverted → Converted
converted (Ok n) = record { answer = 0; row = 0; length = n }
converted (Err (Refused refusal)) = record { answer = refusal_number refusal; row = 0; length = 0 }
converted (Err (BadRows row)) = record { answer = 4; row = row; length = 0 }

-- ---- export

-- the rows of a table
unfoldable pub exported : List ℕ → List ℕ
exported t = joined (map row_of (records t))

-- "Export refuses with answer 2 or 3, then 12 for room."
unfoldable pub export_grounds : ℕ → List ℕ → ℕ → List (ℕ × Bool)
export_grounds width t room =
    (1, not (linear_width_in_range width)) ∷ (stored_grounds width t ++ ((12, ltb room (length (exported t))) ∷ []))

unfoldable pub export_answer : ℕ → List ℕ → ℕ → ℕ
export_answer width t room = first (export_grounds width t room)

-- what is reported: the answer, no row, and how long the rows are, 0 with a refusal
unfoldable pub exporting : ℕ → List ℕ → ℕ → Converted
exporting width t room =
    record {
      answer = export_answer width t room;
      row = 0;
      length = cond (eqb (export_answer width t room) 0) (length (exported t)) 0;
    }

-- the buffer after it: "A refusal writes nothing; bytes past the result stay"
unfoldable pub exporting_written : ℕ → List ℕ → List ℕ → List ℕ
exporting_written width t buffer = cond (eqb (export_answer width t (length buffer)) 0) (put 0 (exported t) buffer) buffer

-- ---- import

-- so many rows of 32 bytes at the front of some bytes
unfoldable pub rows_within : ℕ → List ℕ → List (List ℕ)
rows_within zero b = []
rows_within (suc n) b = take 32 b ∷ rows_within n (drop 32 b)

-- the rows at the front of some bytes, as many as there are
unfoldable pub rows_in : List ℕ → List (List ℕ)
rows_in b = rows_within (length b / 32) b

-- the number of the first bad row, where the first row of the list has the number n; 0 where all are good
unfoldable pub first_bad_from : ℕ → ℕ → List (List ℕ) → ℕ
first_bad_from width n [] = 0
first_bad_from width n (r ∷ rs) = cond (good_row width r) (first_bad_from width (n + 1) rs) n

-- "the number of the first bad row, from 1"
unfoldable pub first_bad : ℕ → List ℕ → ℕ
first_bad width b = first_bad_from width 1 (rows_in b)

-- the record that a row names
abbrev pub record_named : List ℕ → List ℕ
record_named r = record_of (named r)

-- the table of the records that the rows name
unfoldable pub imported : List ℕ → List ℕ
imported b = joined (map record_named (rows_in b))

-- "Import refuses as answer 4 first a length that isn't a multiple of 32, then a row that names no valid record or has a
-- set unused byte, [..]; last, as 12 with row 0, a table longer than the buffer or 45,056 bytes" (47,104 by Ask 12)
unfoldable pub import_grounds : ℕ → List ℕ → ℕ → List (ℕ × Bool)
import_grounds width b room =
    (1, not (linear_width_in_range width))
    ∷ (4, not (eqb (length b % 32) 0))
    ∷ (4, not (eqb (first_bad width b) 0))
    ∷ (12, ltb (min room limit) (length (imported b)))
    ∷ []

unfoldable pub import_answer : ℕ → List ℕ → ℕ → ℕ
import_answer width b room = first (import_grounds width b room)

-- what is reported: the answer; with 4 "the number of the first bad row, from 1 (0 for a bad length)", else 0; and how
-- long the table is, 0 with a refusal
unfoldable pub importing : ℕ → List ℕ → ℕ → Converted
importing width b room =
    record {
      answer = import_answer width b room;
      row = cond (eqb (import_answer width b room) 4 && eqb (length b % 32) 0) (first_bad width b) 0;
      length = cond (eqb (import_answer width b room) 0) (length (imported b)) 0;
    }

unfoldable pub importing_written : ℕ → List ℕ → List ℕ → List ℕ
importing_written width b buffer = cond (eqb (import_answer width b (length buffer)) 0) (put 0 (imported b) buffer) buffer

-- a row has the kind of a mapping, and numbers that fit in its record; and each row has
pub record Fitting (r : List ℕ) : Type 0 where
  pub known : mapping_kind (column Column.kind r) ≡ true
  pub small : fits (named r) ≡ true

pub record Named (b : List ℕ) : Type 0 where
  pub each : Every Fitting (rows_in b)
