-- What the two calls are worth: document 02, Ask 11, at both linear widths. "When both calls are accepted, export then
-- import gives the same bytes, and so does import then export."
use Rattle.std.specs.Prelude.{ℕ, ◌*◌, ◌≤◌, true, List, ◌≡◌, length, take}
use Rattle.model.specs.Tables.{records}
use Rattle.laws.specs.Lists.{Bytes}
use Rattle.laws.specs.Mappings.{Valid}
use Rattle.laws.specs.Answers.{OfWidth}
use Rattle.row_fields.specs.Rows.{row_of, good_row}
use Rattle.fixed_rows.specs.FixedRows.{record_named, exporting, exporting_written, importing, importing_written}

-- the rows that export leaves at the front of a buffer, as long as it reports, and the table that import leaves
abbrev pub rows_left : ℕ → List ℕ → List ℕ → List ℕ
rows_left width t buffer = take (exporting width t (length buffer)).length (exporting_written width t buffer)

abbrev pub table_left : ℕ → List ℕ → List ℕ → List ℕ
table_left width rows buffer = take (importing width rows (length buffer)).length (importing_written width rows buffer)

-- of a table of bytes that is exported into a buffer
pub record Exports (width : ℕ) (t buffer : List ℕ) : Type 0 where
  -- a row of 32 bytes for each record
  pub count : length (rows_left width t buffer) ≡ 32 * length (records t)
  -- the rows are imported, with room for the table; and where they are, at whatever width, they make the table that was
  -- exported
  pub accepted : (new : List ℕ) → length t ≤ length new → (importing width (rows_left width t buffer) (length new)).answer ≡ 0
  pub same : (other : ℕ) (new : List ℕ) → (importing other (rows_left width t buffer) (length new)).answer ≡ 0
      → table_left other (rows_left width t buffer) new ≡ t

-- of rows of bytes that are imported into a buffer
pub record Imports (width : ℕ) (rows buffer : List ℕ) : Type 0 where
  -- a record for each row
  pub count : length rows ≡ 32 * length (records (table_left width rows buffer))
  -- the table is exported, with room for the rows; and where it is, at whatever width, it has the rows that were imported
  pub accepted : (new : List ℕ) → length rows ≤ length new → (exporting width (table_left width rows buffer) (length new)).answer ≡ 0
  pub same : (other : ℕ) (new : List ℕ) → (exporting other (table_left width rows buffer) (length new)).answer ≡ 0
      → rows_left other (table_left width rows buffer) new ≡ rows

-- a good row is the row of a valid record of the width, the one that it names
pub record OfRecord (width : ℕ) (r : List ℕ) : Type 0 where
  pub same : row_of (record_named r) ≡ r
  pub valid : Valid (record_named r)
  pub own : OfWidth width (record_named r)

pub record RoundTrips : Type 0 where
  pub out_and_in : (width : ℕ) (t buffer : List ℕ) → Bytes t → (exporting width t (length buffer)).answer ≡ 0 → Exports width t buffer
  pub in_and_out : (width : ℕ) (rows buffer : List ℕ) → Bytes rows → (importing width rows (length buffer)).answer ≡ 0 → Imports width rows buffer
  -- the good rows are exactly the rows of valid records of the width
  pub good : (width : ℕ) (r : List ℕ) → Bytes r → length r ≡ 32 → good_row width r ≡ true → OfRecord width r
  pub exact : (width : ℕ) (r : List ℕ) → Bytes r → Valid r → OfWidth width r → good_row width (row_of r) ≡ true
