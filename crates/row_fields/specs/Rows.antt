-- Document 02, Ask 11: "The trace viewer reads 32-byte rows: kind 1, span 1, global 1, zero 1, VPID 2, PCID 2, page 8, frame
-- or structure 8, EP4TA 8, little-endian, unused fields zero." One row and one record.
use Rattle.std.specs.Prelude.{ℕ, ◌^◌, Bool, cond, not, ◌&&◌, List, [], ◌∷◌, ◌++◌, eqb, ltb, get_or}
use Rattle.model.specs.declared.Mapping.{Mapping}
use Rattle.model.specs.Bits.{number, bytes}
use Rattle.model.specs.Layouts.{Field, field_number, width_in, mapping_kind, body_of, length_of}
use Rattle.model.specs.Mappings.{mapping, other_width, starts_record}
use Rattle.row_fields.specs.Fields.{start, size, written}

pub data Column : Type 0 where
  kind span global zero_byte vpid pcid page frame ep4ta : Column

-- columns are told apart by their number in that list
abbrev pub column_number : Column → ℕ
column_number kind = 0
column_number span = 1
column_number global = 2
column_number zero_byte = 3
column_number vpid = 4
column_number pcid = 5
column_number page = 6
column_number frame = 7
column_number ep4ta = 8

-- the columns of a row, in order, with bytes
abbrev pub columns : List (Column × ℕ)
columns =
    (kind, 1) ∷ (span, 1) ∷ (global, 1) ∷ (zero_byte, 1) ∷ (vpid, 2) ∷ (pcid, 2) ∷ (page, 8) ∷ (frame, 8) ∷ (ep4ta, 8) ∷ []

-- what a mapping has in a column. A field that its kind lacks is 0 in it, and so is the zero byte: "unused fields zero"
abbrev pub cell : Mapping → Column → ℕ
cell m c =
    get_or
    (m.kind ∷ m.span ∷ m.global ∷ 0 ∷ m.vpid ∷ m.pcid ∷ m.page ∷ m.frame ∷ m.ep4ta ∷ [])
    (column_number c)
    0

-- the row of a mapping
unfoldable pub row : Mapping → List ℕ
row m = written (cell m) columns

-- the row of a record
abbrev pub row_of : List ℕ → List ℕ
row_of r = row (mapping r)

-- what a row has in a column
unfoldable pub column : Column → List ℕ → ℕ
column c r = number (size column_number columns c) (start column_number columns c) r

-- the mapping that a row names
unfoldable pub named : List ℕ → Mapping
named r =
    record {
      kind = column kind r;
      vpid = column vpid r;
      pcid = column pcid r;
      global = column global r;
      span = column span r;
      page = column page r;
      frame = column frame r;
      ep4ta = column ep4ta r;
    }

-- a field of a mapping, in the order of `Field`; what is a field of other events alone is 0
abbrev pub value : Mapping → Field → ℕ
value m f = get_or (m.vpid ∷ m.pcid ∷ m.global ∷ m.span ∷ m.page ∷ m.frame ∷ m.ep4ta ∷ []) (field_number f) 0

-- the record of a mapping: its kind, and the body that its kind has
unfoldable pub record_of : Mapping → List ℕ
record_of m = bytes 1 m.kind ++ written (value m) (body_of m.kind)

-- a field of the mapping is no larger than its bytes in a record of the kind. A field that the kind lacks has none
-- there, and so must be 0: a "set unused byte"
abbrev pub fits_field : Mapping → Field → Bool
fits_field m f = ltb (value m f) (256 ^ width_in (body_of m.kind) f)

unfoldable pub fits : Mapping → Bool
fits m =
    fits_field m Field.vpid
    && fits_field m Field.pcid
    && fits_field m Field.global
    && fits_field m Field.span
    && fits_field m Field.page
    && fits_field m Field.frame
    && fits_field m Field.ep4ta

-- Import refuses "a row that names no valid record or has a set unused byte". A good row has a kind of the linear width,
-- zero where the row has no field, numbers that the fields of its kind hold, and names a valid record.
unfoldable pub good_row : ℕ → List ℕ → Bool
good_row width r =
    mapping_kind (column kind r)
    && not (other_width width (column kind r))
    && eqb (column zero_byte r) 0
    && fits (named r)
    && starts_record (record_of (named r))

-- how long the record is that a row names; 0 where the row is bad
unfoldable pub named_length : ℕ → List ℕ → ℕ
named_length width r = cond (good_row width r) (length_of (column kind r)) 0
