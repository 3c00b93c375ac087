-- Rows there and back: the row of a valid record is good and names that record, and a good row is the row of the record
-- that it names.
use Rattle.std.specs.Prelude.{ℕ, ◌+◌, ◌^◌, ◌<◌, true, ◌≡◌, length, take, drop}
use Rattle.std.proofs.lemmas.Bool.{false≢true}
use mathlib.Core.List.{List, [], ◌∷◌, append-nil}
use Rattle.std.proofs.Math.Path.{refl, sym, ap}
use Rattle.std.proofs.Common.{◌∙◌, zero-add, arith, take-add}
use borrow.Author.Tests.{lt-ltb}
use Rattle.std.proofs.Math.Dec.{ltb}
use Rattle.std.proofs.Math.ListN.{get_or}
use Rattle.std.proofs.Math.Seq.{take_all}
use Rattle.model.specs.declared.Mapping.{Mapping}
use Rattle.model.specs.Bits.{number, bytes}
use Rattle.model.specs.Layouts.{Field, field_number, mapping_kind, kind_of, body_of, length_of, width_in, offset_in, field}
use Rattle.model.specs.Mappings.{mapping}
use Rattle.laws.specs.Lists.{Bytes}
use Rattle.laws.specs.Layouts.{of_mapping_kind}
use Rattle.laws.specs.Mappings.{Valid, valid_starts, starts_parts, record_length_starts}
use Rattle.laws.specs.Answers.{OfWidth}
use Rattle.row_fields.specs.Fields.{total, start, size, written}
use Rattle.row_fields.specs.Rows.{Column, column_number, columns, cell, row, row_of, column, named, value, record_of, fits_field, fits, good_row}
use Rattle.row_fields.specs.Pieces.{Small}
use Rattle.row_fields.proofs.Laws.Fields.{total_body, start_body, size_body, read_written, number_below, bytes_number, in_order, written_read}
use Rattle.row_fields.proofs.Laws.Records.{mapping_of_record}
use Rattle.row_fields.proofs.Laws.Overlaps.{small_of_fits}
use Rattle.row_fields.proofs.Laws.Rows.{good_parts}

-- ---- a row, named and written again
module _ (r : List ℕ) (b : Bytes r) (unused : column Column.zero_byte r ≡ 0) where
  cell_of_named : (c : Column) → cell (named r) c ≡ number (size column_number columns c) (0 + start column_number columns c) r
  unfolding named column
  cell_of_named Column.kind = refl
  cell_of_named Column.span = refl
  cell_of_named Column.global = refl
  cell_of_named Column.zero_byte = sym unused
  cell_of_named Column.vpid = refl
  cell_of_named Column.pcid = refl
  cell_of_named Column.page = refl
  cell_of_named Column.frame = refl
  cell_of_named Column.ep4ta = refl

  pub row_of_named : length r ≡ 32 → row (named r) ≡ r
  unfolding row
  row_of_named long =
      written_read column_number (λ c. true) columns (cell (named r)) 0 r b (λ c ok. cell_of_named c) columns 0 refl (omega (arith, long))
      ∙ take_all 32 r (omega (arith, long))

-- ---- a mapping whose numbers fit, as a row, and named again
module _ (m : Mapping) (known : mapping_kind m.kind ≡ true) (small : fits m ≡ true) where
  sizes : Small m
  sizes = small_of_fits m known small

  cell_small : (c : Column) → cell m c < 256 ^ size column_number columns c
  cell_small Column.kind = sizes.kind
  cell_small Column.span = sizes.span
  cell_small Column.global = sizes.global
  cell_small Column.zero_byte = omega arith
  cell_small Column.vpid = sizes.vpid
  cell_small Column.pcid = sizes.pcid
  cell_small Column.page = omega (arith, sizes.page)
  cell_small Column.frame = omega (arith, sizes.frame)
  cell_small Column.ep4ta = omega (arith, sizes.ep4ta)

  pub column_of_row : (c : Column) → column c (row m) ≡ cell m c
  unfolding column row
  column_of_row c =
      rw (zero-add, append-nil) at
      (read_written column_number (λ n. get_or (m.kind ∷ m.span ∷ m.global ∷ 0 ∷ m.vpid ∷ m.pcid ∷ m.page ∷ m.frame ∷ m.ep4ta ∷ []) n 0) c [] columns [] (cell_small c))

  pub named_of_row : named (row m) ≡ m
  unfolding named
  named_of_row =
      λ i. record {
        kind = column_of_row Column.kind i;
        vpid = column_of_row Column.vpid i;
        pcid = column_of_row Column.pcid i;
        global = column_of_row Column.global i;
        span = column_of_row Column.span i;
        page = column_of_row Column.page i;
        frame = column_of_row Column.frame i;
        ep4ta = column_of_row Column.ep4ta i;
      }

-- ---- a valid record, read and written again

-- the fields of mappings are the first seven
value_of_field : (r : List ℕ) (f : Field) → ltb (field_number f) 7 ≡ true → value (mapping r) f ≡ field f r
unfolding mapping
value_of_field r Field.vpid ok = refl
value_of_field r Field.pcid ok = refl
value_of_field r Field.global ok = refl
value_of_field r Field.span ok = refl
value_of_field r Field.page ok = refl
value_of_field r Field.frame ok = refl
value_of_field r Field.ep4ta ok = refl
value_of_field r Field.type_number ok = absurd (false≢true ok)
value_of_field r Field.low ok = absurd (false≢true ok)
value_of_field r Field.high ok = absurd (false≢true ok)
value_of_field r Field.linear_address ok = absurd (false≢true ok)
value_of_field r Field.guest_physical_address ok = absurd (false≢true ok)
value_of_field r Field.linear_flag ok = absurd (false≢true ok)
value_of_field r Field.vpid_enable ok = absurd (false≢true ok)
value_of_field r Field.ept_enable ok = absurd (false≢true ok)
value_of_field r Field.eptp ok = absurd (false≢true ok)
value_of_field r Field.cpl ok = absurd (false≢true ok)

module _ (r : List ℕ) (b : Bytes r) where
  read_field : (f : Field) → ltb (field_number f) 7 ≡ true
      → value (mapping r) f ≡ number (size field_number (body_of (kind_of r)) f) (1 + start field_number (body_of (kind_of r)) f) r
  unfolding field
  read_field f ok = rw (size_body (body_of (kind_of r)) f, start_body (body_of (kind_of r)) f) (value_of_field r f ok)

  -- its numbers fit
  field_fits : (f : Field) → ltb (field_number f) 7 ≡ true → fits_field (mapping r) f ≡ true
  unfolding mapping field
  field_fits f ok =
      let b' = body_of (kind_of r) in
      let small : value (mapping r) f < 256 ^ width_in b' f =
      rw (value_of_field r f ok) (number_below b (width_in b' f) (1 + offset_in b' f)) in
      lt-ltb (value (mapping r) f) (256 ^ width_in b' f) small

  pub fits_of_bytes : fits (mapping r) ≡ true
  unfolding fits
  fits_of_bytes =
      rw (
        field_fits Field.vpid refl,
        field_fits Field.pcid refl,
        field_fits Field.global refl,
        field_fits Field.span refl,
        field_fits Field.page refl,
        field_fits Field.frame refl,
        field_fits Field.ep4ta refl,
      )

  module _ (valid : Valid r) where
    known : mapping_kind (kind_of r) ≡ true
    known = (starts_parts r (valid_starts r valid)).held.known

    long : length r ≡ 1 + total (body_of (kind_of r))
    unfolding length_of
    long = sym valid.exact ∙ record_length_starts r (valid_starts r valid) ∙ rw (total_body (body_of (kind_of r)))

    ordered : in_order field_number (λ f. ltb (field_number f) 7) (body_of (kind_of r)) (body_of (kind_of r)) 0 ≡ true
    unfolding body_of
    ordered = of_mapping_kind (λ k. in_order field_number (λ f. ltb (field_number f) 7) (body_of k) (body_of k) 0) refl (kind_of r) known

    body_again : written (value (mapping r)) (body_of (kind_of r)) ≡ take (total (body_of (kind_of r))) (drop 1 r)
    body_again =
        written_read field_number (λ f. ltb (field_number f) 7) (body_of (kind_of r)) (value (mapping r)) 1 r b read_field (body_of (kind_of r)) 0 ordered (omega (arith, long))

    kind_again : bytes 1 (kind_of r) ≡ take 1 r
    unfolding kind_of
    kind_again = bytes_number b 1 0 (omega (arith, long))

    pub record_of_mapping : record_of (mapping r) ≡ r
    unfolding record_of mapping
    record_of_mapping =
        rw (kind_again, body_again, ← (take-add 1 (total (body_of (kind_of r))) r)) (take_all (1 + total (body_of (kind_of r))) r (omega (arith, long)))

    -- its row names it, and is good at its width
    pub record_of_row : record_of (named (row_of r)) ≡ r
    unfolding mapping
    record_of_row = ap record_of (named_of_row (mapping r) known fits_of_bytes) ∙ record_of_mapping

    pub row_good : (w : ℕ) → OfWidth w r → good_row w (row_of r) ≡ true
    unfolding good_row mapping
    row_good w own =
        rw (
          named_of_row (mapping r) known fits_of_bytes,
          column_of_row (mapping r) known fits_of_bytes Column.kind,
          column_of_row (mapping r) known fits_of_bytes Column.zero_byte,
          known,
          own,
          fits_of_bytes,
          record_of_mapping,
          valid_starts r valid,
        )

-- ---- a good row is the row of the record that it names
pub row_of_record : (w : ℕ) (r : List ℕ) → Bytes r → length r ≡ 32 → good_row w r ≡ true → row_of (record_of (named r)) ≡ r
unfolding named
row_of_record w r b long good =
    let g = good_parts w r good in
    ap row (mapping_of_record (named r) g.known g.small) ∙ row_of_named r b g.unused long
