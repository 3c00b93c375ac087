-- The record of a mapping: its kind and length, its pieces, and that it says the mapping, whose numbers fit.
use Rattle.std.specs.Prelude.{ℕ, ◌^◌, ◌<◌, true, cond, ◌≡◌, leb, length}
use Rattle.std.proofs.Math.Bool.{and-eq-true_iff}
use Rattle.std.proofs.lemmas.Bool.{false≢true}
use mathlib.Core.List.{List, [], ◌∷◌, ◌++◌, append-nil}
use Rattle.std.proofs.Math.Path.{refl, ap}
use Rattle.std.proofs.Math.Nat.{mod-eq_of_lt}
use Rattle.std.proofs.Common.{arith, length-append}
use borrow.Author.Tests.{eqb-true, leb-true, ltb-true, le-leb}
use Rattle.std.proofs.Math.Dec.{eqb}
use Rattle.std.proofs.Math.ListN.{get_or}
use Rattle.model.specs.declared.Mapping.{Mapping}
use Rattle.model.specs.Bits.{bytes}
use Rattle.model.specs.Layouts.{Field, Body, field_number, mapping_bodies, known_in, kind_of, mapping_kind, body_of, length_of, width_in, field}
use Rattle.model.specs.Mappings.{mapping, guest_physical, linear, combined, structure_cache, wide, global_marked, fields_in_range, starts_record}
use Rattle.laws.specs.Lists.{Every, none, more}
use Rattle.laws.specs.Layouts.{row_cases, of_mapping_kind, mapping_kind_le}
use Rattle.laws.specs.Buffers.{length_bytes}
use Rattle.row_fields.specs.Fields.{written}
use Rattle.row_fields.specs.Rows.{value, record_of, fits_field, fits}
use Rattle.row_fields.specs.Pieces.{tags_at, places_at, last_at, tags_of, places_of, last_of}
use Rattle.row_fields.proofs.Laws.Fields.{total_body, start_body, size_body, length_written, read_written}

-- what holds of the kind of each row of a table holds of each kind that has a row
of_rows : (P : ℕ → Type 0) (rows : List (ℕ × Body)) → Every (λ row. P row.0) rows → (k : ℕ) → known_in rows k ≡ true → P k
of_rows P [] none k = λ known. absurd (false≢true known)
of_rows P (row ∷ rows) (more here others) k = row_cases P row.0 k true (known_in rows k) here (of_rows P rows others k)

-- the pieces of a body, kind by kind
body_pieces : (k : ℕ) → mapping_kind k ≡ true → (m : Mapping) → written (value m) (body_of k) ≡ tags_at k m ++ (places_at k m ++ last_at k m)
unfolding mapping_kind body_of bytes written tags_at places_at last_at guest_physical linear combined structure_cache wide global_marked
body_pieces =
    of_rows (λ k. (m : Mapping) → written (value m) (body_of k) ≡ tags_at k m ++ (places_at k m ++ last_at k m)) mapping_bodies
    (more (λ m. refl) (more (λ m. refl) (more (λ m. refl) (more (λ m. refl) (more (λ m. refl)
    (more (λ m. refl) (more (λ m. refl) (more (λ m. refl) (more (λ m. refl) (more (λ m. refl) none))))))))))

pub length_record_of : (m : Mapping) → length (record_of m) ≡ length_of m.kind
unfolding record_of length_of
length_record_of m =
    let b = body_of m.kind in
    omega (arith, length-append (bytes 1 m.kind) (written (value m) b), length_bytes 1 m.kind, length_written (value m) b, total_body b)

module _ (m : Mapping) (known : mapping_kind m.kind ≡ true) where
  pub record_pieces : record_of m ≡ bytes 1 m.kind ++ (tags_of m ++ (places_of m ++ last_of m))
  unfolding record_of
  record_pieces = ap (λ (xs : List ℕ). bytes 1 m.kind ++ xs) (body_pieces m.kind known m)

  pub kind_of_record : kind_of (record_of m) ≡ m.kind
  unfolding record_of kind_of bytes
  kind_of_record = mod-eq_of_lt (omega (arith, mapping_kind_le m.kind known))

  field_of_record : (f : Field) → fits_field m f ≡ true → field f (record_of m) ≡ value m f
  unfolding field record_of bytes
  field_of_record f small =
      let b = body_of m.kind in
      let below = ltb-true (value m f) (256 ^ width_in b f) small in
      let read = read_written field_number (λ n. get_or (m.vpid ∷ m.pcid ∷ m.global ∷ m.span ∷ m.page ∷ m.frame ∷ m.ep4ta ∷ []) n 0) f [] b (bytes 1 m.kind) (rw (size_body b f) below) in
      rw kind_of_record (rw (size_body b f, start_body b f, append-nil) at read)

  module _ (small : fits m ≡ true) where
    -- its numbers, one by one
    pub record Each : Type 0 where
      pub vpid : fits_field m Field.vpid ≡ true
      pub pcid : fits_field m Field.pcid ≡ true
      pub global : fits_field m Field.global ≡ true
      pub span : fits_field m Field.span ≡ true
      pub page : fits_field m Field.page ≡ true
      pub frame : fits_field m Field.frame ≡ true
      pub ep4ta : fits_field m Field.ep4ta ≡ true

    pub each : Each
    unfolding fits
    each =
        let six = (and-eq-true_iff _ _).0 small in
        let five = (and-eq-true_iff _ _).0 six.0 in
        let four = (and-eq-true_iff _ _).0 five.0 in
        let three = (and-eq-true_iff _ _).0 four.0 in
        let two = (and-eq-true_iff _ _).0 three.0 in
        let one = (and-eq-true_iff _ _).0 two.0 in
        record { vpid = one.0; pcid = one.1; global = two.1; span = three.1; page = four.1; frame = five.1; ep4ta = six.1 }

    pub mapping_of_record : mapping (record_of m) ≡ m
    unfolding mapping
    mapping_of_record =
        λ i. record {
          kind = kind_of_record i;
          vpid = field_of_record Field.vpid each.vpid i;
          pcid = field_of_record Field.pcid each.pcid i;
          global = field_of_record Field.global each.global i;
          span = field_of_record Field.span each.span i;
          page = field_of_record Field.page each.page i;
          frame = field_of_record Field.frame each.frame i;
          ep4ta = field_of_record Field.ep4ta each.ep4ta i;
        }

    -- so it is valid where its numbers are in their ranges
    pub record_starts : starts_record (record_of m) ≡ fields_in_range m
    unfolding starts_record
    record_starts =
        rw (kind_of_record, known, le-leb (length_of m.kind) (length (record_of m)) (omega (arith, length_record_of m)), mapping_of_record)

-- a number that fits in its field is below any number that the field's bytes do not reach
pub below : (m : Mapping) (f : Field) (most : ℕ) → fits_field m f ≡ true → leb (256 ^ width_in (body_of m.kind) f) most ≡ true → value m f < most
below m f most small wide =
    omega (arith, ltb-true (value m f) (256 ^ width_in (body_of m.kind) f) small, leb-true (256 ^ width_in (body_of m.kind) f) most wide)

-- ---- the bounds of the fields, by kind

module _ (k : ℕ) (known : mapping_kind k ≡ true) where
  pub bound_vpid : 256 ^ width_in (body_of k) Field.vpid ≡ cond (guest_physical k) 1 65536
  unfolding body_of guest_physical
  bound_vpid = eqb-true _ _ (of_mapping_kind (λ k. eqb (256 ^ width_in (body_of k) Field.vpid) (cond (guest_physical k) 1 65536)) refl k known)

  pub bound_pcid : 256 ^ width_in (body_of k) Field.pcid ≡ cond (guest_physical k) 1 65536
  unfolding body_of guest_physical
  bound_pcid = eqb-true _ _ (of_mapping_kind (λ k. eqb (256 ^ width_in (body_of k) Field.pcid) (cond (guest_physical k) 1 65536)) refl k known)

  pub bound_global : 256 ^ width_in (body_of k) Field.global ≡ cond (global_marked k) 256 1
  unfolding body_of linear combined structure_cache global_marked
  bound_global = eqb-true _ _ (of_mapping_kind (λ k. eqb (256 ^ width_in (body_of k) Field.global) (cond (global_marked k) 256 1)) refl k known)

  pub bound_span : 256 ^ width_in (body_of k) Field.span ≡ 256
  unfolding body_of
  bound_span = eqb-true _ _ (of_mapping_kind (λ k. eqb (256 ^ width_in (body_of k) Field.span) 256) refl k known)

  pub bound_page : 256 ^ width_in (body_of k) Field.page ≡ cond (wide k) 281474976710656 1099511627776
  unfolding body_of wide
  bound_page = eqb-true _ _ (of_mapping_kind (λ k. eqb (256 ^ width_in (body_of k) Field.page) (cond (wide k) 281474976710656 1099511627776)) refl k known)

  pub bound_frame : 256 ^ width_in (body_of k) Field.frame ≡ 1099511627776
  unfolding body_of
  bound_frame = eqb-true _ _ (of_mapping_kind (λ k. eqb (256 ^ width_in (body_of k) Field.frame) 1099511627776) refl k known)

  pub bound_ep4ta : 256 ^ width_in (body_of k) Field.ep4ta ≡ cond (linear k) 1 1099511627776
  unfolding body_of linear
  bound_ep4ta = eqb-true _ _ (of_mapping_kind (λ k. eqb (256 ^ width_in (body_of k) Field.ep4ta) (cond (linear k) 1 1099511627776)) refl k known)
