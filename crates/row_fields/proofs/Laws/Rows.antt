-- Good rows: which tests say that a row is good, and what it is then.
use Rattle.std.specs.Prelude.{ℕ, Bool, false, cond, not, ◌&&◌, List, ◌≡◌, refl, eqb, ltb, length}
use Rattle.std.proofs.Math.Bool.{true, and-false, and-eq-true_iff}
use Rattle.std.proofs.Math.Path.{sym}
use Rattle.std.proofs.Common.{ap, ◌∙◌}
use borrow.Author.Tests.{eqb-true}
use Rattle.model.specs.declared.Mapping.{Mapping}
use Rattle.model.specs.Layouts.{mapping_kind, length_of}
use Rattle.model.specs.Mappings.{guest_physical, linear, wide, global_marked, other_width, fields_in_range, starts_record}
use Rattle.laws.specs.Mappings.{Valid, valid_made}
use Rattle.laws.specs.Answers.{OfWidth}
use Rattle.row_fields.specs.Rows.{Column, columns, cell, row, column, named, record_of, fits, good_row, named_length}
use Rattle.row_fields.proofs.Laws.Fields.{length_written}
use Rattle.row_fields.proofs.Laws.Records.{length_record_of, kind_of_record, record_starts, bound_vpid, bound_pcid, bound_global, bound_span, bound_page, bound_frame, bound_ep4ta}

-- the numbers fit, by bounds of the kind
pub fits_bounds : (m : Mapping) → mapping_kind m.kind ≡ true
    → fits m
    ≡ (ltb m.vpid (cond (guest_physical m.kind) 1 65536)
    && ltb m.pcid (cond (guest_physical m.kind) 1 65536)
    && ltb m.global (cond (global_marked m.kind) 256 1)
    && ltb m.span 256
    && ltb m.page (cond (wide m.kind) 281474976710656 1099511627776)
    && ltb m.frame 1099511627776
    && ltb m.ep4ta (cond (linear m.kind) 1 1099511627776))
unfolding fits
fits_bounds m known =
    let k = m.kind in
    rw (bound_vpid k known, bound_pcid k known, bound_global k known, bound_span k known, bound_page k known, bound_frame k known, bound_ep4ta k known)

-- what is asked of a row besides its kind: the zero byte, the numbers' sizes and their ranges
abbrev pub rest_good : List ℕ → Bool
rest_good r = eqb (column Column.zero_byte r) 0 && fits (named r) && fields_in_range (named r)

module _ (width : ℕ) (r : List ℕ) where
  -- a kind that is unknown or of the other width
  pub bad_kind : (mapping_kind (column Column.kind r) && not (other_width width (column Column.kind r))) ≡ false → good_row width r ≡ false
  unfolding good_row
  bad_kind off = rw off

  -- a kind of the width: the rest decides
  pub good_by_ranges : (mapping_kind (column Column.kind r) && not (other_width width (column Column.kind r))) ≡ true
      → good_row width r ≡ rest_good r
  unfolding good_row named
  good_by_ranges own = rw own (go (fits (named r)) refl)
    where
      known : mapping_kind (column Column.kind r) ≡ true
      known = ((and-eq-true_iff _ _).0 own).0

      go : (b : Bool) → fits (named r) ≡ b
          → (eqb (column Column.zero_byte r) 0 && b && starts_record (record_of (named r))) ≡ (eqb (column Column.zero_byte r) 0 && b && fields_in_range (named r))
      go true small = rw (record_starts (named r) known small)
      go false small = rw and-false

  pub length_good : good_row width r ≡ true → named_length width r ≡ length_of (column Column.kind r)
  unfolding named_length
  length_good is = rw is

  pub length_bad : good_row width r ≡ false → named_length width r ≡ 0
  unfolding named_length
  length_bad is = rw is

  -- what a good row is
  pub record Good : Type 0 where
    pub known : mapping_kind (column Column.kind r) ≡ true
    pub own : not (other_width width (column Column.kind r)) ≡ true
    pub unused : column Column.zero_byte r ≡ 0
    pub small : fits (named r) ≡ true
    pub starts : starts_record (record_of (named r)) ≡ true

  pub good_parts : good_row width r ≡ true → Good
  unfolding good_row
  good_parts is =
      let four = (and-eq-true_iff _ _).0 is in
      let three = (and-eq-true_iff _ _).0 four.0 in
      let two = (and-eq-true_iff _ _).0 three.0 in
      let one = (and-eq-true_iff _ _).0 two.0 in
      record { known = one.0; own = one.1; unused = eqb-true _ _ two.1; small = three.1; starts = four.1 }

  -- it names a valid record of the width
  pub record_valid : Good → Valid (record_of (named r))
  unfolding named
  record_valid g =
      valid_made (record_of (named r)) g.starts (length_record_of (named r) ∙ sym (ap length_of (kind_of_record (named r) g.known)))

  pub record_own : Good → OfWidth width (record_of (named r))
  unfolding named
  record_own g = rw (kind_of_record (named r) g.known) g.own

-- a row has 32 bytes
pub length_row : (m : Mapping) → length (row m) ≡ 32
unfolding row
length_row m = length_written (cell m) columns
