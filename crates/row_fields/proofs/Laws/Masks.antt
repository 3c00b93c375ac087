-- A row of a known kind is good where it has no bit in common with the masks of its kind and span.
use Rattle.std.specs.Prelude.{ℕ, ◌+◌, ◌-◌, ◌*◌, ◌/◌, ◌%◌, ◌^◌, ◌≤◌, ◌<◌, Bool, List, ◌≡◌, leb, get_or}
use Rattle.std.proofs.Math.Bool.{true, false, cond, not, ◌&&◌, and-true, and-false, and_comm}
use Rattle.std.proofs.Math.Path.{refl, ap, ap₂}
use Rattle.std.proofs.Common.{sym, ◌∙◌, mod-eq_of_lt, arith}
use borrow.Author.Tests.{ltb-true, lt-ltb, le-leb, not-true}
use Rattle.std.specs.Int.Bits.{bit_and}
use Rattle.std.proofs.lemmas.Nat.{and_mask}
use Rattle.std.proofs.Math.Dec.{eqb, ltb, lit<}
use Rattle.model.specs.Bits.{number, page_width}
use Rattle.model.specs.Layouts.{mapping_kind}
use Rattle.model.specs.Mappings.{guest_physical, linear, wide, global_marked, span_in_range, pages}
use Rattle.laws.specs.Layouts.{of_mapping_kind, mapping_kind_ge}
use Rattle.laws.specs.Mappings.{span_in_range_le, span_in_range_above}
use Rattle.valid_records.proofs.Laws.Ranges.{high_bits_none, ltb_suc, ranges_off, ranges_on}
use Rattle.valid_records.proofs.Laws.Masks.{none_in_parts, none_in_high, page_none, number_below}
use Rattle.row_fields.specs.Rows.{Column, column, named}
use Rattle.row_fields.specs.Masks.{global_bound, vpid_bound, pcid_bound, frame_mask, first_mask, page_mask, ep4ta_mask, first_mask_at, page_mask_at, ep4ta_mask_at}
use Rattle.row_fields.proofs.Laws.Rows.{fits_bounds, rest_good}

-- ---- a number against its mask: the bound is the lower of two, of the field's bytes in a record and of its range

lower_first : (a b : Bool) → (a ≡ true → b ≡ true) → a ≡ (a && b)
lower_first true b implies = sym (implies refl)
lower_first false b implies = refl

lower_second : (a b : Bool) → (b ≡ true → a ≡ true) → b ≡ (a && b)
lower_second true b implies = refl
lower_second false true implies = sym (implies refl)
lower_second false false implies = refl

global_none : (has : Bool) (x : ℕ) → x < 2 ^ 8 → eqb (bit_and x (2 ^ 8 - cond has 2 1)) 0 ≡ (ltb x (cond has 256 1) && leb x 1)
global_none true x small = high_bits_none x 7 1 small ∙ ltb_suc x 1 ∙ lower_second (ltb x 256) (leb x 1) (λ low. lt-ltb x 256 small)
global_none false x small = high_bits_none x 8 0 small ∙ lower_first (ltb x 1) (leb x 1) (λ low. le-leb x 1 (omega (arith, ltb-true x 1 low)))

vpid_none : (lacks : Bool) (x : ℕ) → x < 2 ^ 16 → eqb (bit_and x (2 ^ 16 - cond lacks 1 65536)) 0 ≡ ltb x (cond lacks 1 65536)
vpid_none true x small = high_bits_none x 16 0 small
vpid_none false x small = high_bits_none x 0 16 small

pcid_none : (lacks : Bool) (x : ℕ) → x < 2 ^ 16 → eqb (bit_and x (2 ^ 16 - cond lacks 1 4096)) 0 ≡ (ltb x (cond lacks 1 65536) && leb x 4095)
pcid_none true x small = high_bits_none x 16 0 small ∙ lower_first (ltb x 1) (leb x 4095) (λ low. le-leb x 4095 (omega (arith, ltb-true x 1 low)))
pcid_none false x small = high_bits_none x 4 12 small ∙ ltb_suc x 4095 ∙ lower_second (ltb x 65536) (leb x 4095) (λ low. lt-ltb x 65536 small)

page_bits_none : (six : Bool) (x s : ℕ) → x < 2 ^ 64 → s ≤ 4
    → eqb (bit_and x ((pages s - 1) + (2 ^ 64 - cond six (2 ^ 45) (2 ^ 36)))) 0
    ≡ (ltb x (cond six 281474976710656 1099511627776) && ltb x (2 ^ (cond six 57 48 - page_width)) && eqb (x % pages s) 0)
page_bits_none true x s small few =
    page_none x (9 * s) 19 45 small (omega arith)
    ∙ ap (λ b. b && eqb (x % pages s) 0)
    (lower_second (ltb x 281474976710656) (ltb x (2 ^ 45)) (λ low. lt-ltb x 281474976710656 (omega (arith, ltb-true x (2 ^ 45) low))))
page_bits_none false x s small few =
    page_none x (9 * s) 28 36 small (omega arith)
    ∙ ap (λ b. b && eqb (x % pages s) 0)
    (lower_second (ltb x 1099511627776) (ltb x (2 ^ 36)) (λ low. lt-ltb x 1099511627776 (omega (arith, ltb-true x (2 ^ 36) low))))

ep4ta_none : (lacks : Bool) (x : ℕ) → x < 2 ^ 64 → eqb (bit_and x (2 ^ 64 - cond lacks 1 (2 ^ 40))) 0 ≡ ltb x (cond lacks 1 1099511627776)
ep4ta_none true x small = high_bits_none x 64 0 small
ep4ta_none false x small = high_bits_none x 24 40 small

zero_none : (x : ℕ) → x < 2 ^ 8 → eqb (bit_and x 0xFF) 0 ≡ eqb x 0
zero_none x small = ap (λ (x : ℕ). eqb x 0) (and_mask x 8 ∙ mod-eq_of_lt small)

-- ---- the tests in the order of the columns, and in that of the definitions
in_columns : (z v p g w f e p' g' w' m : Bool)
    → ((p && p' && v && z && (g && g')) && (w && w' && m) && f && e)
    ≡ (z && (v && p && g && true && w && f && e) && (g' && p' && (w' && m)))
in_columns true true true true true true true p' g' w' m = simp and-true (ap (λ b. b && (w' && m)) (and_comm p' g'))
in_columns false v p g w f e p' g' w' m = rw and-false
in_columns true false p g w f e p' g' w' m = rw and-false
in_columns true true false g w f e p' g' w' m = refl
in_columns true true true false w f e p' g' w' m = rw and-false
in_columns true true true true false f e p' g' w' m = rw and-false
in_columns true true true true true false e p' g' w' m = rw and-false
in_columns true true true true true true false p' g' w' m = rw and-false

-- ---- a row

-- it has no bit of the masks: of its first eight bytes, of its page, its frame and its EP4TA
abbrev pub unmasked : List ℕ → ℕ → ℕ → ℕ → Bool
unmasked r first page ep4ta =
    eqb (bit_and (number 8 0 r) first) 0
    && eqb (bit_and (number 8 8 r) page) 0
    && eqb (bit_and (number 8 16 r) frame_mask) 0
    && eqb (bit_and (number 8 24 r) ep4ta) 0

module _ (r : List ℕ) (bytes : (i : ℕ) → get_or r i 0 < 256) where
  first_none : (g v p : ℕ) → g < 2 ^ 8 → v < 2 ^ 16
      → eqb (bit_and (number 8 0 r) (g * 2 ^ 16 + 0xFF * 2 ^ 24 + v * 2 ^ 32 + p * 2 ^ 48)) 0
      ≡ (eqb (bit_and (number 2 6 r) p) 0 && eqb (bit_and (number 2 4 r) v) 0 && eqb (bit_and (number 1 3 r) 0xFF) 0 && eqb (bit_and (number 1 2 r) g) 0)
  first_none g v p of_g of_v =
      let row : number 8 0 r ≡ (((number 2 6 r * 2 ^ 16 + number 2 4 r) * 2 ^ 8 + number 1 3 r) * 2 ^ 8 + number 1 2 r) * 2 ^ 16 + number 2 0 r = omega arith in
      let mask : g * 2 ^ 16 + 0xFF * 2 ^ 24 + v * 2 ^ 32 + p * 2 ^ 48 ≡ (((p * 2 ^ 16 + v) * 2 ^ 8 + 0xFF) * 2 ^ 8 + g) * 2 ^ 16 + 0 = omega arith in
      ap₂ (λ (x y : ℕ). eqb (bit_and x y) 0) row mask
      ∙ none_in_high 16 _ _ (number 2 0 r) (number_below r bytes 2 0)
      ∙ none_in_parts 8 _ _ (number 1 2 r) g (number_below r bytes 1 2) of_g
      ∙ ap (λ b. b && eqb (bit_and (number 1 2 r) g) 0)
      (none_in_parts 8 _ _ (number 1 3 r) 0xFF (number_below r bytes 1 3) (lit< tt)
      ∙ ap (λ b. b && eqb (bit_and (number 1 3 r) 0xFF) 0) (none_in_parts 16 _ _ (number 2 4 r) v (number_below r bytes 2 4) of_v))

  module _ (known : mapping_kind (column Column.kind r) ≡ true) where
    abbrev k : ℕ
    k = column Column.kind r

    abbrev s : ℕ
    s = column Column.span r

    -- the kind byte is not 0
    kind_some : eqb (bit_and (number 8 0 r) 0xFF) 0 ≡ false
    unfolding column
    kind_some =
        let first : number 8 0 r % 2 ^ 8 ≡ number 1 0 r = omega (arith, bytes 0) in
        ap (λ (x : ℕ). eqb x 0) (and_mask (number 8 0 r) 8 ∙ first) ∙ not-true _ (of_mapping_kind (λ k. not (eqb k 0)) refl (number 1 0 r) known)

    -- the columns that are looked at
    module _ (on : span_in_range k s ≡ true) where
      few : s ≤ 4
      few = span_in_range_le k s on

      first_on : eqb (bit_and (number 8 0 r) (first_mask k s)) 0
          ≡ ((ltb (column Column.pcid r) (cond (guest_physical k) 1 65536) && leb (column Column.pcid r) 4095)
          && ltb (column Column.vpid r) (cond (guest_physical k) 1 65536)
          && eqb (column Column.zero_byte r) 0
          && (ltb (column Column.global r) (cond (global_marked k) 256 1) && leb (column Column.global r) 1))
      unfolding first_mask column
      first_on =
          rw on
          (first_none (2 ^ 8 - global_bound k) (2 ^ 16 - vpid_bound k) (2 ^ 16 - pcid_bound k) (global_mask_below (global_marked k)) (vpid_mask_below (guest_physical k))
          ∙ ap₂ ◌&&◌
          (ap₂ ◌&&◌
          (ap₂ ◌&&◌
          (pcid_none (guest_physical k) (number 2 6 r) (number_below r bytes 2 6))
          (vpid_none (guest_physical k) (number 2 4 r) (number_below r bytes 2 4)))
          (zero_none (number 1 3 r) (number_below r bytes 1 3)))
          (global_none (global_marked k) (number 1 2 r) (number_below r bytes 1 2)))
        where
          global_mask_below : (has : Bool) → 2 ^ 8 - cond has 2 1 < 2 ^ 8
          global_mask_below true = lit< tt
          global_mask_below false = lit< tt

          vpid_mask_below : (lacks : Bool) → 2 ^ 16 - cond lacks 1 65536 < 2 ^ 16
          vpid_mask_below true = lit< tt
          vpid_mask_below false = lit< tt

      page_on : eqb (bit_and (number 8 8 r) (page_mask k s)) 0
          ≡ (ltb (column Column.page r) (cond (wide k) 281474976710656 1099511627776) && ltb (column Column.page r) (2 ^ (cond (wide k) 57 48 - page_width)) && eqb (column Column.page r % pages s) 0)
      unfolding page_mask column
      page_on = rw on (page_bits_none (wide k) (number 8 8 r) s (number_below r bytes 8 8) few)

      frame_on : eqb (bit_and (number 8 16 r) frame_mask) 0 ≡ ltb (column Column.frame r) 1099511627776
      unfolding column
      frame_on = high_bits_none (number 8 16 r) 24 40 (number_below r bytes 8 16)

      ep4ta_on : eqb (bit_and (number 8 24 r) (ep4ta_mask k s)) 0 ≡ ltb (column Column.ep4ta r) (cond (linear k) 1 1099511627776)
      unfolding ep4ta_mask column
      ep4ta_on = rw on (ep4ta_none (linear k) (number 8 24 r) (number_below r bytes 8 24))

      masks_on : unmasked r (first_mask k s) (page_mask k s) (ep4ta_mask k s) ≡ rest_good r
      unfolding named
      masks_on =
          let span_fits : ltb s 256 ≡ true = lt-ltb s 256 (omega (arith, few)) in
          ap₂ ◌&&◌ (ap₂ ◌&&◌ (ap₂ ◌&&◌ first_on page_on) frame_on) ep4ta_on
          ∙ in_columns
          (eqb (column Column.zero_byte r) 0)
          (ltb (column Column.vpid r) (cond (guest_physical k) 1 65536))
          (ltb (column Column.pcid r) (cond (guest_physical k) 1 65536))
          (ltb (column Column.global r) (cond (global_marked k) 256 1))
          (ltb (column Column.page r) (cond (wide k) 281474976710656 1099511627776))
          (ltb (column Column.frame r) 1099511627776)
          (ltb (column Column.ep4ta r) (cond (linear k) 1 1099511627776))
          (leb (column Column.pcid r) 4095)
          (leb (column Column.global r) 1)
          (ltb (column Column.page r) (2 ^ (cond (wide k) 57 48 - page_width)))
          (eqb (column Column.page r % pages s) 0)
          ∙ ap₂ (λ a b. eqb (column Column.zero_byte r) 0 && a && b) (sym (rw span_fits at (fits_bounds (named r) known))) (ranges_on (named r) on)

    masks_off : span_in_range k s ≡ false
        → unmasked r (first_mask k s) (page_mask k s) (ep4ta_mask k s) ≡ rest_good r
    unfolding first_mask named
    masks_off off = rw (off, kind_some, ranges_off (named r) off, and-false)

    -- at the place of its kind and span in the row of masks
    pub masks_of_row : (kind span : ℕ) → kind ≡ k → span ≡ s → span ≤ 4
        → unmasked r (first_mask_at (5 * kind + span - 5)) (page_mask_at (5 * kind + span - 5)) (ep4ta_mask_at (5 * kind + span - 5)) ≡ rest_good r
    masks_of_row kind span is_kind is_span few =
        let some = mapping_kind_ge k known in
        let of_kind : 1 + (5 * kind + span - 5) / 5 ≡ k = omega (arith, is_kind, some) in
        let of_span : (5 * kind + span - 5) % 5 ≡ s = omega (arith, is_kind, is_span, some) in
        rw (of_kind, of_span) (go (span_in_range k s) refl)
      where
        go : (b : Bool) → span_in_range k s ≡ b
            → unmasked r (first_mask k s) (page_mask k s) (ep4ta_mask k s) ≡ rest_good r
        go true on = masks_on on
        go false off = masks_off off

-- a row with a span above 4, which no kind has, is bad
pub far_span : (r : List ℕ) → 4 < column Column.span r → rest_good r ≡ false
unfolding named
far_span r far = rw (ranges_off (named r) (span_in_range_above (column Column.kind r) (column Column.span r) far), and-false)
