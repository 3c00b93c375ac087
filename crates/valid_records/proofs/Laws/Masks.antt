-- The fields of a held record are in their ranges where it has no bit in common with the mask of its kind and span.
use Prim.Native.Nat.{ℕ, zero, suc, ◌+◌, ◌-◌, ◌*◌, ◌/◌, ◌%◌, ◌^◌, ◌≤◌, ◌<◌}
use Rattle.std.specs.Prelude.{Bool, true, false, cond, ◌&&◌, List, ◌≡◌, ltb, get_or}
use Rattle.std.proofs.Math.Bool.{not, and-true, and_comm}
use Rattle.std.proofs.Math.Path.{refl, ap}
use Rattle.std.proofs.Common.{sym, ap₂, subst, ◌∙◌, zero-mul, zero-add, suc-mul, add_comm, mod-lt, mod-eq_of_lt, lt_of_lt_of_le, pow-suc, arith, lit<, pow_pos, pow_mono, shr_lt}
use borrow.Author.Tests.{eqb-true, ne_eqb, not-true}
use Rattle.std.specs.Int.Bits.{bit_and, and_zero_r}
use Rattle.std.proofs.lemmas.Nat.{and_block, and_mask}
use Rattle.std.proofs.Math.Dec.{eqb}
use Rattle.std.proofs.Math.Pow.{split, ones_lt, high_ones, mod-mod-pow}
use Rattle.model.specs.Bits.{number, page_width}
use Rattle.model.specs.Layouts.{Field, kind_of, body_of}
use Rattle.model.specs.Mappings.{mapping, Held, guest_physical, wide, global_marked, span_in_range, page_in_range, pages, fields_in_range}
use Rattle.laws.specs.Layouts.{of_mapping_kind, mapping_kind_ge, mapping_kind_le}
use Rattle.laws.specs.Mappings.{held_length, span_in_range_above, span_in_range_le}
use Rattle.kinds.specs.Places.{place_of}
use Rattle.mappings.proofs.Laws.Places.{span_at_held}
use Rattle.valid_records.specs.Masks.{global_mask, pcid_mask, page_mask, mask, mask_at}
use Rattle.valid_records.proofs.Laws.Ranges.{quotient_none, pcid_and_mark_bits, ranges_off, ranges_on}

-- ---- numbers with no bit in common

sum_none : (x y m : ℕ) → 0 < m → eqb (x * m + y) 0 ≡ (eqb x 0 && eqb y 0)
sum_none zero y m some = ap (λ (x : ℕ). eqb (x + y) 0) (zero-mul m) ∙ ap (λ (x : ℕ). eqb x 0) (zero-add y)
sum_none (suc x) y m some =
    ne_eqb (suc x * m + y) 0 (λ none. absurd (omega (arith, suc-mul x m, some, none)))
    ∙ sym (ap (λ b. b && eqb y 0) (ne_eqb (suc x) 0 (λ none. absurd (omega (arith, none)))))

-- where two numbers are put together of two parts each, the parts have none
pub none_in_parts : (k a b r s : ℕ) → r < 2 ^ k → s < 2 ^ k
    → eqb (bit_and (a * 2 ^ k + r) (b * 2 ^ k + s)) 0 ≡ (eqb (bit_and a b) 0 && eqb (bit_and r s) 0)
none_in_parts k a b r s low low' =
    ap (λ (x : ℕ). eqb x 0) (and_block k a b r s low low') ∙ sum_none (bit_and a b) (bit_and r s) (2 ^ k) (pow_pos k)

-- a part that is masked by 0 does not count
pub none_in_high : (k a b r : ℕ) → r < 2 ^ k → eqb (bit_and (a * 2 ^ k + r) (b * 2 ^ k + 0)) 0 ≡ eqb (bit_and a b) 0
none_in_high k a b r low =
    none_in_parts k a b r 0 low (pow_pos k)
    ∙ ap (λ (x : ℕ). eqb (bit_and a b) 0 && eqb x 0) (and_zero_r r)
    ∙ and-true (eqb (bit_and a b) 0)

none_in_low : (k a r s : ℕ) → r < 2 ^ k → s < 2 ^ k → eqb (bit_and (a * 2 ^ k + r) (0 * 2 ^ k + s)) 0 ≡ eqb (bit_and r s) 0
none_in_low k a r s low low' =
    none_in_parts k a 0 r s low low' ∙ ap (λ (x : ℕ). eqb x 0 && eqb (bit_and r s) 0) (and_zero_r a)

-- ---- a page

-- its low bits and its high bits are 0 where it is a multiple, and below a power
pub page_none : (x n j k : ℕ) → x < 2 ^ (j + k) → n ≤ k → eqb (bit_and x ((2 ^ n - 1) + (2 ^ (j + k) - 2 ^ k))) 0 ≡ (ltb x (2 ^ k) && eqb (x % 2 ^ n) 0)
page_none x n j k within few =
    ap₂ (λ (x y : ℕ). eqb (bit_and x y) 0) (sym (split x k)) (add_comm (2 ^ n - 1) (2 ^ (j + k) - 2 ^ k) ∙ ap (λ (y : ℕ). y + (2 ^ n - 1)) (high_ones j k))
    ∙ none_in_parts k (x / 2 ^ k) (2 ^ j - 1) (x % 2 ^ k) (2 ^ n - 1) (mod-lt x (pow_pos k)) (lt_of_lt_of_le (ones_lt n) (pow_mono few))
    ∙ ap₂ ◌&&◌
    (ap (λ (x : ℕ). eqb x 0) (and_mask (x / 2 ^ k) j ∙ mod-eq_of_lt (shr_lt j k within)) ∙ quotient_none x (2 ^ k) (pow_pos k))
    (ap (λ (x : ℕ). eqb x 0) (and_mask (x % 2 ^ k) n ∙ twice))
  where
    twice : x % 2 ^ k % 2 ^ n ≡ x % 2 ^ n
    twice = subst (λ (k : ℕ). x % 2 ^ k % 2 ^ n ≡ x % 2 ^ n) (omega arith) (mod-mod-pow x (k - n) n)

-- of five bytes or six
page_masked : (six : Bool) (x s : ℕ) → x < 256 ^ cond six 6 5 → s ≤ 4
    → eqb (bit_and x ((pages s - 1) + cond six (2 ^ 48 - 2 ^ 45) (2 ^ 40 - 2 ^ 36))) 0 ≡ (ltb x (2 ^ (cond six 57 48 - page_width)) && eqb (x % pages s) 0)
page_masked true x s within few = page_none x (9 * s) 3 45 within (omega arith)
page_masked false x s within few = page_none x (9 * s) 4 36 within (omega arith)

-- ---- the masks fit their fields

page_mask_below : (six : Bool) (s : ℕ) → s ≤ 4 → (pages s - 1) + cond six (2 ^ 48 - 2 ^ 45) (2 ^ 40 - 2 ^ 36) < 2 ^ (8 * cond six 6 5)
page_mask_below true s few = let most : pages s ≤ 2 ^ 36 = pow_mono {i = 9 * s} {j = 36} (omega arith) in omega (arith, most)
page_mask_below false s few = let most : pages s ≤ 2 ^ 36 = pow_mono {i = 9 * s} {j = 36} (omega arith) in omega (arith, most, pow_pos (9 * s))

global_mask_below : (marked : Bool) → cond marked 0xFE 0 < 2 ^ 8
global_mask_below true = lit< tt
global_mask_below false = lit< tt

pcid_mask_below : (lacks : Bool) → cond lacks 0 0xF000 < 2 ^ 16
pcid_mask_below true = lit< tt
pcid_mask_below false = lit< tt

-- ---- a record

-- the global mark, the PCID and the page, each against its mask; what stands before them, between and behind, against 0
fields_none : (front pcid global gap page rest g c m j k x y : ℕ) → front < 2 ^ 24 → pcid < 2 ^ 16 → global < 2 ^ 8 → gap < 2 ^ j → page < 2 ^ k → g < 2 ^ 8 → c < 2 ^ 16 → m < 2 ^ k
    → x ≡ ((((rest * 2 ^ k + page) * 2 ^ j + gap) * 2 ^ 8 + global) * 2 ^ 16 + pcid) * 2 ^ 24 + front
    → y ≡ ((((0 * 2 ^ k + m) * 2 ^ j + 0) * 2 ^ 8 + g) * 2 ^ 16 + c) * 2 ^ 24 + 0
    → eqb (bit_and x y) 0 ≡ (eqb (bit_and global g) 0 && eqb (bit_and pcid c) 0 && eqb (bit_and page m) 0)
fields_none front pcid global gap page rest g c m j k x y of_front of_pcid of_global of_gap of_page of_g of_c of_m is_x is_y =
    ap₂ (λ (x y : ℕ). eqb (bit_and x y) 0) is_x is_y
    ∙ none_in_high 24 _ _ front of_front
    ∙ none_in_parts 16 _ _ pcid c of_pcid of_c
    ∙ ap (λ b. b && eqb (bit_and pcid c) 0)
    (none_in_parts 8 _ _ global g of_global of_g
    ∙ ap (λ b. b && eqb (bit_and global g) 0) (none_in_high j _ _ gap of_gap ∙ none_in_low k rest page m of_page of_m))
    ∙ last_first (eqb (bit_and page m) 0) (eqb (bit_and global g) 0) (eqb (bit_and pcid c) 0)
  where
    last_first : (a b c : Bool) → (a && b && c) ≡ (b && c && a)
    last_first true b c = sym (and-true (b && c))
    last_first false b c = sym (and_comm (b && c) false)

module _ (r : List ℕ) (bytes : (i : ℕ) → get_or r i 0 < 256) where
  pub number_below : (n at : ℕ) → number n at r < 256 ^ n
  number_below zero at = lit< tt
  number_below (suc zero) at = bytes at
  number_below (suc (suc n)) at = omega (arith, bytes at, number_below (suc n) (at + 1), pow-suc 256 (suc n))

  -- by where the span stands and how many bytes the page has
  shape : (late six : Bool) (g c m : ℕ) → g < 2 ^ 8 → c < 2 ^ 16 → m < 2 ^ (8 * cond six 6 5)
      → eqb (bit_and (number 16 0 r) (g * 2 ^ 40 + c * 2 ^ 24 + m * 2 ^ (8 * (cond late 6 5 + 1)))) 0
      ≡ (eqb (bit_and (number 1 5 r) g) 0 && eqb (bit_and (number 2 3 r) c) 0 && eqb (bit_and (number (cond six 6 5) (cond late 6 5 + 1) r) m) 0)
  shape true true g c m of_g of_c of_m =
      fields_none (number 3 0 r) (number 2 3 r) (number 1 5 r) (number 1 6 r) (number 6 7 r) (number 3 13 r) g c m 8 48 (number 16 0 r) (g * 2 ^ 40 + c * 2 ^ 24 + m * 2 ^ 56)
      (number_below 3 0) (number_below 2 3) (number_below 1 5) (number_below 1 6) (number_below 6 7) of_g of_c of_m
      (omega arith) (omega arith)
  shape true false g c m of_g of_c of_m =
      fields_none (number 3 0 r) (number 2 3 r) (number 1 5 r) (number 1 6 r) (number 5 7 r) (number 4 12 r) g c m 8 40 (number 16 0 r) (g * 2 ^ 40 + c * 2 ^ 24 + m * 2 ^ 56)
      (number_below 3 0) (number_below 2 3) (number_below 1 5) (number_below 1 6) (number_below 5 7) of_g of_c of_m
      (omega arith) (omega arith)
  shape false true g c m of_g of_c of_m =
      fields_none (number 3 0 r) (number 2 3 r) (number 1 5 r) (number 0 6 r) (number 6 6 r) (number 4 12 r) g c m 0 48 (number 16 0 r) (g * 2 ^ 40 + c * 2 ^ 24 + m * 2 ^ 48)
      (number_below 3 0) (number_below 2 3) (number_below 1 5) (number_below 0 6) (number_below 6 6) of_g of_c of_m
      (omega arith) (omega arith)
  shape false false g c m of_g of_c of_m =
      fields_none (number 3 0 r) (number 2 3 r) (number 1 5 r) (number 0 6 r) (number 5 6 r) (number 5 11 r) g c m 0 40 (number 16 0 r) (g * 2 ^ 40 + c * 2 ^ 24 + m * 2 ^ 48)
      (number_below 3 0) (number_below 2 3) (number_below 1 5) (number_below 0 6) (number_below 5 6) of_g of_c of_m
      (omega arith) (omega arith)

  -- the two halves of the sixteen bytes, against those of a mask
  halves : (m : ℕ) → eqb (bit_and (number 16 0 r) m) 0 ≡ (eqb (bit_and (number 8 0 r) (m % 2 ^ 64)) 0 && eqb (bit_and (number 8 8 r) (m / 2 ^ 64)) 0)
  halves m =
      let parts : number 16 0 r ≡ number 8 8 r * 2 ^ 64 + number 8 0 r = omega arith in
      ap₂ (λ (x y : ℕ). eqb (bit_and x y) 0) parts (sym (split m 64))
      ∙ none_in_parts 64 (number 8 8 r) (m / 2 ^ 64) (number 8 0 r) (m % 2 ^ 64) (number_below 8 0) (mod-lt m (pow_pos 64))
      ∙ and_comm (eqb (bit_and (number 8 8 r) (m / 2 ^ 64)) 0) (eqb (bit_and (number 8 0 r) (m % 2 ^ 64)) 0)

  module _ (held : Held r) where
    late : Bool
    late = eqb (place_of Field.span (mapping r).kind) 6

    place_told : place_of Field.span (mapping r).kind ≡ cond late 6 5
    unfolding mapping place_of body_of late
    place_told = eqb-true _ _ (of_mapping_kind (λ k. eqb (place_of Field.span k) (cond (eqb (place_of Field.span k) 6) 6 5)) refl (kind_of r) held.known)

    page_told : number (cond (wide (mapping r).kind) 6 5) (place_of Field.span (mapping r).kind + 1) r ≡ (mapping r).page
    unfolding mapping
    page_told = (span_at_held r held).page

    -- the kind byte is not 0
    kind_some : eqb (bit_and (number 16 0 r) 0xFF) 0 ≡ false
    unfolding kind_of
    kind_some =
        let first : number 16 0 r % 2 ^ 8 ≡ kind_of r = omega (arith, bytes 0) in
        ap (λ (x : ℕ). eqb x 0) (and_mask (number 16 0 r) 8 ∙ first) ∙ not-true _ (of_mapping_kind (λ k. not (eqb k 0)) refl (kind_of r) held.known)

    mask_of_record : eqb (bit_and (number 16 0 r) (mask (mapping r).kind (mapping r).span)) 0 ≡ fields_in_range (mapping r)
    unfolding mask
    mask_of_record = go (span_in_range (mapping r).kind (mapping r).span) refl
      where
        k : ℕ
        k = (mapping r).kind

        s : ℕ
        s = (mapping r).span

        go : (b : Bool) → span_in_range k s ≡ b
            → eqb (bit_and (number 16 0 r) (cond b (global_mask k * 2 ^ 40 + pcid_mask k * 2 ^ 24 + page_mask k s * 2 ^ (8 * (place_of Field.span k + 1))) 0xFF)) 0
            ≡ fields_in_range (mapping r)
        go true on =
            let few : s ≤ 4 = span_in_range_le k s on in
            let page = number (cond (wide k) 6 5) (cond late 6 5 + 1) r in
            ap (λ (at : ℕ). eqb (bit_and (number 16 0 r) (global_mask k * 2 ^ 40 + pcid_mask k * 2 ^ 24 + page_mask k s * 2 ^ (8 * (at + 1)))) 0) place_told
            ∙ shape late (wide k) (global_mask k) (pcid_mask k) (page_mask k s) (global_mask_below (global_marked k)) (pcid_mask_below (guest_physical k)) (page_mask_below (wide k) s few)
            ∙ ap₂ ◌&&◌
            (pcid_and_mark_bits r held (number_below 1 5) (number_below 2 3))
            (page_masked (wide k) page s (number_below (cond (wide k) 6 5) (cond late 6 5 + 1)) few
            ∙ ap (λ (x : ℕ). page_in_range k s x) (ap (λ (at : ℕ). number (cond (wide k) 6 5) (at + 1) r) (sym place_told) ∙ page_told))
            ∙ ranges_on (mapping r) on
        go false off = kind_some ∙ sym (ranges_off (mapping r) off)

-- ---- the masks in one row

-- there are ten kinds of mappings, from 1 on
pub kind_of_held : (r : List ℕ) → Held r → (1 ≤ (mapping r).kind) × ((mapping r).kind ≤ 10)
unfolding mapping
kind_of_held r held = (mapping_kind_ge (kind_of r) held.known, mapping_kind_le (kind_of r) held.known)

mask_at_place : (k s : ℕ) → 1 ≤ k → s ≤ 4 → mask_at (5 * k + s - 5) ≡ mask k s
mask_at_place k s some few = ap₂ mask (omega arith) (omega arith)

-- the test of the two halves, at the place of the record's kind and span
pub masks_of_record : (r : List ℕ) → ((i : ℕ) → get_or r i 0 < 256) → Held r → (k s : ℕ) → k ≡ (mapping r).kind → s ≡ (mapping r).span → s ≤ 4
    → (eqb (bit_and (number 8 0 r) (mask_at (5 * k + s - 5) % 2 ^ 64)) 0 && eqb (bit_and (number 8 8 r) (mask_at (5 * k + s - 5) / 2 ^ 64)) 0)
    ≡ fields_in_range (mapping r)
masks_of_record r bytes held k s is_kind is_span few =
    sym (halves r bytes (mask_at (5 * k + s - 5)))
    ∙ ap (λ (m : ℕ). eqb (bit_and (number 16 0 r) m) 0) (mask_at_place k s (omega (arith, is_kind, (kind_of_held r held).0)) few ∙ ap₂ mask is_kind is_span)
    ∙ mask_of_record r bytes held

-- what the answers of the test of the ranges rest on
pub ruleset in_ranges = (kind_of_held, held_length, ranges_off, span_in_range_above)
