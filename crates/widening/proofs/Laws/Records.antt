-- What a rewritten record says: its new kind and page, and all else as it was; and that it is valid at 57 bits.
use Rattle.std.specs.Prelude.{ℕ, zero, suc, ◌+◌, ◌-◌, ◌*◌, ◌%◌, ◌^◌, ◌≤◌, ◌<◌, Bool, true, false, cond, ◌&&◌, ◌||◌, List, ◌++◌, ◌≡◌, refl, leb, take, drop, get_or}
use Rattle.std.proofs.Math.Bool.{and-eq-true_iff}
use Rattle.std.proofs.Common.{append_assoc, ap, ap₂, ◌∙◌, arith, length-drop, length-take-le, get_or-take, get_or-drop}
use borrow.Author.Tests.{eqb-true, leb-true}
use Rattle.std.proofs.Math.Dec.{eqb}
use Rattle.std.proofs.Math.ListN.{length, length-append, get_or-append}
use Rattle.std.proofs.Math.Seq.{get_or-append-add}
use Rattle.model.specs.declared.Mapping.{Mapping}
use Rattle.model.specs.Bits.{number, bytes}
use Rattle.model.specs.Layouts.{Field, mapping_bodies, kind_of, mapping_kind, body_of, width_in, offset_in, field}
use Rattle.model.specs.Mappings.{mapping, Held, linear, combined, wide, other_width}
use Rattle.laws.specs.Buffers.{length_bytes, number_bytes}
use Rattle.laws.specs.Layouts.{at_rows, of_mapping_kind, has_field, field_has}
use Rattle.widening.specs.Widening.{widened_kind, widened_page, page_place, rewritten}
use Rattle.widening.proofs.Laws.Loops.{page_within}
use Rattle.widening.proofs.Laws.Pages.{widened_page_below}

-- a number is read off the bytes where it stands
number_moved : (n at at' : ℕ) (r t : List ℕ) → ((i : ℕ) → i < n → get_or r (at + i) 0 ≡ get_or t (at' + i) 0) → number n at r ≡ number n at' t
number_moved zero at at' r t same = refl
number_moved (suc zero) at at' r t same =
    let here : at + 0 ≡ at = omega arith in
    let there : at' + 0 ≡ at' = omega arith in
    rw (here, there) at (same 0 (omega arith))
number_moved (suc (suc n)) at at' r t same =
    let here : at + 0 ≡ at = omega arith in
    let there : at' + 0 ≡ at' = omega arith in
    ap₂ (λ (x y : ℕ). x + 256 * y) (rw (here, there) at (same 0 (omega arith)))
    (number_moved (suc n) (at + 1) (at' + 1) r t (λ i small.
    let next : at + 1 + i ≡ at + suc i = omega arith in
    let next' : at' + 1 + i ≡ at' + suc i = omega arith in
    rw (next, next') (same (suc i) (omega arith))))

-- a test of the kinds of 48 bits, computed at each row
pub of_narrow_kind : (test : ℕ → Bool) → at_rows (λ k. cond (other_width 57 k) (test k) true) mapping_bodies ≡ true
    → (k : ℕ) → mapping_kind k ≡ true → other_width 57 k ≡ true → test k ≡ true
of_narrow_kind test all k known narrow = rw narrow at (of_mapping_kind (λ k. cond (other_width 57 k) (test k) true) all k known)

module _ (r : List ℕ) (held : Held r) (narrow : other_width 57 (kind_of r) ≡ true) where
  abbrev p : ℕ
  p = page_place (kind_of r)

  abbrev front : List ℕ
  front = take (p - 1) (drop 1 r)

  abbrev behind : List ℕ
  behind = drop (p + 5) r

  abbrev page : ℕ
  page = widened_page (field Field.page r)

  length_front : length front ≡ p - 1
  length_front = length-take-le (p - 1) (drop 1 r) (omega (arith, page_within r held, length-drop 1 r))

  -- a test of its kind, computed at each row
  of_kind : (test : ℕ → Bool) → at_rows (λ k. cond (other_width 57 k) (test k) true) mapping_bodies ≡ true → test (kind_of r) ≡ true
  of_kind test all = of_narrow_kind test all (kind_of r) held.known narrow

  -- its kind
  pub kind_of_rewritten : kind_of (rewritten r) ≡ widened_kind (kind_of r)
  unfolding rewritten kind_of bytes other_width linear combined wide
  kind_of_rewritten = eqb-true _ _ (of_kind (λ k. eqb (widened_kind k % 256) (widened_kind k)) refl)

  -- the bytes behind its kind, those before the page, and those behind it
  abbrev tail : List ℕ
  tail = front ++ (bytes 6 page ++ behind)

  byte_of_tail : (i : ℕ) → get_or (rewritten r) (1 + i) 0 ≡ get_or tail i 0
  unfolding rewritten bytes
  byte_of_tail i = get_or-append-add (bytes 1 (widened_kind (kind_of r))) tail i 0

  byte_before : (i : ℕ) → i < p - 1 → get_or (rewritten r) (1 + i) 0 ≡ get_or r (1 + i) 0
  byte_before i small =
      byte_of_tail i
      ∙ get_or-append front (bytes 6 page ++ behind) 0 i (omega (arith, length_front))
      ∙ get_or-take (p - 1) (drop 1 r) i 0 small
      ∙ get_or-drop 1 r i 0

  byte_behind : (n : ℕ) → get_or (rewritten r) (p + 6 + n) 0 ≡ get_or r (p + 5 + n) 0
  byte_behind n =
      let whole : p + 6 + n ≡ 1 + (length front + (length (bytes 6 page) + n)) = omega (arith, length_front, length_bytes 6 page) in
      ap (λ (i : ℕ). get_or (rewritten r) i 0) whole
      ∙ byte_of_tail (length front + (length (bytes 6 page) + n))
      ∙ get_or-append-add front (bytes 6 page ++ behind) (length (bytes 6 page) + n) 0
      ∙ get_or-append-add (bytes 6 page) behind n 0
      ∙ get_or-drop (p + 5) r n 0

  byte_from : (i : ℕ) → p + 5 ≤ i → get_or (rewritten r) (i + 1) 0 ≡ get_or r i 0
  byte_from i far =
      let here : i + 1 ≡ p + 6 + (i - (p + 5)) = omega arith in
      let there : p + 5 + (i - (p + 5)) ≡ i = omega arith in
      ap (λ (j : ℕ). get_or (rewritten r) j 0) here ∙ byte_behind (i - (p + 5)) ∙ ap (λ (j : ℕ). get_or r j 0) there

  -- the page
  pub page_of_rewritten : page < 256 ^ 6 → number 6 p (rewritten r) ≡ page
  unfolding rewritten
  page_of_rewritten small =
      let kind = bytes 1 (widened_kind (kind_of r)) in
      let place : p ≡ length (kind ++ front) =
      omega (arith, length-append kind front, length_bytes 1 (widened_kind (kind_of r)), length_front) in
      rw (← (append_assoc kind front (bytes 6 page ++ behind))) (number_bytes 5 page small (kind ++ front) behind p place)

  -- a field before the page, or one that the kind lacks
  abbrev before_page : Field → ℕ → Bool
  before_page f k =
      eqb (width_in (body_of (widened_kind k)) f) (width_in (body_of k) f)
      && (eqb (width_in (body_of k) f) 0
      || (eqb (offset_in (body_of (widened_kind k)) f) (offset_in (body_of k) f) && leb (1 + offset_in (body_of k) f + width_in (body_of k) f) (page_place k)))

  -- a field behind it, a byte further on
  abbrev behind_page : Field → ℕ → Bool
  behind_page f k =
      eqb (width_in (body_of (widened_kind k)) f) (width_in (body_of k) f)
      && (eqb (width_in (body_of k) f) 0
      || (eqb (offset_in (body_of (widened_kind k)) f) (offset_in (body_of k) f + 1) && leb (page_place k + 5) (1 + offset_in (body_of k) f)))

  -- a field whose bytes are read where they stand now
  field_moved : (f : Field) → width_in (body_of (widened_kind (kind_of r))) f ≡ width_in (body_of (kind_of r)) f
      → ((i : ℕ) → i < width_in (body_of (kind_of r)) f
      → get_or (rewritten r) (1 + offset_in (body_of (widened_kind (kind_of r))) f + i) 0 ≡ get_or r (1 + offset_in (body_of (kind_of r)) f + i) 0)
      → field f (rewritten r) ≡ field f r
  unfolding field
  field_moved f same bytes_same =
      rw (kind_of_rewritten, same)
      (number_moved (width_in (body_of (kind_of r)) f) (1 + offset_in (body_of (widened_kind (kind_of r))) f) (1 + offset_in (body_of (kind_of r)) f) (rewritten r) r bytes_same)

  pub field_before : (f : Field) → before_page f (kind_of r) ≡ true → field f (rewritten r) ≡ field f r
  field_before f holds =
      let k = kind_of r in
      let both = (and-eq-true_iff _ _).0 holds in
      let same = eqb-true (width_in (body_of (widened_kind k)) f) (width_in (body_of k) f) both.0 in
      field_moved f same (go (eqb (width_in (body_of k) f) 0) refl both.1)
    where
      go : (none : Bool) → eqb (width_in (body_of (kind_of r)) f) 0 ≡ none
          → (none || (eqb (offset_in (body_of (widened_kind (kind_of r))) f) (offset_in (body_of (kind_of r)) f) && leb (1 + offset_in (body_of (kind_of r)) f + width_in (body_of (kind_of r)) f) (page_place (kind_of r)))) ≡ true
          → (i : ℕ) → i < width_in (body_of (kind_of r)) f
          → get_or (rewritten r) (1 + offset_in (body_of (widened_kind (kind_of r))) f + i) 0 ≡ get_or r (1 + offset_in (body_of (kind_of r)) f + i) 0
      go true lacks h i small = absurd (omega (arith, eqb-true (width_in (body_of (kind_of r)) f) 0 lacks))
      go false has h i small =
          let o = offset_in (body_of (kind_of r)) f in
          let two = (and-eq-true_iff _ _).0 h in
          let there : 1 + o + i ≡ 1 + (o + i) = omega arith in
          let ends = leb-true (1 + o + width_in (body_of (kind_of r)) f) (page_place (kind_of r)) two.1 in
          rw (eqb-true _ o two.0, there) (byte_before (o + i) (omega arith))

  pub field_behind : (f : Field) → behind_page f (kind_of r) ≡ true → field f (rewritten r) ≡ field f r
  field_behind f holds =
      let k = kind_of r in
      let both = (and-eq-true_iff _ _).0 holds in
      let same = eqb-true (width_in (body_of (widened_kind k)) f) (width_in (body_of k) f) both.0 in
      field_moved f same (go (eqb (width_in (body_of k) f) 0) refl both.1)
    where
      go : (none : Bool) → eqb (width_in (body_of (kind_of r)) f) 0 ≡ none
          → (none || (eqb (offset_in (body_of (widened_kind (kind_of r))) f) (offset_in (body_of (kind_of r)) f + 1) && leb (page_place (kind_of r) + 5) (1 + offset_in (body_of (kind_of r)) f))) ≡ true
          → (i : ℕ) → i < width_in (body_of (kind_of r)) f
          → get_or (rewritten r) (1 + offset_in (body_of (widened_kind (kind_of r))) f + i) 0 ≡ get_or r (1 + offset_in (body_of (kind_of r)) f + i) 0
      go true lacks h i small = absurd (omega (arith, eqb-true (width_in (body_of (kind_of r)) f) 0 lacks))
      go false has h i small =
          let o = offset_in (body_of (kind_of r)) f in
          let two = (and-eq-true_iff _ _).0 h in
          let far = leb-true (page_place (kind_of r) + 5) (1 + o) two.1 in
          let here : 1 + (o + 1) + i ≡ 1 + o + i + 1 = omega arith in
          rw (eqb-true _ (o + 1) two.0, here) (byte_from (1 + o + i) (omega (arith, far)))

-- ---- the mapping that a rewritten record says

-- the mapping with its new kind and page
abbrev pub widened_mapping : Mapping → Mapping
widened_mapping m =
    record {
      kind = widened_kind m.kind;
      vpid = m.vpid;
      pcid = m.pcid;
      global = m.global;
      span = m.span;
      page = widened_page m.page;
      frame = m.frame;
      ep4ta = m.ep4ta;
    }

module _ (r : List ℕ) (held : Held r) (narrow : other_width 57 (kind_of r) ≡ true) (small : field Field.page r < 68719476736) where
  pub mapping_rewritten : mapping (rewritten r) ≡ widened_mapping (mapping r)
  unfolding mapping other_width linear combined wide body_of
  mapping_rewritten =
      let of = of_kind r held narrow in
      let page : field Field.page (rewritten r) ≡ widened_page (field Field.page r) =
      field_has Field.page 6 (page_place (kind_of r)) (rewritten r)
      (rw (kind_of_rewritten r held narrow) (of (λ k. has_field Field.page 6 (page_place k) (widened_kind k)) refl))
      ∙ page_of_rewritten r held narrow (omega (arith, widened_page_below (field Field.page r) small)) in
      λ i. record {
        kind = kind_of_rewritten r held narrow i;
        vpid = field_before r held narrow Field.vpid (of (before_page r held narrow Field.vpid) refl) i;
        pcid = field_before r held narrow Field.pcid (of (before_page r held narrow Field.pcid) refl) i;
        global = field_before r held narrow Field.global (of (before_page r held narrow Field.global) refl) i;
        span = field_before r held narrow Field.span (of (before_page r held narrow Field.span) refl) i;
        page = page i;
        frame = field_behind r held narrow Field.frame (of (behind_page r held narrow Field.frame) refl) i;
        ep4ta = field_behind r held narrow Field.ep4ta (of (behind_page r held narrow Field.ep4ta) refl) i;
      }
