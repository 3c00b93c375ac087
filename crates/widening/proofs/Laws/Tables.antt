-- The converter's theorem, proved: each record stays valid and usable where it was, and so does the table.
use Rattle.std.specs.Prelude.{ℕ, min, ◌+◌, ◌*◌, ◌%◌, ◌^◌, ◌≤◌, ◌<◌, Bool, ◌&&◌, ◌||◌, List, [], ◌∷◌, map, ◌≡◌}
use Rattle.std.proofs.Math.Bool.{true, false, cond, not, and-false, and-eq-true_iff}
use Rattle.std.proofs.lemmas.Bool.{false≢true}
use Rattle.std.proofs.Math.Path.{refl, sym, ap}
use Rattle.std.proofs.Common.{◌∙◌, arith}
use borrow.Author.Tests.{eqb-true, leb-true, le-leb, ltb-true, lt-ltb, eq-eqb, ltb-false, le-ltb, not-true}
use Rattle.std.proofs.Math.Dec.{eqb, leb, ltb}
use Rattle.std.proofs.Math.ListN.{length, get_or-map}
use Rattle.std.proofs.lemmas.List.{length-map}
use Rattle.model.specs.declared.Context.{Context}
use Rattle.model.specs.declared.Ept.{Ept}
use Rattle.model.specs.declared.Ept.TheVariants.{Off, On}
use Rattle.model.specs.declared.Mapping.{Mapping}
use Rattle.model.specs.declared.Address.{Address}
use Rattle.model.specs.declared.Address.TheVariants.{Linear, GuestPhysical}
use Rattle.model.specs.Context.{in_range, pcid_in_range, current_ept}
use Rattle.model.specs.Layouts.{kind_of, mapping_kind, body_of, length_of}
use Rattle.model.specs.Mappings.{mapping, linear, guest_physical, combined, structure_cache, wide, other_width, global_marked, span_in_range, page_in_range, fields_in_range}
use Rattle.model.specs.Tables.{limit, records, only}
use Rattle.model.specs.Events.{canonical, page_of, covers_linear, covers_guest_physical}
use Rattle.model.specs.Answers.{first, valid_table, stored_grounds}
use Rattle.model.specs.Lookups.{translates_linear, usable, usable_records, lookup_answer, lookup}
use Rattle.laws.specs.Lists.{Every, none, more, every_head, every_tail, every_append_back}
use Rattle.laws.specs.Layouts.{agrees, agrees_true, of_mapping_kind}
use Rattle.laws.specs.Mappings.{Valid, Starts, starts_parts, starts_made, valid_starts, valid_made, record_length_starts}
use Rattle.laws.specs.Tables.{records_valid, records_joined, joined_whole}
use Rattle.laws.specs.Answers.{OfWidth, valid_table_parts, valid_table_made, stored_valid, table_grounds_whole, first_zero}
use Rattle.widening.specs.Widening.{widened_kind, widened_page, rewritten, widened, widened_table, widening_grounds, widening_answer}
use Rattle.widening.specs.Theorem.{with_width, Widens, WideningWidens}
use Rattle.widening.proofs.Laws.Loops.{length_rewritten, widened_other, widened_own}
use Rattle.widening.proofs.Laws.Pages.{canonical_57, page_of_57, page_between, widened_page_below, multiple_widened, covers_widened, covers_between}
use Rattle.widening.proofs.Laws.Records.{of_narrow_kind, kind_of_rewritten, widened_mapping, mapping_rewritten}

-- ---- the kinds of 48 bits: what their 57-bit siblings have in common with them

module _ (k : ℕ) (known : mapping_kind k ≡ true) (narrow : other_width 57 k ≡ true) where
  sibling_known : mapping_kind (widened_kind k) ≡ true
  unfolding mapping_kind other_width linear combined wide
  sibling_known = of_narrow_kind (λ k. mapping_kind (widened_kind k)) refl k known narrow

  sibling_length : length_of (widened_kind k) ≡ length_of k + 1
  unfolding length_of body_of other_width linear combined wide
  sibling_length = eqb-true _ _ (of_narrow_kind (λ k. eqb (length_of (widened_kind k)) (length_of k + 1)) refl k known narrow)

  sibling_own : other_width 57 (widened_kind k) ≡ false
  unfolding other_width linear combined wide
  sibling_own = not-true _ (of_narrow_kind (λ k. not (other_width 57 (widened_kind k))) refl k known narrow)

  sibling_wide : wide (widened_kind k) ≡ true
  unfolding other_width linear combined wide
  sibling_wide = of_narrow_kind (λ k. wide (widened_kind k)) refl k known narrow

  narrow_not_wide : wide k ≡ false
  unfolding other_width linear combined wide
  narrow_not_wide = not-true _ (of_narrow_kind (λ k. not (wide k)) refl k known narrow)

  sibling_cache : structure_cache (widened_kind k) ≡ structure_cache k
  unfolding structure_cache other_width linear combined wide
  sibling_cache = agrees_true _ _ (of_narrow_kind (λ k. agrees (structure_cache (widened_kind k)) (structure_cache k)) refl k known narrow)

  sibling_linear : linear (widened_kind k) ≡ linear k
  unfolding linear combined other_width wide
  sibling_linear = agrees_true _ _ (of_narrow_kind (λ k. agrees (linear (widened_kind k)) (linear k)) refl k known narrow)

  sibling_combined : combined (widened_kind k) ≡ combined k
  unfolding linear combined other_width wide
  sibling_combined = agrees_true _ _ (of_narrow_kind (λ k. agrees (combined (widened_kind k)) (combined k)) refl k known narrow)

  sibling_marked : global_marked (widened_kind k) ≡ global_marked k
  unfolding global_marked structure_cache linear combined other_width wide
  sibling_marked = agrees_true _ _ (of_narrow_kind (λ k. agrees (global_marked (widened_kind k)) (global_marked k)) refl k known narrow)

  sibling_not_physical : guest_physical (widened_kind k) ≡ false
  unfolding guest_physical linear combined other_width wide
  sibling_not_physical = not-true _ (of_narrow_kind (λ k. not (guest_physical (widened_kind k))) refl k known narrow)

  narrow_not_physical : guest_physical k ≡ false
  unfolding guest_physical linear combined other_width wide
  narrow_not_physical = not-true _ (of_narrow_kind (λ k. not (guest_physical k)) refl k known narrow)

neither : {a b x : Bool} → a ≡ false → b ≡ false → (a || b || x) ≡ true → x ≡ true
neither p q h = rw (p, q) at h

-- a kind of neither width is guest-physical
own_kind : (k : ℕ) → mapping_kind k ≡ true → other_width 48 k ≡ false → other_width 57 k ≡ false → (linear k ≡ false) × (combined k ≡ false)
unfolding linear combined other_width wide
own_kind k known not_wide not_narrow =
    let both = of_mapping_kind (λ k. other_width 48 k || other_width 57 k || (not (linear k) && not (combined k))) refl k known in
    let parts = (and-eq-true_iff (not (linear k)) (not (combined k))).0 (neither not_wide not_narrow both) in
    (not-true _ parts.0, not-true _ parts.1)

-- ---- a record of 48 bits: the fields of its sibling are in their ranges

record InRange (m : Mapping) : Type 0 where
  global : leb m.global 1 ≡ true
  pcid : pcid_in_range m.pcid ≡ true
  span : span_in_range m.kind m.span ≡ true
  page : page_in_range m.kind m.span m.page ≡ true

in_range_parts : (m : Mapping) → fields_in_range m ≡ true → InRange m
unfolding fields_in_range
in_range_parts m h =
    let three = (and-eq-true_iff _ _).0 h in
    let two = (and-eq-true_iff _ _).0 three.0 in
    let one = (and-eq-true_iff _ _).0 two.0 in
    record { global = one.0; pcid = one.1; span = two.1; page = three.1 }

module _ (m : Mapping) (known : mapping_kind m.kind ≡ true) (narrow : other_width 57 m.kind ≡ true) (parts : InRange m) where
  span_small : m.span ≤ 3
  span_small = go (structure_cache m.kind) (rw (narrow_not_wide m.kind known narrow) at parts.span)
    where
      go : (b : Bool) → cond b (leb 1 m.span && leb m.span 3) (leb m.span 2) ≡ true → m.span ≤ 3
      go true e = leb-true m.span 3 ((and-eq-true_iff (leb 1 m.span) (leb m.span 3)).0 e).1
      go false e = omega (arith, leb-true m.span 2 e)

  page_parts : (ltb m.page 68719476736 ≡ true) × (eqb (m.page % 2 ^ (9 * m.span)) 0 ≡ true)
  page_parts = (and-eq-true_iff _ _).0 (rw (narrow_not_wide m.kind known narrow) at parts.page)

  page_small : m.page < 68719476736
  page_small = ltb-true m.page 68719476736 page_parts.0

  sibling_in_range : fields_in_range (widened_mapping m) ≡ true
  unfolding fields_in_range
  sibling_in_range =
      let k = m.kind in
      let page_in : ltb (widened_page m.page) 35184372088832 ≡ true = lt-ltb _ _ (widened_page_below m.page page_small) in
      let even : eqb (widened_page m.page % 2 ^ (9 * m.span)) 0 ≡ true =
      eq-eqb _ 0 (multiple_widened m.span m.page span_small (eqb-true (m.page % 2 ^ (9 * m.span)) 0 page_parts.1)) in
      rw (sibling_cache k known narrow, sibling_wide k known narrow, parts.global, parts.pcid, page_in, even)
      (spans (structure_cache k) (rw (narrow_not_wide k known narrow) at parts.span))
    where
      spans : (b : Bool) → cond b (leb 1 m.span && leb m.span 3) (leb m.span 2) ≡ true
          → (true && true && cond b (leb 1 m.span && leb m.span 4) (leb m.span 2) && (true && true)) ≡ true
      spans true e =
          let both = (and-eq-true_iff (leb 1 m.span) (leb m.span 3)).0 e in
          let below : leb m.span 4 ≡ true = le-leb m.span 4 (omega (arith, leb-true m.span 3 both.1)) in
          rw (both.0, below)
      spans false e = rw e

-- ---- each record

-- the page of a mapping is its field
module _ (r : List ℕ) (valid : Valid r) (own : OfWidth 48 r) where
  starts : Starts r
  starts = starts_parts r (valid_starts r valid)

  parts : InRange (mapping r)
  parts = in_range_parts (mapping r) starts.fields

  module _ (narrow : other_width 57 (kind_of r) ≡ true) where
    says : mapping (rewritten r) ≡ widened_mapping (mapping r)
    unfolding mapping
    says = mapping_rewritten r starts.held narrow (page_small (mapping r) starts.held.known narrow parts)

    rewritten_valid : Valid (rewritten r)
    unfolding mapping
    rewritten_valid =
        let k = kind_of r in
        let kind = kind_of_rewritten r starts.held narrow in
        let known = starts.held.known in
        let size : length (rewritten r) ≡ length_of (kind_of (rewritten r)) =
        length_rewritten r starts.held ∙ rw (kind, sibling_length k known narrow) (ap (λ n. n + 1) (exact_length)) in
        valid_made (rewritten r)
        (starts_made (rewritten r)
        (record {
          held = record { known = rw kind (sibling_known k known narrow); fits = omega (arith, size) };
          fields = rw says (sibling_in_range (mapping r) known narrow parts);
        }))
        size
      where
        exact_length : length r ≡ length_of (kind_of r)
        exact_length = sym valid.exact ∙ record_length_starts r (valid_starts r valid)

  pub widened_valid : Valid (widened r)
  widened_valid = go (other_width 57 (kind_of r)) refl
    where
      go : (b : Bool) → other_width 57 (kind_of r) ≡ b → Valid (widened r)
      go true is = rw (widened_other r is) (rewritten_valid is)
      go false is = rw (widened_own r is) valid

  pub widened_of_width : OfWidth 57 (widened r)
  widened_of_width = go (other_width 57 (kind_of r)) refl
    where
      go : (b : Bool) → other_width 57 (kind_of r) ≡ b → OfWidth 57 (widened r)
      go true is =
          rw (widened_other r is, kind_of_rewritten r starts.held is, sibling_own (kind_of r) starts.held.known is)
      go false is = rw (widened_own r is, is)

-- ---- what is usable

-- a record of 48 bits is usable at an address where its sibling is
module _ (c : Context) (m : Mapping) (known : mapping_kind m.kind ≡ true) (narrow : other_width 57 m.kind ≡ true) where
  translates_sibling : (e : Ept) → translates_linear e (widened_mapping m) ≡ translates_linear e m
  unfolding translates_linear
  translates_sibling Off = sibling_linear m.kind known narrow
  translates_sibling (On ep4ta) = rw (sibling_combined m.kind known narrow)

  usable_sibling : (a : ℕ) → InRange m → usable (with_width 57 c) (Linear a) (widened_mapping m) ≡ usable (with_width 48 c) (Linear a) m
  unfolding usable
  usable_sibling a parts = go (canonical 48 a) (canonical 57 a) refl refl
    where
      go : (b w : Bool) → canonical 48 a ≡ b → canonical 57 a ≡ w → usable (with_width 57 c) (Linear a) (widened_mapping m) ≡ usable (with_width 48 c) (Linear a) m
      go true w here wide =
          rw (
            canonical_57 a here,
            here,
            page_of_57 a here,
            covers_widened m.span m.page _ (span_small m known narrow parts),
            sibling_marked m.kind known narrow,
            translates_sibling (current_ept c.place),
          )
      go false false here wide = rw (here, wide)
      go false true here wide =
          let page = page_between a wide here in
          rw (here, wide, covers_between m.span m.page _ (span_small m known narrow parts) page.0 page.1)

  usable_sibling_physical : (a : ℕ) → usable (with_width 57 c) (GuestPhysical a) (widened_mapping m) ≡ usable (with_width 48 c) (GuestPhysical a) m
  unfolding usable
  usable_sibling_physical a = rw (sibling_not_physical m.kind known narrow, narrow_not_physical m.kind known narrow, and-false, and-false)

-- a guest-physical one at no linear address, and at the same guest-physical ones
module _ (c : Context) (m : Mapping) (not_linear : linear m.kind ≡ false) (not_combined : combined m.kind ≡ false) where
  translates_none : (e : Ept) → translates_linear e m ≡ false
  unfolding translates_linear
  translates_none Off = not_linear
  translates_none (On ep4ta) = rw not_combined

  usable_none : (w a : ℕ) → usable (with_width w c) (Linear a) m ≡ false
  unfolding usable
  usable_none w a = rw (translates_none (current_ept c.place), and-false)

module _ (c : Context) (r : List ℕ) (valid : Valid r) (own : OfWidth 48 r) where
  usable_rewritten : (a : Address) → other_width 57 (kind_of r) ≡ true
      → usable (with_width 57 c) a (mapping (rewritten r)) ≡ usable (with_width 48 c) a (mapping r)
  unfolding mapping
  usable_rewritten (Linear a) is =
      ap (usable (with_width 57 c) (Linear a)) (says r valid own is)
      ∙ usable_sibling c (mapping r) (starts r valid own).held.known is a (parts r valid own)
  usable_rewritten (GuestPhysical a) is =
      ap (usable (with_width 57 c) (GuestPhysical a)) (says r valid own is)
      ∙ usable_sibling_physical c (mapping r) (starts r valid own).held.known is a

  usable_left : (a : Address) → other_width 57 (kind_of r) ≡ false
      → usable (with_width 57 c) a (mapping r) ≡ usable (with_width 48 c) a (mapping r)
  unfolding mapping usable
  usable_left (Linear a) is =
      let kind = own_kind (kind_of r) (starts r valid own).held.known (not-true _ own) is in
      usable_none c (mapping r) kind.0 kind.1 57 a ∙ sym (usable_none c (mapping r) kind.0 kind.1 48 a)
  usable_left (GuestPhysical a) is = refl

  usable_widened : (a : Address) → usable (with_width 57 c) a (mapping (widened r)) ≡ usable (with_width 48 c) a (mapping r)
  usable_widened a = go (other_width 57 (kind_of r)) refl
    where
      go : (b : Bool) → other_width 57 (kind_of r) ≡ b → usable (with_width 57 c) a (mapping (widened r)) ≡ usable (with_width 48 c) a (mapping r)
      go true is = rw (widened_other r is) (usable_rewritten a is)
      go false is = rw (widened_own r is) (usable_left a is)

-- ---- the table

every_widened : {rs : List (List ℕ)} → Every Valid rs → Every (OfWidth 48) rs → Every Valid (map widened rs)
every_widened none none = none
every_widened (more v vs) (more o os) = more (widened_valid _ v o) (every_widened vs os)

every_of_57 : {rs : List (List ℕ)} → Every Valid rs → Every (OfWidth 48) rs → Every (OfWidth 57) (map widened rs)
every_of_57 none none = none
every_of_57 (more v vs) (more o os) = more (widened_of_width _ v o) (every_of_57 vs os)

only_widened : (c : Context) (a : Address) (rs : List (List ℕ)) → Every Valid rs → Every (OfWidth 48) rs
    → only (λ r. usable (with_width 57 c) a (mapping r)) (map widened rs) ≡ map widened (only (λ r. usable (with_width 48 c) a (mapping r)) rs)
unfolding only
only_widened c a [] none none = refl
only_widened c a (r ∷ rs) (more v vs) (more o os) =
    rw (usable_widened c r v o a, only_widened c a rs vs os) (go (usable (with_width 48 c) a (mapping r)))
  where
    left : List (List ℕ)
    left = only (λ r. usable (with_width 48 c) a (mapping r)) rs

    go : (b : Bool) → cond b (widened r ∷ map widened left) (map widened left) ≡ map widened (cond b (r ∷ left) left)
    go true = refl
    go false = refl

widened_nil : widened [] ≡ []
unfolding widened other_width linear combined wide kind_of
widened_nil = refl

-- the width does not matter for the other ranges
in_range_57 : (c : Context) → in_range (with_width 48 c) ≡ true → in_range (with_width 57 c) ≡ true
unfolding in_range
in_range_57 c fits = fits

module _ (t : List ℕ) (room : ℕ) (accepted : widening_answer t room ≡ 0) where
  -- the old table is valid and short, and the new one short
  passed : (first (stored_grounds 48 t) ≡ 0) × (length (widened_table t) ≤ limit)
  unfolding widening_answer widening_grounds first
  passed =
      let all = first_zero (widening_grounds t room) refl accepted in
      let room_left = every_head (every_append_back (stored_grounds 48 t) _ all) in
      let short = every_head all in
      let valid = every_head (every_tail all) in
      (rw (short, valid), omega (arith, ltb-false (min room limit) (length (widened_table t)) room_left))

  own : Every (OfWidth 48) (records t)
  own = (valid_table_parts 48 t (stored_valid 48 t passed.0).1).1

  each : records (widened_table t) ≡ map widened (records t)
  unfolding widened_table
  each = records_joined (every_widened (records_valid t) own)

  valid_57 : valid_table 57 (widened_table t) ≡ true
  unfolding widened_table
  valid_57 =
      valid_table_made 57 (widened_table t) (joined_whole (every_widened (records_valid t) own)) (rw each (every_of_57 (records_valid t) own))

  same_usable : (c : Context) (a : Address)
      → usable_records (with_width 57 c) a (widened_table t) ≡ map widened (usable_records (with_width 48 c) a t)
  unfolding usable_records
  same_usable c a = rw each (only_widened c a (records t) (records_valid t) own)

  -- both tables are looked up
  answered_48 : (c : Context) → in_range (with_width 48 c) ≡ true → lookup_answer (with_width 48 c) t ≡ 0
  unfolding lookup_answer first
  answered_48 c fits =
      let good = stored_valid 48 t passed.0 in
      rw (table_grounds_whole (with_width 48 c) t good.1 good.0, fits)

  answered_57 : (c : Context) → in_range (with_width 48 c) ≡ true → lookup_answer (with_width 57 c) (widened_table t) ≡ 0
  unfolding lookup_answer first
  answered_57 c fits =
      rw (table_grounds_whole (with_width 57 c) (widened_table t) valid_57 passed.1, in_range_57 c fits)

  same_lookup : (c : Context) (a : Address) (k : ℕ) → in_range (with_width 48 c) ≡ true
      → lookup (with_width 57 c) a (widened_table t) k ≡ widened (lookup (with_width 48 c) a t k)
  unfolding lookup
  same_lookup c a k fits =
      rw (answered_57 c fits, answered_48 c fits, same_usable c a)
      (rw widened_nil at (get_or-map widened (usable_records (with_width 48 c) a t) k []))

  stored_57 : first (stored_grounds 57 (widened_table t)) ≡ 0
  unfolding first
  stored_57 = rw (le-ltb limit (length (widened_table t)) passed.1, valid_57)

  pub widens : Widens t
  widens =
      record {
        valid = stored_57;
        each = each;
        count = ap length each ∙ length-map (records t) widened;
        usable = same_usable;
        looked_up = same_lookup;
      }

pub widening_widens_holds : WideningWidens
widening_widens_holds = widens

-- ---- the mapping of a widened record

-- what it has in common with the record's own: its sort and marks, its tags, and the addresses that it covers. The
-- linear ones are asked of linear and combined mappings alone, the guest-physical ones of guest-physical mappings.
pub record Sibling (m n : Mapping) : Type 0 where
  pub known : mapping_kind m.kind ≡ true
  pub sibling_known : mapping_kind n.kind ≡ true
  pub is_linear : linear n.kind ≡ linear m.kind
  pub is_physical : guest_physical n.kind ≡ guest_physical m.kind
  pub is_combined : combined n.kind ≡ combined m.kind
  pub is_cache : structure_cache n.kind ≡ structure_cache m.kind
  pub is_marked : global_marked n.kind ≡ global_marked m.kind
  pub vpid : n.vpid ≡ m.vpid
  pub pcid : n.pcid ≡ m.pcid
  pub global : n.global ≡ m.global
  pub span : n.span ≡ m.span
  pub ep4ta : n.ep4ta ≡ m.ep4ta
  pub covering : (linear m.kind || combined m.kind) ≡ true → (a : ℕ) → canonical 48 a ≡ true
      → covers_linear 57 a n ≡ covers_linear 48 a m
  pub covering_physical : guest_physical m.kind ≡ true → (a : ℕ) → covers_guest_physical a n ≡ covers_guest_physical a m

narrow_sibling : (m : Mapping) → mapping_kind m.kind ≡ true → other_width 57 m.kind ≡ true → InRange m → Sibling m (widened_mapping m)
narrow_sibling m known narrow parts =
    record {
      known = known;
      sibling_known = sibling_known m.kind known narrow;
      is_linear = sibling_linear m.kind known narrow;
      is_physical = sibling_not_physical m.kind known narrow ∙ sym (narrow_not_physical m.kind known narrow);
      is_combined = sibling_combined m.kind known narrow;
      is_cache = sibling_cache m.kind known narrow;
      is_marked = sibling_marked m.kind known narrow;
      vpid = refl;
      pcid = refl;
      global = refl;
      span = refl;
      ep4ta = refl;
      covering = λ tagged a here.
          rw (page_of_57 a here) (covers_widened m.span m.page (page_of 48 a) (span_small m known narrow parts));
      covering_physical = λ physical a. absurd (false≢true (sym (narrow_not_physical m.kind known narrow) ∙ physical));
    }

own_sibling : (m : Mapping) → mapping_kind m.kind ≡ true → linear m.kind ≡ false → combined m.kind ≡ false → Sibling m m
own_sibling m known not_linear not_combined =
    record {
      known = known;
      sibling_known = known;
      is_linear = refl;
      is_physical = refl;
      is_combined = refl;
      is_cache = refl;
      is_marked = refl;
      vpid = refl;
      pcid = refl;
      global = refl;
      span = refl;
      ep4ta = refl;
      covering = λ tagged a here. absurd (false≢true (rw (not_linear, not_combined) at tagged));
      covering_physical = λ physical a. refl;
    }

pub widened_sibling : (r : List ℕ) → Valid r → OfWidth 48 r → Sibling (mapping r) (mapping (widened r))
unfolding mapping
widened_sibling r valid own = go (other_width 57 (kind_of r)) refl
  where
    known : mapping_kind (kind_of r) ≡ true
    known = (starts r valid own).held.known

    go : (b : Bool) → other_width 57 (kind_of r) ≡ b → Sibling (mapping r) (mapping (widened r))
    go true is = rw (widened_other r is, says r valid own is) (narrow_sibling (mapping r) known is (parts r valid own))
    go false is =
        let kind = own_kind (kind_of r) known (not-true _ own) is in
        rw (widened_own r is) (own_sibling (mapping r) known kind.0 kind.1)
