-- Mapping records: what is read off a record's own bytes, held records, the length of the record at
-- the front of some bytes, and exactly valid records.
use Rattle.std.specs.Prelude.{ℕ, suc, ◌≤◌, ◌<◌, ◌≡◌, refl, Bool, true, false, cond, not, ◌&&◌, ◌||◌, List, ◌++◌, eqb, leb, length, take}
use Rattle.std.proofs.Common.{sym, ap, ◌∙◌, le_trans, arith, lit<, length-append, get_or-take, length-take-le, leb-true, le-leb}
use Rattle.std.proofs.Math.Bool.{and-false, and-eq-true_iff}
use Rattle.std.proofs.lemmas.Bool.{lt-leb}
use Rattle.model.specs.Bits.{number}
use Rattle.model.specs.Layouts.{Field, Sort, sort_number, kind_of, mapping_kind, body_of, length_of}
use Rattle.model.specs.Mappings.{mapping, Held, of_sort, linear, guest_physical, combined, structure_cache, wide, other_width, global_marked, span_in_range, fields_in_range, starts_record, record_length}
use Rattle.laws.specs.Lists.{Agree, agree_append, agree_take}
use Rattle.laws.specs.Layouts.{of_mapping_kind, field_by_test, small_range, small_or, by_test, in_set, by_set, row_test_known, kind_agree, field_agree, length_of_positive}

-- a span in its kind's range is at most 4
pub span_in_range_le : (k s : ℕ) → span_in_range k s ≡ true → s ≤ 4
span_in_range_le k s = go (structure_cache k) (wide k)
  where
    go : (b w : Bool) → cond b (leb 1 s && leb s (cond w 4 3)) (leb s 2) ≡ true → s ≤ 4
    go true true e = leb-true s 4 ((and-eq-true_iff (leb 1 s) (leb s 4)).0 e).1
    go true false e = omega (arith, leb-true s 3 ((and-eq-true_iff (leb 1 s) (leb s 3)).0 e).1)
    go false w e = omega (arith, leb-true s 2 e)

-- so no kind has a span above
pub span_in_range_above : (k s : ℕ) → 4 < s → span_in_range k s ≡ false
span_in_range_above k s far = go (span_in_range k s) refl
  where
    go : (b : Bool) → span_in_range k s ≡ b → b ≡ false
    go true on = absurd (omega (arith, span_in_range_le k s on))
    go false off = refl

-- only a known kind has a sort, is a structure cache, or carries a global mark
of_sort_known : (s : Sort) (k : ℕ) → of_sort s k ≡ true → mapping_kind k ≡ true
of_sort_known s = row_test_known (λ row. eqb (sort_number row.sort) (sort_number s))

pub linear_known : (k : ℕ) → linear k ≡ true → mapping_kind k ≡ true
unfolding linear
linear_known = of_sort_known Sort.linear

pub guest_physical_known : (k : ℕ) → guest_physical k ≡ true → mapping_kind k ≡ true
unfolding guest_physical
guest_physical_known = of_sort_known Sort.guest_physical

pub combined_known : (k : ℕ) → combined k ≡ true → mapping_kind k ≡ true
unfolding combined
combined_known = of_sort_known Sort.combined

pub structure_cache_known : (k : ℕ) → structure_cache k ≡ true → mapping_kind k ≡ true
unfolding structure_cache
structure_cache_known = row_test_known (λ row. row.cache)

pub tagged_known : (k : ℕ) → (linear k || combined k) ≡ true → mapping_kind k ≡ true
tagged_known k = go (linear k) refl
  where
    go : (b : Bool) → linear k ≡ b → (b || combined k) ≡ true → mapping_kind k ≡ true
    go true is h = linear_known k is
    go false is h = combined_known k h

pub global_marked_known : (k : ℕ) → global_marked k ≡ true → mapping_kind k ≡ true
unfolding global_marked
global_marked_known k holds = tagged_known k ((and-eq-true_iff (linear k || combined k) (not (structure_cache k))).0 holds).0

pub wide_known : (k : ℕ) → wide k ≡ true → mapping_kind k ≡ true
unfolding wide
wide_known = row_test_known (λ row. eqb row.address_bits 57)

-- the kinds of each sort, the structure caches, those with a global mark and those of 57 bits, as sets or by number
pub linear_set : (k : ℕ) → linear k ≡ in_set 0x292 k
unfolding linear
linear_set = by_set linear 0x292 linear_known refl

pub guest_physical_set : (k : ℕ) → guest_physical k ≡ in_set 0x24 k
unfolding guest_physical
guest_physical_set = by_set guest_physical 0x24 guest_physical_known refl

pub combined_set : (k : ℕ) → combined k ≡ in_set 0x548 k
unfolding combined
combined_set = by_set combined 0x548 combined_known refl

pub structure_cache_range : (k : ℕ) → structure_cache k ≡ ((leb 4 k && leb k 6) || (leb 9 k && leb k 10))
unfolding structure_cache
structure_cache_range =
    by_test structure_cache (λ k. (leb 4 k && leb k 6) || (leb 9 k && leb k 10)) structure_cache_known
    (small_or (λ k. leb 4 k && leb k 6) (λ k. leb 9 k && leb k 10) (small_range 4 6 (lit< tt)) (small_range 9 10 (lit< tt)))
    refl

pub global_marked_set : (k : ℕ) → global_marked k ≡ in_set 0x18A k
unfolding global_marked linear combined structure_cache
global_marked_set = by_set global_marked 0x18A global_marked_known refl

pub wide_range : (k : ℕ) → wide k ≡ (leb 7 k && leb k 10)
unfolding wide
wide_range = by_test wide (λ k. leb 7 k && leb k 10) wide_known (small_range 7 10 (lit< tt)) refl

-- the kinds of mappings that are of 48 bits, and of 57
pub of_48_range : (k : ℕ) → (mapping_kind k && not (wide k)) ≡ (leb 1 k && leb k 6)
unfolding mapping_kind wide
of_48_range =
    by_test (λ k. mapping_kind k && not (wide k)) (λ k. leb 1 k && leb k 6) (λ k h. ((and-eq-true_iff (mapping_kind k) (not (wide k))).0 h).0)
    (small_range 1 6 (lit< tt))
    refl

pub of_57_set : (k : ℕ) → (mapping_kind k && not ((linear k || combined k) && not (wide k))) ≡ in_set 0x7A4 k
unfolding mapping_kind linear combined wide
of_57_set =
    by_set (λ k. mapping_kind k && not ((linear k || combined k) && not (wide k))) 0x7A4
    (λ k h. ((and-eq-true_iff (mapping_kind k) (not ((linear k || combined k) && not (wide k)))).0 h).0)
    refl

-- those of 48 bits: linear and combined ones that are not wide
narrow_known : (k : ℕ) → ((linear k || combined k) && not (wide k)) ≡ true → mapping_kind k ≡ true
narrow_known k h = tagged_known k ((and-eq-true_iff (linear k || combined k) (not (wide k))).0 h).0

pub narrow_set : (k : ℕ) → ((linear k || combined k) && not (wide k)) ≡ in_set 0x5A k
unfolding linear combined wide
narrow_set = by_set (λ k. (linear k || combined k) && not (wide k)) 0x5A narrow_known refl

-- a kind of the other linear width is a mapping's
pub other_width_known : (w k : ℕ) → other_width w k ≡ true → mapping_kind k ≡ true
unfolding other_width
other_width_known w k = go (eqb w 57)
  where
    go : (b : Bool) → cond b ((linear k || combined k) && not (wide k)) (wide k) ≡ true → mapping_kind k ≡ true
    go true = narrow_known k
    go false = wide_known k

-- a mapping is read off the bytes of its record: bytes after it do not matter
pub mapping_agree : (r t : List ℕ) → Agree (length_of (kind_of t)) r t → mapping r ≡ mapping t
unfolding mapping
mapping_agree r t h =
    λ i. record {
      kind = kind_agree r t h i;
      vpid = field_agree Field.vpid r t h i;
      pcid = field_agree Field.pcid r t h i;
      global = field_agree Field.global r t h i;
      span = field_agree Field.span r t h i;
      page = field_agree Field.page r t h i;
      frame = field_agree Field.frame r t h i;
      ep4ta = field_agree Field.ep4ta r t h i;
    }

pub kind_of_take : (n : ℕ) (t : List ℕ) → (n ≡ 0 → ⊥) → kind_of (take n t) ≡ kind_of t
unfolding kind_of
kind_of_take n t some = get_or-take n t 0 0 (omega arith)

pub mapping_take : (n : ℕ) (t : List ℕ) → length_of (kind_of t) ≤ n → mapping (take n t) ≡ mapping t
mapping_take n t h = mapping_agree (take n t) t (agree_take (length_of (kind_of t)) n t h)

-- a held record has 16 bytes or more, as every kind has
pub held_length : (r : List ℕ) → Held r → 16 ≤ length r
unfolding length_of body_of
held_length r held =
    le_trans (leb-true 16 (length_of (kind_of r)) (of_mapping_kind (λ k. leb 16 (length_of k)) refl (kind_of r) held.known)) held.fits

-- the fields that only some kinds have: VPID and PCID but for guest-physical mappings, and the global mark
pub vpid_held : (r : List ℕ) → Held r → (mapping r).vpid ≡ cond (not (guest_physical (mapping r).kind)) (number 2 1 r) 0
unfolding mapping body_of guest_physical
vpid_held r held = field_by_test Field.vpid 2 1 (λ k. not (guest_physical k)) refl r held.known

pub pcid_held : (r : List ℕ) → Held r → (mapping r).pcid ≡ cond (not (guest_physical (mapping r).kind)) (number 2 3 r) 0
unfolding mapping body_of guest_physical
pcid_held r held = field_by_test Field.pcid 2 3 (λ k. not (guest_physical k)) refl r held.known

pub global_held : (r : List ℕ) → Held r → (mapping r).global ≡ cond (global_marked (mapping r).kind) (number 1 5 r) 0
unfolding mapping body_of linear combined structure_cache global_marked
global_held r held = field_by_test Field.global 1 5 global_marked refl r held.known

-- what it is that a record starts at the front of r: it is held, and its fields are in their ranges
pub record Starts (r : List ℕ) : Type 0 where
  pub held : Held r
  pub fields : fields_in_range (mapping r) ≡ true

pub starts_parts : (r : List ℕ) → starts_record r ≡ true → Starts r
unfolding starts_record
starts_parts r e =
    let both = (and-eq-true_iff (mapping_kind (kind_of r) && leb (length_of (kind_of r)) (length r)) (fields_in_range (mapping r))).0 e in
    let front = (and-eq-true_iff (mapping_kind (kind_of r)) (leb (length_of (kind_of r)) (length r))).0 both.0 in
    record {
      held = record { known = front.0; fits = leb-true (length_of (kind_of r)) (length r) front.1 };
      fields = both.1;
    }

pub starts_made : (r : List ℕ) → Starts r → starts_record r ≡ true
unfolding starts_record
starts_made r s = rw (s.held.known, le-leb (length_of (kind_of r)) (length r) s.held.fits, s.fields)

pub starts_agree : (r t : List ℕ) → Agree (length_of (kind_of t)) r t → length_of (kind_of t) ≤ length r → starts_record t ≡ true
    → starts_record r ≡ true
starts_agree r t h fits e =
    let s = starts_parts t e in
    starts_made r
    (record {
      held = record { known = rw (kind_agree r t h) s.held.known; fits = rw (kind_agree r t h) fits };
      fields = rw (mapping_agree r t h) s.fields;
    })

-- the length of the record at the front: 0, or that of its kind
pub record_length_starts : (r : List ℕ) → starts_record r ≡ true → record_length r ≡ length_of (kind_of r)
unfolding record_length
record_length_starts r e = rw (e)

pub record_length_none : (r : List ℕ) → starts_record r ≡ false → record_length r ≡ 0
unfolding record_length
record_length_none r e = rw (e)

-- no record starts where its kind is not known, nor where the bytes are fewer than the kind's; the
-- fields of a held record decide
pub record_length_unknown : (r : List ℕ) → mapping_kind (kind_of r) ≡ false → record_length r ≡ 0
unfolding record_length starts_record
record_length_unknown r e = rw e

pub record_length_short : (r : List ℕ) → length r < length_of (kind_of r) → record_length r ≡ 0
unfolding record_length starts_record
record_length_short r short = rw (lt-leb (length_of (kind_of r)) (length r) short, and-false)

pub record_length_held : (r : List ℕ) (b : Bool) → Held r → fields_in_range (mapping r) ≡ b
    → record_length r ≡ cond b (length_of (kind_of r)) 0
unfolding record_length starts_record
record_length_held r b held is = rw (held.known, le-leb (length_of (kind_of r)) (length r) held.fits, is)

-- what the length says: whether a record starts at the front, that it is held, and its kind's length
pub starts_record_length : (r : List ℕ) → 0 < record_length r → starts_record r ≡ true
starts_record_length r some = go (starts_record r) refl
  where
    go : (b : Bool) → starts_record r ≡ b → b ≡ true
    go true e = refl
    go false e = absurd (omega (arith, record_length_none r e))

pub starts_record_length_zero : (r : List ℕ) → record_length r ≡ 0 → starts_record r ≡ false
starts_record_length_zero r none = go (starts_record r) refl
  where
    go : (b : Bool) → starts_record r ≡ b → b ≡ false
    go true e = absurd (omega (arith, record_length_starts r e, length_of_positive (kind_of r)))
    go false e = refl

pub held_record_length : (r : List ℕ) → 0 < record_length r → Held r
held_record_length r some = (starts_parts r (starts_record_length r some)).held

pub record_length_kind : (r : List ℕ) → 0 < record_length r → record_length r ≡ length_of (kind_of r)
record_length_kind r some = record_length_starts r (starts_record_length r some)

pub record_length_le : (r : List ℕ) → record_length r ≤ length r
record_length_le r = go (starts_record r) refl
  where
    go : (b : Bool) → starts_record r ≡ b → record_length r ≤ length r
    go true e = omega (arith, record_length_starts r e, (starts_parts r e).held.fits)
    go false e = omega (arith, record_length_none r e)

-- bytes after a record do not matter for its length
pub record_length_agree : (r t : List ℕ) → Agree (length_of (kind_of t)) r t → length_of (kind_of t) ≤ length r
    → starts_record t ≡ true
    → record_length r ≡ record_length t
record_length_agree r t h fits e =
    record_length_starts r (starts_agree r t h fits e) ∙ ap length_of (kind_agree r t h) ∙ sym (record_length_starts t e)

pub record_length_append : (r s : List ℕ) → starts_record r ≡ true → record_length (r ++ s) ≡ record_length r
record_length_append r s e =
    let fits = (starts_parts r e).held.fits in
    record_length_agree (r ++ s) r (agree_append (length_of (kind_of r)) r s fits) (simp length-append (omega arith)) e

pub record_length_take : (t : List ℕ) (n : ℕ) → record_length t ≡ suc n → record_length (take (suc n) t) ≡ suc n
record_length_take t n e =
    let within : suc n ≤ length t = omega (arith, record_length_le t) in
    let some : 0 < record_length t = omega arith in
    let is_kind = record_length_kind t some in
    record_length_agree (take (suc n) t) t
    (agree_take (length_of (kind_of t)) (suc n) t (omega arith))
    (omega (arith, length-take-le (suc n) t within))
    (starts_record_length t some)
    ∙ e

-- exactly one valid record, and nothing behind it
pub record Valid (r : List ℕ) : Type 0 where
  pub exact : record_length r ≡ length r
  pub filled : 0 < length r

pub valid_starts : (r : List ℕ) → Valid r → starts_record r ≡ true
valid_starts r v = starts_record_length r (omega (arith, v.exact, v.filled))

pub valid_made : (r : List ℕ) → starts_record r ≡ true → length r ≡ length_of (kind_of r) → Valid r
valid_made r e same =
    record { exact = record_length_starts r e ∙ sym same; filled = omega (arith, same, length_of_positive (kind_of r)) }

pub valid_take : (t : List ℕ) (n : ℕ) → record_length t ≡ suc n → Valid (take (suc n) t)
valid_take t n e =
    let long : length (take (suc n) t) ≡ suc n = length-take-le (suc n) t (omega (arith, record_length_le t)) in
    record { exact = record_length_take t n e ∙ sym long; filled = omega arith }

pub valid_append : (r s : List ℕ) → Valid r → record_length (r ++ s) ≡ length r
valid_append r s v = record_length_append r s (valid_starts r v) ∙ v.exact
