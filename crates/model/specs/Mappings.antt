-- Document 01, "Mapping records": what a record says, when it is valid, and what it covers.
use Rattle.std.specs.Prelude.{ℕ, ◌-◌, ◌*◌, ◌/◌, ◌%◌, ◌^◌, ◌≤◌, Bool, true, cond, not, ◌&&◌, ◌||◌, List, ◌≡◌, eqb, leb, ltb, length}
use Rattle.model.specs.declared.Mapping.{Mapping}
use Rattle.model.specs.Bits.{page_width}
use Rattle.model.specs.Context.{pcid_in_range}
use Rattle.model.specs.Layouts.{Field, Sort, sort_number, mapping_kinds, row_test, field, kind_of, mapping_kind, length_of}

-- "Each record is read as the part of the table that starts at its kind byte": the mapping that
-- starts at the front of r
unfoldable pub mapping : List ℕ → Mapping
mapping r =
    record {
      kind = kind_of r;
      vpid = field Field.vpid r;
      pcid = field Field.pcid r;
      global = field Field.global r;
      span = field Field.span r;
      page = field Field.page r;
      frame = field Field.frame r;
      ep4ta = field Field.ep4ta r;
    }

-- the kind's mapping is of the sort; false where the kind has no row
abbrev pub of_sort : Sort → ℕ → Bool
of_sort sort = row_test (λ row. eqb (sort_number row.sort) (sort_number sort)) mapping_kinds

-- the manual's three sorts of mapping (000, 29.4.1), each a translation or a structure cache
unfoldable pub linear : ℕ → Bool
linear = of_sort Sort.linear

unfoldable pub guest_physical : ℕ → Bool
guest_physical = of_sort Sort.guest_physical

unfoldable pub combined : ℕ → Bool
combined = of_sort Sort.combined

unfoldable pub structure_cache : ℕ → Bool
structure_cache = row_test (λ row. row.cache) mapping_kinds

-- document 02, Ask 12: kinds 7 to 10, whose linear addresses have 57 bits
unfoldable pub wide : ℕ → Bool
wide = row_test (λ row. eqb row.address_bits 57) mapping_kinds

-- "Width 48 refuses the new kinds and width 57 refuses kinds 1, 3, 4 and 6": the kind is one of the other linear width.
-- Guest-physical mappings are the same at both, and so are the events besides creations.
unfoldable pub other_width : ℕ → ℕ → Bool
other_width width kind = cond (eqb width 57) ((linear kind || combined kind) && not (wide kind)) (wide kind)

-- linear and combined translations carry a global mark; structure caches carry none
unfoldable pub global_marked : ℕ → Bool
global_marked kind = (linear kind || combined kind) && not (structure_cache kind)

-- a global translation: "kinds 1 and 3 with global 1"
abbrev pub global_translation : Mapping → Bool
global_translation m = global_marked m.kind && eqb m.global 1

-- "Span s is 0 to 2 for kinds 1 to 3 and 1 to 3 for kinds 4 to 6."; "kinds 9 and 10 may have span 4" (Ask 12)
abbrev pub span_in_range : ℕ → ℕ → Bool
span_in_range kind span =
    cond (structure_cache kind) (leb 1 span && leb span (cond (wide kind) 4 3)) (leb span 2)

-- how many pages a span has: 2^(9s)
abbrev pub pages : ℕ → ℕ
pages span = 2 ^ (9 * span)

-- "Page is below 2^36.", for kinds 7 to 10 "below 2^45". "Page is a multiple of 2^(9s)."
abbrev pub page_in_range : ℕ → ℕ → ℕ → Bool
page_in_range kind span page =
    ltb page (2 ^ (cond (wide kind) 57 48 - page_width)) && eqb (page % pages span) 0

-- "Global is 0 or 1. PCID is at most 4,095.", span and page. Frames and structures are any 5 bytes;
-- a field that the kind lacks is 0, and so in its range.
unfoldable pub fields_in_range : Mapping → Bool
fields_in_range m =
    leb m.global 1
    && pcid_in_range m.pcid
    && span_in_range m.kind m.span
    && page_in_range m.kind m.span m.page

-- a record of a known kind stands whole at the front of r; its fields may be out of their ranges
pub record Held (r : List ℕ) : Type 0 where
  pub known : mapping_kind (kind_of r) ≡ true
  pub fits : length_of (kind_of r) ≤ length r

-- a whole, valid record starts at the front of r, of either linear width; `of_width` in Tables asks for the context's
unfoldable pub starts_record : List ℕ → Bool
starts_record r = mapping_kind (kind_of r) && leb (length_of (kind_of r)) (length r) && fields_in_range (mapping r)

-- the length of the record that starts at the front of r; 0 where none starts there
unfoldable pub record_length : List ℕ → ℕ
record_length r = cond (starts_record r) (length_of (kind_of r)) 0

-- "A record covers page p if p and its page have equal quotients by 2^(9s)." Stated once, over the
-- span, for any pages.
unfoldable pub covers : ℕ → ℕ → ℕ → Bool
covers span page p = eqb (p / pages span) (page / pages span)
