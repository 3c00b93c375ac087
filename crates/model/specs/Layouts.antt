-- Document 01, the two tables of kinds: "Mapping records" and "Events", with document 02's kinds (Asks 5 and 12). Every layout is a row of
-- these tables, and one reader, `field`, serves them all.
use Rattle.std.specs.Prelude.{ℕ, ◌+◌, Bool, true, false, cond, List, [], ◌∷◌, ◌++◌, map, eqb, get_or}
use Rattle.model.specs.Bits.{number}

-- The fields of records and events. `frame` is a structure cache's structure too; `low` and `high`
-- are the two quadwords of a descriptor, low first.
pub data Field : Type 0 where
  vpid pcid global span page frame ep4ta : Field
  type_number low high : Field
  linear_address guest_physical_address linear_flag : Field
  vpid_enable ept_enable eptp cpl : Field

-- fields are told apart by their number in that list
abbrev pub field_number : Field → ℕ
field_number vpid = 0
field_number pcid = 1
field_number global = 2
field_number span = 3
field_number page = 4
field_number frame = 5
field_number ep4ta = 6
field_number type_number = 7
field_number low = 8
field_number high = 9
field_number linear_address = 10
field_number guest_physical_address = 11
field_number linear_flag = 12
field_number vpid_enable = 13
field_number ept_enable = 14
field_number eptp = 15
field_number cpl = 16

-- a body: its fields in order, with bytes
abbrev pub Body : Type 0
Body = List (Field × ℕ)

-- the manual's three sorts of mapping (000, 29.4.1), told apart by their number
pub data Sort : Type 0 where
  linear guest_physical combined : Sort

abbrev pub sort_number : Sort → ℕ
sort_number linear = 0
sort_number guest_physical = 1
sort_number combined = 2

-- a row of the table of mappings: the kind, its sort, whether it is a structure cache or a
-- translation, how many bits its addresses have, and its body
pub record Row : Type 0 where
  pub kind : ℕ
  pub sort : Sort
  pub cache : Bool
  pub address_bits : ℕ
  pub body : Body

abbrev translation : ℕ → Sort → ℕ → Body → Row
translation kind sort bits body = record { kind = kind; sort = sort; cache = false; address_bits = bits; body = body }

abbrev structure : ℕ → Sort → ℕ → Body → Row
structure kind sort bits body = record { kind = kind; sort = sort; cache = true; address_bits = bits; body = body }

-- "kind | mapping | body, in order, with bytes"; document 02, Ask 12: "Kinds 7, 8, 9 and 10 are kinds 1, 3, 4 and 6 with
-- a 6-byte page"
abbrev pub mapping_kinds : List Row
mapping_kinds =
    translation 1 linear 48 ((vpid, 2) ∷ (pcid, 2) ∷ (global, 1) ∷ (span, 1) ∷ (page, 5) ∷ (frame, 5) ∷ [])
    ∷ translation 2 guest_physical 48 ((ep4ta, 5) ∷ (span, 1) ∷ (page, 5) ∷ (frame, 5) ∷ [])
    ∷ translation 3 combined 48 ((vpid, 2) ∷ (pcid, 2) ∷ (global, 1) ∷ (span, 1) ∷ (page, 5) ∷ (frame, 5) ∷ (ep4ta, 5) ∷ [])
    ∷ structure 4 linear 48 ((vpid, 2) ∷ (pcid, 2) ∷ (span, 1) ∷ (page, 5) ∷ (frame, 5) ∷ [])
    ∷ structure 5 guest_physical 48 ((ep4ta, 5) ∷ (span, 1) ∷ (page, 5) ∷ (frame, 5) ∷ [])
    ∷ structure 6 combined 48 ((vpid, 2) ∷ (pcid, 2) ∷ (span, 1) ∷ (page, 5) ∷ (frame, 5) ∷ (ep4ta, 5) ∷ [])
    ∷ translation 7 linear 57 ((vpid, 2) ∷ (pcid, 2) ∷ (global, 1) ∷ (span, 1) ∷ (page, 6) ∷ (frame, 5) ∷ [])
    ∷ translation 8 combined 57 ((vpid, 2) ∷ (pcid, 2) ∷ (global, 1) ∷ (span, 1) ∷ (page, 6) ∷ (frame, 5) ∷ (ep4ta, 5) ∷ [])
    ∷ structure 9 linear 57 ((vpid, 2) ∷ (pcid, 2) ∷ (span, 1) ∷ (page, 6) ∷ (frame, 5) ∷ [])
    ∷ structure 10 combined 57 ((vpid, 2) ∷ (pcid, 2) ∷ (span, 1) ∷ (page, 6) ∷ (frame, 5) ∷ (ep4ta, 5) ∷ [])
    ∷ []

-- "kind | event | body": the events besides the creations. Kinds 26, INVPCID, and 27, MOV to CR3 without bit 63, are
-- document 02's, Ask 5.
abbrev pub other_event_kinds : List (ℕ × Body)
other_event_kinds =
    (16, (type_number, 8) ∷ (low, 8) ∷ (high, 8) ∷ [])
    ∷ (17, (type_number, 8) ∷ (low, 8) ∷ (high, 8) ∷ [])
    ∷ (18, (linear_address, 8) ∷ [])
    ∷ (19, (guest_physical_address, 8) ∷ (linear_flag, 1) ∷ (linear_address, 8) ∷ [])
    ∷ (20, (vpid_enable, 1) ∷ (vpid, 2) ∷ (ept_enable, 1) ∷ (eptp, 8) ∷ (pcid, 2) ∷ (cpl, 1) ∷ [])
    ∷ (21, (pcid, 2) ∷ [])
    ∷ (22, [])
    ∷ (23, [])
    ∷ (24, (pcid, 2) ∷ (cpl, 1) ∷ [])
    ∷ (25, [])
    ∷ (26, (type_number, 8) ∷ (low, 8) ∷ (high, 8) ∷ [])
    ∷ (27, (pcid, 2) ∷ [])
    ∷ []

-- the bodies of the mappings, by kind
abbrev pub mapping_bodies : List (ℕ × Body)
mapping_bodies = map (λ row. (row.kind, row.body)) mapping_kinds

-- what a test says of the row of a kind; false where the kind has no row
abbrev pub row_test : (Row → Bool) → List Row → ℕ → Bool
row_test test [] kind = false
row_test test (row ∷ rows) kind = cond (eqb kind row.kind) (test row) (row_test test rows kind)

-- the kind has a row in a table of kinds
abbrev pub known_in : List (ℕ × Body) → ℕ → Bool
known_in [] kind = false
known_in (row ∷ rows) kind = cond (eqb kind row.0) true (known_in rows kind)

-- its body there; no field where the kind is unknown
abbrev pub body_in : List (ℕ × Body) → ℕ → Body
body_in [] kind = []
body_in (row ∷ rows) kind = cond (eqb kind row.0) row.1 (body_in rows kind)

-- how many bytes a body has
abbrev pub bytes_of : Body → ℕ
bytes_of [] = 0
bytes_of (f ∷ fs) = f.1 + bytes_of fs

-- where a field starts in a body, and how many bytes it has; 0 bytes where the body lacks it
abbrev pub offset_in : Body → Field → ℕ
offset_in [] f = 0
offset_in (g ∷ gs) f = cond (eqb (field_number f) (field_number g.0)) 0 (g.1 + offset_in gs f)

abbrev pub width_in : Body → Field → ℕ
width_in [] f = 0
width_in (g ∷ gs) f = cond (eqb (field_number f) (field_number g.0)) g.1 (width_in gs f)

-- "One byte of kind": the first; 0, which is no kind, where there is no byte
unfoldable pub kind_of : List ℕ → ℕ
kind_of r = get_or r 0 0

-- the kind is a mapping's, at either linear width
unfoldable pub mapping_kind : ℕ → Bool
mapping_kind kind = known_in mapping_bodies kind

-- the kind is an event's, a creation's among them, at either linear width
unfoldable pub event_kind : ℕ → Bool
event_kind kind = known_in (mapping_bodies ++ other_event_kinds) kind

-- the body of a kind of event, a mapping's among them
unfoldable pub body_of : ℕ → Body
body_of kind = body_in (mapping_bodies ++ other_event_kinds) kind

-- the length of a record or event of a known kind, its kind byte with it
unfoldable pub length_of : ℕ → ℕ
length_of kind = 1 + bytes_of (body_of kind)

-- "Little-endian": a field of the record or event that starts at the front of r; 0 where its kind
-- has no such field
unfoldable pub field : Field → List ℕ → ℕ
field f r = number (width_in (body_of (kind_of r)) f) (1 + offset_in (body_of (kind_of r)) f) r
