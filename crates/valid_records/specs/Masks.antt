-- Which bits of a record's first sixteen bytes are 0 where its fields are in their ranges, by its kind and span. The
-- sixteen, which every record has, hold the fields that have a range.
use Rattle.std.specs.Prelude.{ℕ, ◌+◌, ◌-◌, ◌*◌, ◌/◌, ◌%◌, ◌^◌, cond}
use Rattle.model.specs.Layouts.{Field}
use Rattle.model.specs.Mappings.{guest_physical, wide, global_marked, span_in_range, pages}
use Rattle.kinds.specs.Places.{place_of}

-- "Global is 0 or 1."
abbrev pub global_mask : ℕ → ℕ
global_mask kind = cond (global_marked kind) 0xFE 0

-- "PCID is at most 4,095."
abbrev pub pcid_mask : ℕ → ℕ
pcid_mask kind = cond (guest_physical kind) 0 0xF000

-- "Page is a multiple of 2^(9s)." "Page is below 2^36.", for kinds 7 to 10 "below 2^45": the high bits of five bytes or six
abbrev pub page_mask : ℕ → ℕ → ℕ
page_mask kind span = (pages span - 1) + cond (wide kind) (2 ^ 48 - 2 ^ 45) (2 ^ 40 - 2 ^ 36)

-- each field's at its place. Where the span itself is out of its range it is that of the kind byte, which is not 0.
unfoldable pub mask : ℕ → ℕ → ℕ
mask kind span =
    cond (span_in_range kind span) (global_mask kind * 2 ^ 40 + pcid_mask kind * 2 ^ 24 + page_mask kind span * 2 ^ (8 * (place_of Field.span kind + 1))) 0xFF

-- the masks of the kinds from 1 on in one row, five for each, by the spans from 0 to 4
abbrev pub mask_at : ℕ → ℕ
mask_at i = mask (1 + i / 5) (i % 5)
