-- Which bits of a row are 0 where it is good, by its kind and span. Each number has a bound, a power of 2: the mask of its
-- column has the bits from there on. "Unused fields zero": where the kind lacks the field, the bound is 1.
use Rattle.std.specs.Prelude.{ℕ, ◌+◌, ◌-◌, ◌*◌, ◌/◌, ◌%◌, ◌^◌, cond}
use Rattle.model.specs.Mappings.{guest_physical, linear, wide, global_marked, span_in_range, pages}

-- "Global is 0 or 1."
abbrev pub global_bound : ℕ → ℕ
global_bound kind = cond (global_marked kind) 2 1

-- VPIDs are any 2 bytes
abbrev pub vpid_bound : ℕ → ℕ
vpid_bound kind = cond (guest_physical kind) 1 65536

-- "PCID is at most 4,095."
abbrev pub pcid_bound : ℕ → ℕ
pcid_bound kind = cond (guest_physical kind) 1 4096

-- "Page is below 2^36.", for kinds 7 to 10 "below 2^45"
abbrev pub page_bound : ℕ → ℕ
page_bound kind = cond (wide kind) (2 ^ 45) (2 ^ 36)

-- frames and structures are any 5 bytes, and so are EP4TAs
abbrev pub frame_bound : ℕ
frame_bound = 2 ^ 40

abbrev pub ep4ta_bound : ℕ → ℕ
ep4ta_bound kind = cond (linear kind) 1 (2 ^ 40)

-- the first eight bytes: nothing of kind and span, then global mark, zero byte, VPID and PCID. Where the span itself is out
-- of its range it is the mask of the kind byte, which is not 0.
unfoldable pub first_mask : ℕ → ℕ → ℕ
first_mask kind span =
    cond (span_in_range kind span)
    ((2 ^ 8 - global_bound kind) * 2 ^ 16 + 0xFF * 2 ^ 24 + (2 ^ 16 - vpid_bound kind) * 2 ^ 32 + (2 ^ 16 - pcid_bound kind) * 2 ^ 48)
    0xFF

-- the page, whose low bits are 0 too: "Page is a multiple of 2^(9s)."
unfoldable pub page_mask : ℕ → ℕ → ℕ
page_mask kind span = cond (span_in_range kind span) ((pages span - 1) + (2 ^ 64 - page_bound kind)) 0

abbrev pub frame_mask : ℕ
frame_mask = 2 ^ 64 - frame_bound

unfoldable pub ep4ta_mask : ℕ → ℕ → ℕ
ep4ta_mask kind span = cond (span_in_range kind span) (2 ^ 64 - ep4ta_bound kind) 0

-- the masks of the kinds from 1 on in one row, five for each, by the spans from 0 to 4
abbrev pub first_mask_at : ℕ → ℕ
first_mask_at i = first_mask (1 + i / 5) (i % 5)

abbrev pub page_mask_at : ℕ → ℕ
page_mask_at i = page_mask (1 + i / 5) (i % 5)

abbrev pub ep4ta_mask_at : ℕ → ℕ
ep4ta_mask_at i = ep4ta_mask (1 + i / 5) (i % 5)
