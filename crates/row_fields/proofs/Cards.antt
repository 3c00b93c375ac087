-- Rows about one row and one record (document 02, Ask 11), all under one statement.
use Rattle.std.specs.Prelude.{ℕ, ◌-◌, ◌^◌, true, false, List, [], ◌∷◌, ◌++◌, map, ◌≡◌, refl, length, replicate}
use Rattle.model.specs.Bits.{bytes}
use Rattle.model.specs.Buffers.{put}
use Rattle.model.specs.Layouts.{kind_of, mapping_kind, body_of, length_of, field}
use Rattle.model.specs.Mappings.{mapping, linear, guest_physical, combined, structure_cache, wide, other_width, global_marked, fields_in_range, starts_record}
use Rattle.row_fields.specs.Fields.{written}
use Rattle.row_fields.specs.Rows.{row, row_of, column, named, record_of, fits, good_row, named_length}

-- VPID and PCID, a frame and an EP4TA, in bytes that all differ; and five bytes of a row behind a frame or an EP4TA
tags : List ℕ
tags = 0x11 ∷ 0x22 ∷ 0x33 ∷ 0x04 ∷ []

frame : List ℕ
frame = 0xF1 ∷ 0xF2 ∷ 0xF3 ∷ 0xF4 ∷ 0xF5 ∷ []

ep4ta : List ℕ
ep4ta = 0xE1 ∷ 0xE2 ∷ 0xE3 ∷ 0xE4 ∷ 0xE5 ∷ []

-- pages: multiples of 2^18 and 2^27 with 36 bits, of 2^18 and 2^36 with 45
page_2 : List ℕ
page_2 = 0 ∷ 0 ∷ 0xA4 ∷ 0xA5 ∷ 0x0A ∷ []

page_3 : List ℕ
page_3 = 0 ∷ 0 ∷ 0 ∷ 0xA8 ∷ 0x0B ∷ []

wide_2 : List ℕ
wide_2 = 0 ∷ 0 ∷ 0xB4 ∷ 0xB5 ∷ 0xB6 ∷ 0x1A ∷ []

wide_4 : List ℕ
wide_4 = 0 ∷ 0 ∷ 0 ∷ 0 ∷ 0xB0 ∷ 0x1B ∷ []

-- the ten kinds as records
in_table : List (List ℕ)
in_table =
    (1 ∷ tags ++ (1 ∷ 2 ∷ []) ++ page_2 ++ frame)
    ∷ (2 ∷ ep4ta ++ (2 ∷ []) ++ page_2 ++ frame)
    ∷ (3 ∷ tags ++ (1 ∷ 2 ∷ []) ++ page_2 ++ frame ++ ep4ta)
    ∷ (4 ∷ tags ++ (3 ∷ []) ++ page_3 ++ frame)
    ∷ (5 ∷ ep4ta ++ (3 ∷ []) ++ page_3 ++ frame)
    ∷ (6 ∷ tags ++ (3 ∷ []) ++ page_3 ++ frame ++ ep4ta)
    ∷ (7 ∷ tags ++ (1 ∷ 2 ∷ []) ++ wide_2 ++ frame)
    ∷ (8 ∷ tags ++ (1 ∷ 2 ∷ []) ++ wide_2 ++ frame ++ ep4ta)
    ∷ (9 ∷ tags ++ (4 ∷ []) ++ wide_4 ++ frame)
    ∷ (10 ∷ tags ++ (4 ∷ []) ++ wide_4 ++ frame ++ ep4ta)
    ∷ []

-- and as rows: kind, span, global, zero, then what stands above, each filled up with zeros
zeros : ℕ → List ℕ
zeros n = replicate n 0

tags_none : List ℕ
tags_none = zeros 4

narrow : List ℕ → List ℕ → List ℕ
narrow page last = page ++ zeros 3 ++ frame ++ zeros 3 ++ last

wider : List ℕ → List ℕ → List ℕ
wider page last = page ++ zeros 2 ++ frame ++ zeros 3 ++ last

last_ep4ta : List ℕ
last_ep4ta = ep4ta ++ zeros 3

row_1 : List ℕ
row_1 = 1 ∷ 2 ∷ 1 ∷ 0 ∷ tags ++ narrow page_2 (zeros 8)

row_2 : List ℕ
row_2 = 2 ∷ 2 ∷ 0 ∷ 0 ∷ tags_none ++ narrow page_2 last_ep4ta

row_3 : List ℕ
row_3 = 3 ∷ 2 ∷ 1 ∷ 0 ∷ tags ++ narrow page_2 last_ep4ta

row_4 : List ℕ
row_4 = 4 ∷ 3 ∷ 0 ∷ 0 ∷ tags ++ narrow page_3 (zeros 8)

row_5 : List ℕ
row_5 = 5 ∷ 3 ∷ 0 ∷ 0 ∷ tags_none ++ narrow page_3 last_ep4ta

row_6 : List ℕ
row_6 = 6 ∷ 3 ∷ 0 ∷ 0 ∷ tags ++ narrow page_3 last_ep4ta

row_7 : List ℕ
row_7 = 7 ∷ 2 ∷ 1 ∷ 0 ∷ tags ++ wider wide_2 (zeros 8)

row_8 : List ℕ
row_8 = 8 ∷ 2 ∷ 1 ∷ 0 ∷ tags ++ wider wide_2 last_ep4ta

row_9 : List ℕ
row_9 = 9 ∷ 4 ∷ 0 ∷ 0 ∷ tags ++ wider wide_4 (zeros 8)

row_10 : List ℕ
row_10 = 10 ∷ 4 ∷ 0 ∷ 0 ∷ tags ++ wider wide_4 last_ep4ta

in_rows : List (List ℕ)
in_rows = row_1 ∷ row_2 ∷ row_3 ∷ row_4 ∷ row_5 ∷ row_6 ∷ row_7 ∷ row_8 ∷ row_9 ∷ row_10 ∷ []

-- a row with another number of so many bytes at a position
changed : ℕ → ℕ → ℕ → List ℕ → List ℕ
changed at n x r = put at (bytes n x) r

-- the byte at a position set in a list of rows
set_at : ℕ → List (List ℕ) → List (List ℕ)
set_at at rows = map (changed at 1 1) rows

-- Every row holds.
record Rows : Type 0 where
  out : map row_of in_table ≡ in_rows
  back : map (λ r. record_of (named r)) in_rows ≡ in_table
  lengths : map length in_rows ≡ replicate 10 32
  -- kinds 1, 3, 4 and 6 are good at 48, 7 to 10 at 57, 2 and 5 at both
  at_48 : map (good_row 48) in_rows ≡ true ∷ true ∷ true ∷ true ∷ true ∷ true ∷ false ∷ false ∷ false ∷ false ∷ []
  at_57 : map (good_row 57) in_rows ≡ false ∷ true ∷ false ∷ false ∷ true ∷ false ∷ true ∷ true ∷ true ∷ true ∷ []
  long_48 : map (named_length 48) in_rows ≡ 17 ∷ 17 ∷ 22 ∷ 16 ∷ 17 ∷ 21 ∷ 0 ∷ 0 ∷ 0 ∷ 0 ∷ []
  unknown : map (good_row 48) (changed 0 1 0 row_1 ∷ changed 0 1 11 row_1 ∷ changed 0 1 16 row_1 ∷ changed 0 1 255 row_1 ∷ []) ≡ replicate 4 false
  -- the zero byte
  zero_48 : map (good_row 48) (set_at 3 in_rows) ≡ replicate 10 false
  zero_57 : map (good_row 57) (set_at 3 in_rows) ≡ replicate 10 false
  -- unused fields, their first and last bytes: EP4TA of kinds 1, 4, 7 and 9; global mark of 2, 5, 4, 6, 9 and 10; VPID and
  -- PCID of 2 and 5
  ep4ta_48 : map (good_row 48) (set_at 24 (row_1 ∷ row_4 ∷ []) ++ set_at 31 (row_1 ∷ row_4 ∷ [])) ≡ replicate 4 false
  ep4ta_57 : map (good_row 57) (set_at 24 (row_7 ∷ row_9 ∷ []) ++ set_at 31 (row_7 ∷ row_9 ∷ [])) ≡ replicate 4 false
  global_48 : map (good_row 48) (set_at 2 (row_2 ∷ row_4 ∷ row_5 ∷ row_6 ∷ [])) ≡ replicate 4 false
  global_57 : map (good_row 57) (set_at 2 (row_2 ∷ row_5 ∷ row_9 ∷ row_10 ∷ [])) ≡ replicate 4 false
  tags_48 : map (good_row 48) (set_at 4 (row_2 ∷ row_5 ∷ []) ++ set_at 5 (row_2 ∷ row_5 ∷ []) ++ set_at 6 (row_2 ∷ row_5 ∷ []) ++ set_at 7 (row_2 ∷ row_5 ∷ [])) ≡ replicate 8 false
  -- a number is not cut: the largest that its field holds, one more, and 2^63
  frames : map (good_row 48) (changed 16 8 (2 ^ 40 - 1) row_1 ∷ changed 16 8 (2 ^ 40) row_1 ∷ changed 16 8 (2 ^ 63) row_1 ∷ []) ≡ true ∷ false ∷ false ∷ []
  ep4tas : map (good_row 48) (changed 24 8 (2 ^ 40 - 1) row_2 ∷ changed 24 8 (2 ^ 40) row_2 ∷ changed 24 8 (2 ^ 63) row_2 ∷ []) ≡ true ∷ false ∷ false ∷ []
  pages : map (good_row 48) (changed 8 8 (2 ^ 36 - 2 ^ 18) row_1 ∷ changed 8 8 (2 ^ 36) row_1 ∷ changed 8 8 (2 ^ 40) row_1 ∷ changed 8 8 (2 ^ 63) row_1 ∷ []) ≡ true ∷ false ∷ false ∷ false ∷ []
  wide_pages : map (good_row 57) (changed 8 8 (2 ^ 45 - 2 ^ 36) row_9 ∷ changed 8 8 (2 ^ 45) row_9 ∷ changed 8 8 (2 ^ 48) row_9 ∷ changed 8 8 (2 ^ 63) row_9 ∷ []) ≡ true ∷ false ∷ false ∷ false ∷ []
  physical_pages : map (good_row 57) (changed 8 8 (2 ^ 36 - 2 ^ 18) row_2 ∷ changed 8 8 (2 ^ 36) row_2 ∷ changed 8 8 (2 ^ 45 - 2 ^ 36) row_2 ∷ []) ≡ true ∷ false ∷ false ∷ []
  -- no valid record: PCID above 4,095, global mark 2, a span out of its range, a page that is no multiple
  pcids : map (good_row 48) (changed 6 2 4095 row_1 ∷ changed 6 2 4096 row_1 ∷ []) ≡ true ∷ false ∷ []
  marks : map (good_row 48) (changed 2 1 0 row_1 ∷ changed 2 1 2 row_1 ∷ []) ≡ true ∷ false ∷ []
  spans : map (good_row 48) (changed 1 1 1 row_1 ∷ changed 1 1 3 row_1 ∷ changed 1 1 0 row_4 ∷ changed 1 1 4 row_4 ∷ []) ≡ true ∷ false ∷ false ∷ false ∷ []
  uneven : map (good_row 48) (changed 8 1 1 row_1 ∷ changed 10 1 1 row_1 ∷ []) ≡ false ∷ false ∷ []

cards_hold : Rows
unfolding tags frame ep4ta page_2 page_3 wide_2 wide_4 in_table zeros tags_none narrow wider last_ep4ta row_1 row_2 row_3 row_4 row_5 row_6 row_7 row_8 row_9 row_10 in_rows changed set_at bytes put kind_of mapping_kind body_of length_of field mapping linear guest_physical combined structure_cache wide other_width global_marked fields_in_range starts_record written row column named record_of fits good_row named_length
cards_hold =
    record {
      out = refl;
      back = refl;
      lengths = refl;
      at_48 = refl;
      at_57 = refl;
      long_48 = refl;
      unknown = refl;
      zero_48 = refl;
      zero_57 = refl;
      ep4ta_48 = refl;
      ep4ta_57 = refl;
      global_48 = refl;
      global_57 = refl;
      tags_48 = refl;
      frames = refl;
      ep4tas = refl;
      pages = refl;
      wide_pages = refl;
      physical_pages = refl;
      pcids = refl;
      marks = refl;
      spans = refl;
      uneven = refl;
    }
