-- Rows about export and import (document 02, Ask 11, and Ask 12 on row calls), all under one statement.
use Rattle.std.specs.Prelude.{ℕ, zero, suc, min, ◌+◌, ◌*◌, ◌%◌, ◌≤◌, true, false, cond, List, [], ◌∷◌, ◌++◌, ◌≡◌, refl, ltb, length, replicate}
use Rattle.std.proofs.Common.{ap, ◌∙◌, arith, le-ltb}
use Rattle.std.proofs.lemmas.List.{length-replicate}
use Rattle.model.specs.Bits.{bytes}
use Rattle.model.specs.Buffers.{put}
use Rattle.model.specs.Layouts.{kind_of, mapping_kind, body_of, length_of, field}
use Rattle.model.specs.Mappings.{mapping, linear, guest_physical, combined, structure_cache, wide, other_width, global_marked, fields_in_range, starts_record, record_length}
use Rattle.model.specs.Tables.{joined, cut, records_within, records, whole, of_width}
use Rattle.model.specs.Answers.{first, valid_table}
use Rattle.laws.specs.Lists.{every_repeated, map_repeated}
use Rattle.laws.specs.Mappings.{Valid}
use Rattle.laws.specs.Tables.{records_joined, joined_whole, length_repeated}
use Rattle.laws.specs.Answers.{OfWidth, valid_table_made}
use Rattle.row_fields.specs.Fields.{written}
use Rattle.row_fields.specs.Rows.{row, column, named, record_of, fits, good_row}
use Rattle.fixed_rows.specs.declared.Converted.{Converted}
use Rattle.fixed_rows.specs.FixedRows.{exported, export_grounds, export_answer, exporting, exporting_written, rows_within, rows_in, first_bad_from, first_bad, record_named, imported, import_grounds, import_answer, importing, importing_written}
use Rattle.fixed_rows.proofs.Laws.Answers.{length_exported}
use Rattle.fixed_rows.proofs.Laws.RoundTrips.{Long, length_of_rows, rows_joined}

-- two records, of kinds 6 and 5, in bytes that all differ, and their rows
tags : List ℕ
tags = 0x11 ∷ 0x22 ∷ 0x33 ∷ 0x04 ∷ []

behind : List ℕ
behind = 0xF1 ∷ 0xF2 ∷ 0xF3 ∷ 0xF4 ∷ 0xF5 ∷ []

ep4ta : List ℕ
ep4ta = 0xE1 ∷ 0xE2 ∷ 0xE3 ∷ 0xE4 ∷ 0xE5 ∷ []

page : List ℕ
page = 0 ∷ 0xA2 ∷ 0xA3 ∷ 0xA4 ∷ 0x0A ∷ []

zeros : ℕ → List ℕ
zeros n = replicate n 0

row_5 : List ℕ
row_5 = 5 ∷ 1 ∷ 0 ∷ 0 ∷ zeros 4 ++ page ++ zeros 3 ++ behind ++ zeros 3 ++ ep4ta ++ zeros 3

row_6 : List ℕ
row_6 = 6 ∷ 1 ∷ 0 ∷ 0 ∷ tags ++ page ++ zeros 3 ++ behind ++ zeros 3 ++ ep4ta ++ zeros 3

-- a table of 48 bits of 38 bytes, and its rows, in its order
table : List ℕ
table = (6 ∷ tags ++ (1 ∷ []) ++ page ++ behind ++ ep4ta) ++ (5 ∷ ep4ta ++ (1 ∷ []) ++ page ++ behind)

rows : List ℕ
rows = row_6 ++ row_5

-- the second row, and both, with the zero byte set
bad : List ℕ
bad = put 35 (1 ∷ []) rows

bad_both : List ℕ
bad_both = put 3 (1 ∷ []) bad

-- the kind of 57 bits in place of kind 6
wide_table : List ℕ
wide_table = (10 ∷ tags ++ (1 ∷ []) ++ page ++ (0 ∷ []) ++ behind ++ ep4ta) ++ (5 ∷ ep4ta ++ (1 ∷ []) ++ page ++ behind)

wide_rows : List ℕ
wide_rows = put 0 (10 ∷ []) rows

told : ℕ → ℕ → ℕ → Converted
told answer row size = record { answer = answer; row = row; length = size }

-- Every row holds.
record Rows : Type 0 where
  -- out and in, with room for exactly the result; what is behind it stays
  out : exporting 48 table 64 ≡ told 0 0 64
  out_bytes : exporting_written 48 table (replicate 66 0xEE) ≡ rows ++ (0xEE ∷ 0xEE ∷ [])
  back : importing 48 rows 38 ≡ told 0 0 38
  back_bytes : importing_written 48 rows (replicate 40 0xEE) ≡ table ++ (0xEE ∷ 0xEE ∷ [])
  out_57 : exporting 57 wide_table 64 ≡ told 0 0 64
  out_57_bytes : exporting_written 57 wide_table (replicate 64 0xEE) ≡ wide_rows
  back_57 : importing 57 wide_rows 39 ≡ told 0 0 39
  back_57_bytes : importing_written 57 wide_rows (replicate 39 0xEE) ≡ wide_table
  -- no record, no row
  out_empty : exporting 48 [] 0 ≡ told 0 0 0
  back_empty : importing 57 [] 0 ≡ told 0 0 0
  -- one byte less
  out_room : exporting 48 table 63 ≡ told 12 0 0
  out_unwritten : exporting_written 48 table (replicate 63 0xEE) ≡ replicate 63 0xEE
  back_room : importing 48 rows 37 ≡ told 12 0 0
  back_unwritten : importing_written 48 rows (replicate 37 0xEE) ≡ replicate 37 0xEE
  -- the width is judged before all else, and records of the other width are none
  out_width : exporting 49 (replicate 47105 0) 0 ≡ told 1 0 0
  back_width : importing 49 (replicate 31 0) 0 ≡ told 1 0 0
  width_0 : importing 0 rows 38 ≡ told 1 0 0
  out_other : exporting 57 table 64 ≡ told 3 0 0
  out_other_48 : exporting 48 wide_table 64 ≡ told 3 0 0
  back_other : importing 57 rows 38 ≡ told 4 1 0
  back_other_48 : importing 48 wide_rows 39 ≡ told 4 1 0
  -- 2 before 3 before 12
  out_long : exporting 48 (replicate 47105 0) 0 ≡ told 2 0 0
  out_bad : exporting 48 (table ++ (1 ∷ [])) 0 ≡ told 3 0 0
  -- a length that is no multiple of 32 before a bad row, with row 0
  back_31 : importing 48 (replicate 31 0) 0 ≡ told 4 0 0
  back_33 : importing 48 (replicate 33 0) 0 ≡ told 4 0 0
  back_65 : importing 48 (rows ++ (0 ∷ [])) 38 ≡ told 4 0 0
  -- a bad row before room, and the first of two, from 1
  back_second : importing 48 bad 0 ≡ told 4 2 0
  back_first : importing 48 bad_both 38 ≡ told 4 1 0
  back_bad_unwritten : importing_written 48 bad (replicate 40 0xEE) ≡ replicate 40 0xEE

cards_hold : Rows
unfolding tags behind ep4ta page zeros row_5 row_6 table rows bad bad_both wide_table wide_rows told bytes put kind_of mapping_kind body_of length_of field mapping linear guest_physical combined structure_cache wide other_width global_marked fields_in_range starts_record record_length joined cut records_within records whole of_width first valid_table written row column named record_of fits good_row exported export_grounds export_answer exporting exporting_written rows_within rows_in first_bad_from first_bad imported import_grounds import_answer importing importing_written
cards_hold =
    record {
      out = refl;
      out_bytes = refl;
      back = refl;
      back_bytes = refl;
      out_57 = refl;
      out_57_bytes = refl;
      back_57 = refl;
      back_57_bytes = refl;
      out_empty = refl;
      back_empty = refl;
      out_room = refl;
      out_unwritten = refl;
      back_room = refl;
      back_unwritten = refl;
      out_width = refl;
      back_width = refl;
      width_0 = refl;
      out_other = refl;
      out_other_48 = refl;
      back_other = refl;
      back_other_48 = refl;
      out_long = refl;
      out_bad = refl;
      back_31 = refl;
      back_33 = refl;
      back_65 = refl;
      back_second = refl;
      back_first = refl;
      back_bad_unwritten = refl;
    }

-- ---- the limit: it binds the table that import makes, whatever the buffer, and not the rows that export makes
one : List ℕ
one = 4 ∷ tags ++ (1 ∷ []) ++ page ++ behind

row_4 : List ℕ
row_4 = 4 ∷ 1 ∷ 0 ∷ 0 ∷ tags ++ page ++ zeros 3 ++ behind ++ zeros 3 ++ zeros 8

one_valid : Valid one
unfolding one tags behind page kind_of mapping_kind body_of length_of field mapping linear guest_physical combined structure_cache wide global_marked fields_in_range starts_record record_length
one_valid = record { exact = refl; filled = omega arith }

one_own : OfWidth 48 one
unfolding one kind_of linear combined wide other_width
one_own = refl

length_one : length one ≡ 16
unfolding one tags behind page
length_one = refl

many_exported : (n room : ℕ) → n ≤ 2944 → export_answer 48 (joined (replicate n one)) room ≡ cond (ltb room (32 * n)) 12 0
unfolding export_answer export_grounds first
many_exported n room few =
    let t = joined (replicate n one) in
    let each : records t ≡ replicate n one = records_joined (every_repeated n one one_valid) in
    let valid : valid_table 48 t ≡ true =
    valid_table_made 48 t (joined_whole (every_repeated n one one_valid)) (rw each (every_repeated n one one_own)) in
    let short : ltb 47104 (length t) ≡ false = le-ltb 47104 (length t) (omega (arith, length_repeated n one ∙ ap (λ k. n * k) length_one)) in
    let long : length (exported t) ≡ 32 * n = length_exported t ∙ rw (each, length-replicate) in
    rw (short, valid, long)

row_long : Long row_4
unfolding row_4 tags behind page zeros
row_long = refl

row_good : good_row 48 row_4 ≡ true
unfolding row_4 tags behind page zeros bytes kind_of mapping_kind body_of length_of field mapping linear guest_physical combined structure_cache wide other_width global_marked fields_in_range starts_record written column named record_of fits good_row
row_good = refl

row_named : record_named row_4 ≡ one
unfolding row_4 one tags behind page zeros bytes body_of written column named record_of
row_named = refl

clean : (k n : ℕ) → first_bad_from 48 k (replicate n row_4) ≡ 0
unfolding first_bad_from
clean k zero = refl
clean k (suc n) = rw row_good (clean (k + 1) n)

many_imported : (n room : ℕ) → import_answer 48 (joined (replicate n row_4)) room ≡ cond (ltb (min room 47104) (n * 16)) 12 0
unfolding import_answer import_grounds first first_bad imported
many_imported n room =
    let b = joined (replicate n row_4) in
    let even : length b % 32 ≡ 0 = omega (arith, length_of_rows (every_repeated n row_4 row_long)) in
    let each : rows_in b ≡ replicate n row_4 = rows_joined (every_repeated n row_4 row_long) in
    let long : length (joined (replicate n one)) ≡ n * 16 = length_repeated n one ∙ ap (λ k. n * k) length_one in
    rw (even, each, clean 1 n, map_repeated record_named n row_4, row_named, long)

-- 2,944 records of 16 bytes are the longest table, and 94,208 bytes of rows
record Limits : Type 0 where
  out : export_answer 48 (joined (replicate 2944 one)) 94208 ≡ 0
  out_short : export_answer 48 (joined (replicate 2944 one)) 94207 ≡ 12
  back : import_answer 48 (joined (replicate 2944 row_4)) 100000 ≡ 0
  back_long : import_answer 48 (joined (replicate 2945 row_4)) 100000 ≡ 12

limits_hold : Limits
limits_hold =
    record {
      out = many_exported 2944 94208 (omega arith);
      out_short = many_exported 2944 94207 (omega arith);
      back = many_imported 2944 100000;
      back_long = many_imported 2945 100000;
    }
