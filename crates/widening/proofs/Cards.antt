-- Rows about the converter (document 02, Ask 12), all under one statement.
use Rattle.std.specs.Prelude.{ℕ, min, ◌-◌, ◌*◌, ◌^◌, ◌≤◌, true, false, cond, not, List, [], ◌∷◌, ◌++◌, map, ◌≡◌, refl, ltb, length, replicate}
use Rattle.std.proofs.Common.{ap, ◌∙◌, arith, le-ltb}
use Rattle.model.specs.Bits.{bytes}
use Rattle.model.specs.Buffers.{put}
use Rattle.model.specs.Layouts.{kind_of, mapping_kind, body_of, length_of, field}
use Rattle.model.specs.Mappings.{mapping, linear, guest_physical, combined, structure_cache, wide, other_width, global_marked, fields_in_range, starts_record, record_length}
use Rattle.model.specs.Tables.{joined, cut, records_within, records, whole, of_width}
use Rattle.model.specs.Answers.{first, valid_table}
use Rattle.laws.specs.Lists.{every_repeated, map_repeated}
use Rattle.laws.specs.Mappings.{Valid}
use Rattle.laws.specs.Tables.{records_joined, joined_whole, length_repeated}
use Rattle.laws.specs.Answers.{valid_table_made}
use Rattle.widening.specs.Widening.{widened_kind, widened_page, rewritten, widened, widened_table, widening_grounds, widening_answer, widening, widening_written}

-- what stands before and behind the page, in bytes that all differ: VPID, PCID, global and span, then the frame; and an
-- EP4TA
before : List ℕ
before = 0x11 ∷ 0x22 ∷ 0x33 ∷ 0x04 ∷ 1 ∷ 0 ∷ []

before_structure : List ℕ
before_structure = 0x11 ∷ 0x22 ∷ 0x33 ∷ 0x04 ∷ 1 ∷ []

behind : List ℕ
behind = 0xF1 ∷ 0xF2 ∷ 0xF3 ∷ 0xF4 ∷ 0xF5 ∷ []

tag : List ℕ
tag = 0xE1 ∷ 0xE2 ∷ 0xE3 ∷ 0xE4 ∷ 0xE5 ∷ []

-- kinds 1, 3, 4 and 6 with a page, and what becomes of them
narrow : ℕ → List (List ℕ)
narrow page =
    (1 ∷ before ++ bytes 5 page ++ behind)
    ∷ (3 ∷ before ++ bytes 5 page ++ behind ++ tag)
    ∷ (4 ∷ before_structure ++ bytes 5 page ++ behind)
    ∷ (6 ∷ before_structure ++ bytes 5 page ++ behind ++ tag)
    ∷ []

wider : ℕ → List (List ℕ)
wider page =
    (7 ∷ before ++ bytes 6 page ++ behind)
    ∷ (8 ∷ before ++ bytes 6 page ++ behind ++ tag)
    ∷ (9 ∷ before_structure ++ bytes 6 page ++ behind)
    ∷ (10 ∷ before_structure ++ bytes 6 page ++ behind ++ tag)
    ∷ []

-- kinds 2 and 5, with a page in the upper half
physical : List (List ℕ)
physical = (2 ∷ tag ++ (0 ∷ []) ++ bytes 5 (2 ^ 36 - 1) ++ behind) ∷ (5 ∷ tag ++ (1 ∷ []) ++ bytes 5 (2 ^ 35) ++ behind) ∷ []

-- the table of a linear and a guest-physical record, and what is made of it
old : List ℕ
old = joined ((1 ∷ before ++ bytes 5 (2 ^ 36 - 1) ++ behind) ∷ physical)

new : List ℕ
new = joined ((7 ∷ before ++ bytes 6 (2 ^ 45 - 1) ++ behind) ∷ physical)

-- Every row holds.
record Rows : Type 0 where
  -- kinds 1, 3, 4 and 6 become 7 to 10, and any other number stays
  kinds : map widened_kind (0 ∷ 1 ∷ 2 ∷ 3 ∷ 4 ∷ 5 ∷ 6 ∷ 7 ∷ 8 ∷ 9 ∷ 10 ∷ 11 ∷ []) ≡ 0 ∷ 7 ∷ 2 ∷ 8 ∷ 9 ∷ 5 ∷ 10 ∷ 7 ∷ 8 ∷ 9 ∷ 10 ∷ 11 ∷ []
  -- the last page of the lower half stays, the first of the upper half gains, and the last
  pages : map widened_page (0 ∷ (2 ^ 35 - 1) ∷ 2 ^ 35 ∷ (2 ^ 36 - 1) ∷ []) ≡ 0 ∷ (2 ^ 35 - 1) ∷ (2 ^ 45 - 2 ^ 35) ∷ (2 ^ 45 - 1) ∷ []
  lower : map widened (narrow (2 ^ 35 - 2 ^ 9)) ≡ wider (2 ^ 35 - 2 ^ 9)
  upper : map widened (narrow (2 ^ 35)) ≡ wider (2 ^ 45 - 2 ^ 35)
  others : map widened physical ≡ physical
  table : widened_table old ≡ new
  none : widened_table [] ≡ []
  -- room for exactly the result, and one byte less; what is behind it stays
  accepted : widening old 52 ≡ record { answer = 0; length = 52 }
  wrote : widening_written old (replicate 54 0xEE) ≡ new ++ (0xEE ∷ 0xEE ∷ [])
  no_room : widening old 51 ≡ record { answer = 12; length = 0 }
  unwritten : widening_written old (replicate 51 0xEE) ≡ replicate 51 0xEE
  -- 2 and 3: a table of one byte more than the limit, a cut one, and one of 57 bits
  long : widening_answer (replicate 47105 0) 50000 ≡ 2
  bad : widening_answer (replicate 47104 0) 50000 ≡ 3
  cut_short : widening_answer (old ++ (1 ∷ [])) 50000 ≡ 3
  wide_already : widening_answer new 50000 ≡ 3
  -- 2 and 3 before 12: there is no room for a result either
  long_first : widening_answer (replicate 47105 0) 0 ≡ 2
  bad_first : widening_answer (old ++ (1 ∷ [])) 0 ≡ 3
  wide_first : widening_answer new 0 ≡ 3

cards_hold : Rows
unfolding bytes put before before_structure behind tag narrow wider physical old new kind_of mapping_kind body_of length_of field mapping linear guest_physical combined structure_cache wide other_width global_marked fields_in_range starts_record record_length joined cut records_within records whole of_width first valid_table rewritten widened widened_table widening_grounds widening_answer widening widening_written
cards_hold =
    record {
      kinds = refl;
      pages = refl;
      lower = refl;
      upper = refl;
      others = refl;
      table = refl;
      none = refl;
      accepted = refl;
      wrote = refl;
      no_room = refl;
      unwritten = refl;
      long = refl;
      bad = refl;
      cut_short = refl;
      wide_already = refl;
      long_first = refl;
      bad_first = refl;
      wide_first = refl;
    }

-- 12 where the result is longer than the limit, whatever the buffer: 2,771 records of kind 4 are 44,336 bytes, and of
-- kind 9 47,107; with 2,770 it is accepted.
one : List ℕ
one = 4 ∷ before_structure ++ bytes 5 512 ++ behind

one_valid : Valid one
unfolding one before_structure behind bytes kind_of mapping_kind body_of length_of field mapping linear guest_physical combined structure_cache wide global_marked fields_in_range starts_record record_length
one_valid = record { exact = refl; filled = omega arith }

one_own : not (other_width 48 (kind_of one)) ≡ true
unfolding one before_structure kind_of linear combined wide other_width
one_own = refl

length_one : (length one ≡ 16) × (length (widened one) ≡ 17)
unfolding one before_structure behind bytes kind_of body_of field linear combined wide other_width rewritten widened
length_one = (refl, refl)

many_answered : (n room : ℕ) → n ≤ 2944 → widening_answer (joined (replicate n one)) room ≡ cond (ltb (min room 47104) (n * 17)) 12 0
unfolding widening_answer widening_grounds widened_table first
many_answered n room few =
    let t = joined (replicate n one) in
    let each : records t ≡ replicate n one = records_joined (every_repeated n one one_valid) in
    let valid : valid_table 48 t ≡ true =
    valid_table_made 48 t (joined_whole (every_repeated n one one_valid)) (rw each (every_repeated n one one_own)) in
    let short : ltb 47104 (length t) ≡ false = le-ltb 47104 (length t) (omega (arith, length_repeated n one ∙ ap (λ k. n * k) length_one.0)) in
    let long : length (joined (map widened (records t))) ≡ n * 17 =
    rw (each, map_repeated widened n one) (length_repeated n (widened one) ∙ ap (λ k. n * k) length_one.1) in
    rw (short, valid, long)

over_limit : widening_answer (joined (replicate 2771 one)) 100000 ≡ 12
over_limit = many_answered 2771 100000 (omega arith)

under_limit : widening_answer (joined (replicate 2770 one)) 100000 ≡ 0
under_limit = many_answered 2770 100000 (omega arith)
