-- Rows about the lookup in two tables (document 02, Ask 10), all under one statement.
use Rattle.std.specs.Prelude.{ℕ, Bool, true, false, List, [], ◌∷◌, ◌++◌, map, ◌≡◌, refl}
use Rattle.model.specs.declared.Context.{Context}
use Rattle.model.specs.declared.Place.TheVariants.{Root, Guest}
use Rattle.model.specs.declared.Ept.{Ept}
use Rattle.model.specs.declared.Ept.TheVariants.{Off, On}
use Rattle.model.specs.Bits.{bytes}
use Rattle.model.specs.Context.{in_range}
use Rattle.model.specs.Layouts.{kind_of, mapping_kind, body_of, length_of, field}
use Rattle.model.specs.Mappings.{mapping, linear, guest_physical, combined, structure_cache, wide, other_width, global_marked, fields_in_range, starts_record, record_length, covers}
use Rattle.model.specs.Tables.{joined, cut, records_within, records, whole, of_width, only}
use Rattle.model.specs.Events.{canonical}
use Rattle.model.specs.Answers.{first, valid_table, table_grounds}
use Rattle.model.specs.Lookups.{translates_linear, usable, lookup_answer, start_of}
use Rattle.level_lookups.specs.Levels.{usable_translation, usable_translations, lookup_levels_answer, lookup_levels_level, lookup_levels, lookup_levels_start, FoundIn, found_in}

-- a guest of VPID 5 and PCID 1, at a linear width, with an EPT state; and a CPL out of its range
guest : ℕ → Ept → Context
guest width ept = record { capability = 0x0F0106304140; width = 52; linear_width = width; pcid = 1; cpl = 0; place = Guest (record { vpid = 5; ept = ept }) }

out_of_range : Context
out_of_range = record { capability = 0; width = 52; linear_width = 48; pcid = 1; cpl = 4; place = Root }

-- records that cover page 12345h; a translation with a PCID, a global mark and a frame that tells it from others
translation : ℕ → ℕ → ℕ → ℕ → List ℕ
translation kind pcid global frame = kind ∷ bytes 2 5 ++ bytes 2 pcid ++ (global ∷ 0 ∷ []) ++ bytes 5 0x12345 ++ bytes 5 frame

combined_translation : ℕ → List ℕ
combined_translation ep4ta = translation 3 1 0 7 ++ bytes 5 ep4ta

structure : ℕ → List ℕ
structure frame = 4 ∷ bytes 2 5 ++ bytes 2 1 ++ (1 ∷ []) ++ bytes 5 0x12200 ++ bytes 5 frame

combined_structure : List ℕ
combined_structure = 6 ∷ bytes 2 5 ++ bytes 2 1 ++ (1 ∷ []) ++ bytes 5 0x12200 ++ bytes 5 9 ++ bytes 5 0x1234567

guest_physical_translation : List ℕ
guest_physical_translation = 2 ∷ bytes 5 0x1234567 ++ (0 ∷ []) ++ bytes 5 0x12345 ++ bytes 5 7

wide_translation : List ℕ
wide_translation = 7 ∷ bytes 2 5 ++ bytes 2 1 ++ (0 ∷ 0 ∷ []) ++ bytes 6 0x12345 ++ bytes 5 7

wide_combined_translation : List ℕ
wide_combined_translation = 8 ∷ bytes 2 5 ++ bytes 2 1 ++ (0 ∷ 0 ∷ []) ++ bytes 6 0x12345 ++ bytes 5 7 ++ bytes 5 0x1234567

wide_structure : List ℕ
wide_structure = 9 ∷ bytes 2 5 ++ bytes 2 1 ++ (1 ∷ []) ++ bytes 6 0x12200 ++ bytes 5 7

wide_combined_structure : List ℕ
wide_combined_structure = 10 ∷ bytes 2 5 ++ bytes 2 1 ++ (1 ∷ []) ++ bytes 6 0x12200 ++ bytes 5 7 ++ bytes 5 0x1234567

A : List ℕ
A = translation 1 1 0 0xABCDE

B : List ℕ
B = translation 1 1 0 0xBBBBB

-- the address of the page
here : ℕ
here = 0x12345678

found : ℕ → ℕ → ℕ → ℕ → FoundIn
found answer level start end = record { answer = answer; level = level; start = start; end = end }

-- which kinds of records are usable translations, with EPT off and on
of_each : Context → List Bool
of_each c =
    map (λ r. usable_translation c here (mapping r))
    (A
    ∷ guest_physical_translation
    ∷ combined_translation 0x1234567
    ∷ structure 9
    ∷ combined_structure
    ∷ wide_translation
    ∷ wide_combined_translation
    ∷ wide_structure
    ∷ wide_combined_structure
    ∷ [])

-- Every row holds.
record Rows : Type 0 where
  -- kinds 1 and 7 with EPT off, 3 and 8 with EPT on
  off : of_each (guest 48 Off) ≡ true ∷ false ∷ false ∷ false ∷ false ∷ true ∷ false ∷ false ∷ false ∷ []
  on : of_each (guest 48 (On 0x1234567)) ≡ false ∷ false ∷ true ∷ false ∷ false ∷ false ∷ true ∷ false ∷ false ∷ []
  -- from the first table though the second has one; a structure cache and a record of another PCID before it are skipped;
  -- one that is global is taken
  from_first : found_in (guest 48 Off) here (structure 9 ++ A) B ≡ found 0 1 16 33
  part_of_first : lookup_levels (guest 48 Off) here (structure 9 ++ A) B ≡ A
  another_pcid : found_in (guest 48 Off) here (translation 1 2 0 7 ++ A) B ≡ found 0 1 17 34
  global : found_in (guest 48 Off) here (translation 1 2 1 7 ++ A) B ≡ found 0 1 0 17
  -- the first of two
  first_of_two : lookup_levels (guest 48 Off) here (A ++ B) [] ≡ A
  -- from the second where the first has structure caches alone, or nothing
  from_second : found_in (guest 48 Off) here (structure 9) (structure 8 ++ B ++ A) ≡ found 0 2 16 33
  part_of_second : lookup_levels (guest 48 Off) here (structure 9) (structure 8 ++ B ++ A) ≡ B
  beside_nothing : found_in (guest 48 Off) here [] B ≡ found 0 2 0 17
  -- none: only structure caches, two empty tables, another page, an address that is not canonical
  no_translation : found_in (guest 48 Off) here (structure 9) (structure 8) ≡ found 0 0 0 0
  empty : found_in (guest 48 Off) here [] [] ≡ found 0 0 0 0
  next_page : found_in (guest 48 Off) 0x12346000 A B ≡ found 0 0 0 0
  not_canonical : found_in (guest 48 Off) 0x0000800012345678 A B ≡ found 0 0 0 0
  -- at 57 bits
  wide_first : found_in (guest 57 Off) here (wide_structure ++ wide_translation) [] ≡ found 0 1 17 35
  wide_second : found_in (guest 57 (On 0x1234567)) here wide_combined_structure wide_combined_translation ≡ found 0 2 0 23
  -- an invalid second table empties the lookup though the first has a translation, and the other way round; records of
  -- the other width are invalid
  second_refused : found_in (guest 48 Off) here A (B ++ (1 ∷ [])) ≡ found 3 0 0 0
  second_refused_part : lookup_levels (guest 48 Off) here A (B ++ (1 ∷ [])) ≡ []
  first_refused : found_in (guest 48 Off) here (A ++ (1 ∷ [])) B ≡ found 3 0 0 0
  other_width : found_in (guest 48 Off) here A wide_translation ≡ found 3 0 0 0
  -- the first table's number goes before the second's, whatever that is
  first_told : (u : List ℕ) → lookup_levels_answer (guest 48 Off) (A ++ (1 ∷ [])) u ≡ 3
  context_told : (t u : List ℕ) → lookup_levels_answer out_of_range t u ≡ 1

cards_hold : Rows
unfolding guest out_of_range translation combined_translation structure combined_structure guest_physical_translation wide_translation wide_combined_translation wide_structure wide_combined_structure A B here found of_each bytes in_range kind_of mapping_kind body_of length_of field mapping linear guest_physical combined structure_cache wide other_width global_marked fields_in_range starts_record record_length covers joined cut records_within records whole of_width only canonical first valid_table table_grounds translates_linear usable lookup_answer start_of usable_translation usable_translations lookup_levels_answer lookup_levels_level lookup_levels lookup_levels_start found_in
cards_hold =
    record {
      off = refl;
      on = refl;
      from_first = refl;
      part_of_first = refl;
      another_pcid = refl;
      global = refl;
      first_of_two = refl;
      from_second = refl;
      part_of_second = refl;
      beside_nothing = refl;
      no_translation = refl;
      empty = refl;
      next_page = refl;
      not_canonical = refl;
      wide_first = refl;
      wide_second = refl;
      second_refused = refl;
      second_refused_part = refl;
      first_refused = refl;
      other_width = refl;
      first_told = λ u. refl;
      context_told = λ t u. refl;
    }
