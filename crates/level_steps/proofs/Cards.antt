-- Rows about the step of two tables (document 02, Ask 10), all under one statement.
use Rattle.std.specs.Prelude.{ℕ, List, [], ◌∷◌, ◌++◌, ◌≡◌, refl, length, replicate}
use Rattle.std.proofs.Common.{sym, ◌∙◌, arith}
use Rattle.model.specs.declared.Context.{Context}
use Rattle.model.specs.declared.Place.{Place}
use Rattle.model.specs.declared.Place.TheVariants.{Root, Guest}
use Rattle.model.specs.declared.Ept.TheVariants.{Off}
use Rattle.model.specs.Bits.{bytes}
use Rattle.model.specs.Buffers.{put}
use Rattle.model.specs.Context.{in_range}
use Rattle.model.specs.Layouts.{kind_of, mapping_kind, event_kind, body_of, length_of, field}
use Rattle.model.specs.Mappings.{mapping, linear, guest_physical, combined, structure_cache, wide, other_width, global_marked, fields_in_range, starts_record, record_length}
use Rattle.model.specs.Tables.{joined, cut, records_within, records, whole, of_width, only, count}
use Rattle.model.specs.Events.{canonical, operands, event, event_in_range, valid_event}
use Rattle.model.specs.Scopes.{invvpid_tests, has_scope, scope, next_context}
use Rattle.model.specs.Answers.{first, good_eptp, eptp_rule, own_rule, rule_with, invvpid_supported, bad_invvpid, invept_supported, bad_invept, invalid_opcode, exits, general_protection, creatable, own_ground, created, no_room, valid_table, table_grounds, event_grounds, grounds, answer}
use Rattle.model.specs.Steps.{new_table, dropped_count}
use Rattle.tallies.specs.Tallies.{tabulate, row_of, pcid_counts}
use Rattle.tally_rows.specs.declared.KindCounts.{KindCounts}
use Rattle.tally_rows.specs.Rows.{of_row, kind_counts, same, same_kinds, matching}
use Rattle.counted_steps.specs.Steps.{counted_grounds, counted_answer}
use Rattle.counted_steps.proofs.Laws.Steps.{counted_answer_matching, counts_matching}
use Rattle.level_steps.specs.Levels.{Handed, handed, levels_refusal, levels_stepped, pcids_of_first, first_written, pcids_of_second, second_written}
use Rattle.level_steps.proofs.Laws.Levels.{own_answer, refused_by_first, refused_by_second, both_accepted}

-- the program's capability and widths, with PCID 1
at : Place → Context
at place = record { capability = 0x0F0106304140; width = 52; linear_width = 48; pcid = 1; cpl = 0; place = place }

guest : Place
guest = Guest (record { vpid = 5; ept = Off })

-- A, of VPID 5 and PCID 1, and a record of VPID 6
A : List ℕ
A = 1 ∷ bytes 2 5 ++ bytes 2 1 ++ (0 ∷ 0 ∷ []) ++ bytes 5 0x12345 ++ bytes 5 0xABCDE

B : List ℕ
B = 1 ∷ bytes 2 6 ++ bytes 2 1 ++ (0 ∷ 0 ∷ []) ++ bytes 5 0x12345 ++ bytes 5 0xBBBBB

-- INVVPID type 1 of VPID 5, and INVEPT with an EPTP that breaks rule 4
invvpid : List ℕ
invvpid = 16 ∷ bytes 8 1 ++ bytes 8 5 ++ bytes 8 0

invept_bad : List ℕ
invept_bad = 17 ∷ bytes 8 1 ++ bytes 8 0x123456709E ++ bytes 8 0

-- the counts of one or two records of kind 1
row : ℕ → KindCounts
row n = record { spans = n ∷ 0 ∷ 0 ∷ 0 ∷ 0 ∷ [] }

rows : ℕ → List KindCounts
rows n = row n ∷ row 0 ∷ row 0 ∷ row 0 ∷ row 0 ∷ row 0 ∷ []

buffer : ℕ → List ℕ
buffer n = replicate n 0xEE

-- records as a table beside their own tally, and a new buffer of so many bytes
own : List (List ℕ) → ℕ → Handed
own rs n = handed (kind_counts rs) (pcid_counts rs) (joined rs) (buffer n)

-- a step is refused with an answer and a rule, reports 0 and 0 of both tables, and leaves the context, both tallies and both
-- buffers
abbrev Refuses : ℕ → ℕ → Context → List ℕ → Handed → Handed → Type 0
Refuses n r c e h k =
    (levels_refusal n r c h.kinds k.kinds ≡ levels_stepped c e h k)
    × ((h.pcids ≡ pcids_of_first c e h k) × ((h.buffer ≡ first_written c e h k) × ((k.pcids ≡ pcids_of_second c e h k) × (k.buffer ≡ second_written c e h k))))

-- Every row holds.
record Rows : Type 0 where
  -- the first table's number goes before the second's, whatever that is: 12 before a second table that is not valid,
  -- 8 with its rule, 4, 3 and 13
  first_without_room : (k : Handed) → Refuses 12 0 (at guest) A (own (A ∷ []) 33) k
  first_with_rule : (k : Handed) → Refuses 8 4 (at Root) invept_bad (own (A ∷ []) 64) k
  first_event : (kinds : List KindCounts) (pcids b : List ℕ) (k : Handed) → Refuses 4 0 (at Root) [] (handed kinds pcids A b) k
  first_invalid : (kinds : List KindCounts) (pcids b : List ℕ) (k : Handed) → Refuses 3 0 (at Root) [] (handed kinds pcids (A ++ (1 ∷ [])) b) k
  first_tally : (pcids b : List ℕ) (k : Handed) → Refuses 13 0 (at Root) invept_bad (handed (rows 2) pcids A b) k
  -- the second's where the first accepts, which then is not written either: a buffer with a byte too few, a table that is not
  -- valid, and a tally of another table
  second_without_room : Refuses 12 0 (at guest) A (own (A ∷ []) 34) (own (A ∷ []) 33)
  second_invalid : (kinds : List KindCounts) (pcids b : List ℕ) → Refuses 3 0 (at Root) invvpid (own (A ∷ []) 64) (handed kinds pcids (A ++ (1 ∷ [])) b)
  second_tally : (pcids b : List ℕ) → Refuses 13 0 (at Root) invvpid (own (A ∷ []) 64) (handed (rows 2) pcids A b)
  -- each table with its own length, dropped count and counts, written to the front of its own buffer
  both : levels_stepped (at Root) invvpid (own (A ∷ B ∷ []) 64) (own (A ∷ B ∷ A ∷ B ∷ []) 80)
      ≡ record {
        answer = 0;
        rule = 0;
        context = at Root;
        first = record { length = 17; dropped = 1; kinds = rows 1 };
        second = record { length = 34; dropped = 2; kinds = rows 2 };
      }
  first_buffer : first_written (at Root) invvpid (own (A ∷ B ∷ []) 64) (own (A ∷ B ∷ A ∷ B ∷ []) 80) ≡ B ++ replicate 47 0xEE
  second_buffer : second_written (at Root) invvpid (own (A ∷ B ∷ []) 64) (own (A ∷ B ∷ A ∷ B ∷ []) 80) ≡ B ++ B ++ replicate 46 0xEE
  -- "a creation goes into both", each with just the room that it needs
  created_in_both : levels_stepped (at guest) A (own [] 17) (own (B ∷ []) 34)
      ≡ record {
        answer = 0;
        rule = 0;
        context = at guest;
        first = record { length = 17; dropped = 0; kinds = rows 1 };
        second = record { length = 34; dropped = 0; kinds = rows 2 };
      }
  created_first : first_written (at guest) A (own [] 17) (own (B ∷ []) 34) ≡ A
  created_second : second_written (at guest) A (own [] 17) (own (B ∷ []) 34) ≡ B ++ A

-- records beside their own tally: the answer is the plain step's
own_answered : (c : Context) (e : List ℕ) (rs : List (List ℕ)) (n m : ℕ) → records (joined rs) ≡ rs
    → answer c (joined rs) e (length (buffer n)) ≡ m → own_answer c e (own rs n) ≡ m
unfolding own
own_answered c e rs n m are is =
    counted_answer_matching c (kind_counts rs) (pcid_counts rs) (joined rs) e (length (buffer n)) (rw are (counts_matching (kind_counts rs) (pcid_counts rs) rs refl refl))
    ∙ is

-- the grounds of the rows, computed
record Grounds : Type 0 where
  no_room_1 : own_answer (at guest) A (own (A ∷ []) 33) ≡ 12
  no_room_2 : own_answer (at guest) A (own (A ∷ []) 34) ≡ 0
  with_rule : own_answer (at Root) invept_bad (own (A ∷ []) 64) ≡ 8
  rule : 4 ≡ rule_with (at Root) invept_bad 8
  not_an_event : (kinds : List KindCounts) (pcids b : List ℕ) → 4 ≡ own_answer (at Root) [] (handed kinds pcids A b)
  not_a_table : (e : List ℕ) (kinds : List KindCounts) (pcids b : List ℕ) → 3 ≡ own_answer (at Root) e (handed kinds pcids (A ++ (1 ∷ [])) b)
  other_tally : (pcids b : List ℕ) → 13 ≡ own_answer (at Root) invvpid (handed (rows 2) pcids A b)
  other_tally_bad : (pcids b : List ℕ) → 13 ≡ own_answer (at Root) invept_bad (handed (rows 2) pcids A b)
  accepts : own_answer (at Root) invvpid (own (A ∷ []) 64) ≡ 0
  accepts_2 : own_answer (at Root) invvpid (own (A ∷ B ∷ []) 64) ≡ 0
  accepts_4 : own_answer (at Root) invvpid (own (A ∷ B ∷ A ∷ B ∷ []) 80) ≡ 0
  creates : own_answer (at guest) A (own [] 17) ≡ 0
  creates_2 : own_answer (at guest) A (own (B ∷ []) 34) ≡ 0

computed : Grounds
unfolding at guest A B invvpid invept_bad row rows buffer bytes in_range kind_of mapping_kind event_kind body_of length_of field mapping linear guest_physical combined structure_cache wide other_width global_marked fields_in_range starts_record record_length joined cut records_within records whole of_width only count canonical operands event event_in_range valid_event first good_eptp eptp_rule own_rule rule_with invvpid_supported bad_invvpid invept_supported bad_invept invalid_opcode exits general_protection creatable own_ground created no_room valid_table table_grounds event_grounds grounds answer tabulate row_of of_row kind_counts same_kinds same matching counted_grounds counted_answer
computed =
    record {
      no_room_1 = own_answered (at guest) A (A ∷ []) 33 12 refl refl;
      no_room_2 = own_answered (at guest) A (A ∷ []) 34 0 refl refl;
      with_rule = own_answered (at Root) invept_bad (A ∷ []) 64 8 refl refl;
      rule = refl;
      not_an_event = λ kinds pcids b. refl;
      not_a_table = λ e kinds pcids b. refl;
      other_tally = λ pcids b. refl;
      other_tally_bad = λ pcids b. refl;
      accepts = own_answered (at Root) invvpid (A ∷ []) 64 0 refl refl;
      accepts_2 = own_answered (at Root) invvpid (A ∷ B ∷ []) 64 0 refl refl;
      accepts_4 = own_answered (at Root) invvpid (A ∷ B ∷ A ∷ B ∷ []) 80 0 refl refl;
      creates = own_answered (at guest) A [] 17 0 refl refl;
      creates_2 = own_answered (at guest) A (B ∷ []) 34 0 refl refl;
    }

cards_hold : Rows
unfolding at guest A B invvpid row rows own buffer bytes kind_of mapping_kind body_of length_of field mapping linear guest_physical combined structure_cache wide other_width global_marked fields_in_range starts_record record_length joined cut records_within records only count canonical operands event has_scope scope invvpid_tests next_context created rule_with new_table dropped_count put tabulate row_of of_row kind_counts
cards_hold =
    record {
      first_without_room = λ k. refused_by_first (at guest) A (own (A ∷ []) 33) k (sym computed.no_room_1) (λ z. omega arith) refl refl;
      first_with_rule = λ k. refused_by_first (at Root) invept_bad (own (A ∷ []) 64) k (sym computed.with_rule) (λ z. omega arith) computed.rule refl;
      first_event = λ kinds pcids b k. refused_by_first (at Root) [] (handed kinds pcids A b) k (computed.not_an_event kinds pcids b) (λ z. omega arith) refl refl;
      first_invalid = λ kinds pcids b k. refused_by_first (at Root) [] (handed kinds pcids (A ++ (1 ∷ [])) b) k (computed.not_a_table [] kinds pcids b) (λ z. omega arith) refl refl;
      first_tally = λ pcids b k. refused_by_first (at Root) invept_bad (handed (rows 2) pcids A b) k (computed.other_tally_bad pcids b) (λ z. omega arith) refl refl;
      second_without_room = refused_by_second (at guest) A (own (A ∷ []) 34) (own (A ∷ []) 33) computed.no_room_2 (sym computed.no_room_1) (λ z. omega arith) refl refl;
      second_invalid = λ kinds pcids b. refused_by_second (at Root) invvpid (own (A ∷ []) 64) (handed kinds pcids (A ++ (1 ∷ [])) b) computed.accepts (computed.not_a_table invvpid kinds pcids b) (λ z. omega arith) refl refl;
      second_tally = λ pcids b. refused_by_second (at Root) invvpid (own (A ∷ []) 64) (handed (rows 2) pcids A b) computed.accepts (computed.other_tally pcids b) (λ z. omega arith) refl refl;
      both = (both_accepted (at Root) invvpid (own (A ∷ B ∷ []) 64) (own (A ∷ B ∷ A ∷ B ∷ []) 80) computed.accepts_2 computed.accepts_4).0;
      first_buffer = (both_accepted (at Root) invvpid (own (A ∷ B ∷ []) 64) (own (A ∷ B ∷ A ∷ B ∷ []) 80) computed.accepts_2 computed.accepts_4).1.0;
      second_buffer = (both_accepted (at Root) invvpid (own (A ∷ B ∷ []) 64) (own (A ∷ B ∷ A ∷ B ∷ []) 80) computed.accepts_2 computed.accepts_4).1.1;
      created_in_both = (both_accepted (at guest) A (own [] 17) (own (B ∷ []) 34) computed.creates computed.creates_2).0;
      created_first = (both_accepted (at guest) A (own [] 17) (own (B ∷ []) 34) computed.creates computed.creates_2).1.0;
      created_second = (both_accepted (at guest) A (own [] 17) (own (B ∷ []) 34) computed.creates computed.creates_2).1.1;
    }
