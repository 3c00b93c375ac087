-- Rows about the tally and the step beside it (document 02, Ask 7), all under one statement.
use Rattle.std.specs.Prelude.{ℕ, ◌+◌, ◌<◌, Bool, true, false, not, ◌&&◌, List, [], ◌∷◌, ◌++◌, map, ◌≡◌, refl, eqb, length, get_or, replicate}
use Rattle.std.proofs.Common.{ap, ◌∙◌, arith}
use Rattle.model.specs.declared.Context.{Context}
use Rattle.model.specs.declared.Place.{Place}
use Rattle.model.specs.declared.Place.TheVariants.{Outside, Root, Guest}
use Rattle.model.specs.declared.Ept.TheVariants.{Off}
use Rattle.model.specs.Bits.{bytes}
use Rattle.model.specs.Context.{in_range}
use Rattle.model.specs.Layouts.{kind_of, mapping_kind, event_kind, body_of, length_of, field}
use Rattle.model.specs.Mappings.{mapping, linear, guest_physical, combined, structure_cache, wide, other_width, global_marked, fields_in_range, starts_record, record_length}
use Rattle.model.specs.Tables.{joined, cut, records_within, records, whole, of_width, only, count}
use Rattle.model.specs.Events.{canonical, operands, entry, event, event_in_range, valid_event}
use Rattle.model.specs.Scopes.{invvpid_tests, has_scope, scope}
use Rattle.model.specs.Answers.{first, good_eptp, eptp_rule, own_rule, rule_with, invvpid_supported, bad_invvpid, invept_supported, bad_invept, invalid_opcode, exits, general_protection, bad_entry, creatable, own_ground, created, no_room, valid_table, valid_here, table_grounds, event_grounds, grounds, answer}
use Rattle.model.specs.Steps.{new_table, refusal, refused_step}
use Rattle.tallies.specs.Tallies.{tabulate, row_of, of_pcid, pcid_counts}
use Rattle.tallies.proofs.Laws.Lists.{get_d_tabulate, length_tabulate}
use Rattle.tally_rows.specs.declared.KindCounts.{KindCounts}
use Rattle.tally_rows.specs.Rows.{of_row, kind_counts, same, same_kinds, matching}
use Rattle.counted_steps.specs.Steps.{counted_grounds, counted_answer, counted_stepped, counted_pcids, counted_written}
use Rattle.counted_steps.proofs.Laws.Steps.{counted_of_other, counted_answer_matching, matching_counts, counts_matching, counts_accepted}

-- the program's capability and widths, with PCID 1
at : ℕ → Place → Context
at cpl place = record { capability = 0x0F0106304140; width = 52; linear_width = 48; pcid = 1; cpl = cpl; place = place }

-- A and G; a global record of PCID 2; a structure cache of each sort, with span 3; and kinds 7 to 10. An EP4TA may stand
-- behind a record that has none: it is not read.
A : List ℕ
A = 1 ∷ bytes 2 5 ++ bytes 2 1 ++ (0 ∷ 0 ∷ []) ++ bytes 5 0x12345 ++ bytes 5 0xABCDE

G : List ℕ
G = 2 ∷ bytes 5 0x1234567 ++ (0 ∷ []) ++ bytes 5 0x10 ++ bytes 5 0x20

global : List ℕ
global = 3 ∷ bytes 2 5 ++ bytes 2 2 ++ (1 ∷ 2 ∷ []) ++ bytes 5 0 ++ bytes 5 7 ++ bytes 5 0x1234567

structure : ℕ → List ℕ
structure kind = kind ∷ bytes 2 5 ++ bytes 2 1 ++ (3 ∷ []) ++ bytes 5 0 ++ bytes 5 9 ++ bytes 5 0x1234567

guest_physical_structure : List ℕ
guest_physical_structure = 5 ∷ bytes 5 0x1234567 ++ (3 ∷ []) ++ bytes 5 0 ++ bytes 5 9

wide_translation : ℕ → List ℕ
wide_translation kind = kind ∷ bytes 2 5 ++ bytes 2 1 ++ (1 ∷ 1 ∷ []) ++ bytes 6 0 ++ bytes 5 7 ++ bytes 5 0x1234567

wide_structure : ℕ → List ℕ
wide_structure kind = kind ∷ bytes 2 5 ++ bytes 2 1 ++ (4 ∷ []) ++ bytes 6 0 ++ bytes 5 9 ++ bytes 5 0x1234567

-- the counts of one row
row : ℕ → ℕ → ℕ → ℕ → ℕ → KindCounts
row a b c d e = record { spans = a ∷ b ∷ c ∷ d ∷ e ∷ [] }

none : KindCounts
none = row 0 0 0 0 0

-- the counts of A, and the same with one more, with one under a span that kind 1 never has, and in another row
of_A : List KindCounts
of_A = row 1 0 0 0 0 ∷ none ∷ none ∷ none ∷ none ∷ none ∷ []

one_more : List KindCounts
one_more = row 2 0 0 0 0 ∷ none ∷ none ∷ none ∷ none ∷ none ∷ []

impossible : List KindCounts
impossible = row 1 0 0 1 0 ∷ none ∷ none ∷ none ∷ none ∷ none ∷ []

other_row : List KindCounts
other_row = none ∷ none ∷ row 1 0 0 0 0 ∷ none ∷ none ∷ none ∷ []

-- INVVPID of VPID 5, a VM entry with VPID 0 enabled, and INVEPT with a bad EPTP
invvpid : ℕ → List ℕ
invvpid type = 16 ∷ bytes 8 type ++ bytes 8 5 ++ bytes 8 0

entry_of_0 : List ℕ
entry_of_0 = 20 ∷ 1 ∷ bytes 2 0 ++ (0 ∷ []) ++ bytes 8 0 ++ bytes 2 1 ++ (0 ∷ [])

invept_bad : List ℕ
invept_bad = 17 ∷ bytes 8 1 ++ bytes 8 0x123456709E ++ bytes 8 0

guest : Place
guest = Guest (record { vpid = 5; ept = Off })

-- a context, an event and the length of a new buffer, and the answer to them with A as table
record Asked : Type 0 where
  context : Context
  event : List ℕ
  room : ℕ
  answer : ℕ

-- every answer from 5 on, and 0
asked : List Asked
asked =
    record { context = at 0 Outside; event = invvpid 1; room = 64; answer = 5 }
    ∷ record { context = at 0 guest; event = invvpid 1; room = 64; answer = 6 }
    ∷ record { context = at 1 Root; event = invvpid 1; room = 64; answer = 7 }
    ∷ record { context = at 0 Root; event = invvpid 4; room = 64; answer = 8 }
    ∷ record { context = at 0 Root; event = 22 ∷ []; room = 64; answer = 9 }
    ∷ record { context = at 0 Root; event = entry_of_0; room = 64; answer = 10 }
    ∷ record { context = at 0 Root; event = A; room = 64; answer = 11 }
    ∷ record { context = at 0 guest; event = A; room = 33; answer = 12 }
    ∷ record { context = at 0 guest; event = A; room = 34; answer = 0 }
    ∷ []

all : {X : Type 0} → (X → Bool) → List X → Bool
all p [] = true
all p (x ∷ xs) = p x && all p xs

-- the answers of the plain step, and those with a tally
plain : Bool
plain = all (λ k. eqb (answer k.context A k.event k.room) k.answer) asked

beside : List KindCounts → List ℕ → Bool
beside kinds pcids = all (λ k. eqb (counted_answer k.context kinds pcids A k.event k.room) 13) asked

-- a record is counted in one row, under one span
in_cell : ℕ → ℕ → List ℕ → Bool
in_cell own span r = of_row own span r && not (of_row (own + 1) span r) && not (of_row own (span + 1) r)

cells : Bool
cells =
    in_cell 0 0 A
    && in_cell 1 0 G
    && in_cell 2 2 global
    && in_cell 3 3 (structure 4)
    && in_cell 4 3 guest_physical_structure
    && in_cell 5 3 (structure 6)
    && in_cell 0 1 (wide_translation 7)
    && in_cell 2 1 (wide_translation 8)
    && in_cell 3 4 (wide_structure 9)
    && in_cell 5 4 (wide_structure 10)

-- a record is counted under its own PCID, a global one too; those of kinds 2 and 5 under none, also not under the number
-- that their bytes have where others have a PCID
pcids : Bool
pcids =
    of_pcid 1 A
    && not (of_pcid 0 A)
    && of_pcid 2 global
    && not (of_pcid 1 global)
    && of_pcid 1 (structure 4)
    && of_pcid 1 (structure 6)
    && of_pcid 1 (wide_translation 7)
    && of_pcid 1 (wide_translation 8)
    && of_pcid 1 (wide_structure 9)
    && of_pcid 1 (wide_structure 10)
    && not (of_pcid 0 G)
    && not (of_pcid 0x123 G)
    && not (of_pcid 0 guest_physical_structure)
    && not (of_pcid 0x123 guest_physical_structure)

-- Every row holds.
record Rows : Type 0 where
  -- kinds 1 to 10
  rows : map row_of (1 ∷ 2 ∷ 3 ∷ 4 ∷ 5 ∷ 6 ∷ 7 ∷ 8 ∷ 9 ∷ 10 ∷ []) ≡ 0 ∷ 1 ∷ 2 ∷ 3 ∷ 4 ∷ 5 ∷ 0 ∷ 2 ∷ 3 ∷ 5 ∷ []
  counted_in : cells ≡ true
  counted_under : pcids ≡ true
  counts : kind_counts (A ∷ G ∷ global ∷ guest_physical_structure ∷ A ∷ [])
      ≡ row 2 0 0 0 0 ∷ row 1 0 0 0 0 ∷ row 0 0 1 0 0 ∷ none ∷ row 0 0 0 1 0 ∷ none ∷ []
  counts_57 : kind_counts (wide_translation 7 ∷ wide_translation 8 ∷ wide_structure 9 ∷ wide_structure 10 ∷ [])
      ≡ row 0 1 0 0 0 ∷ none ∷ row 0 1 0 0 0 ∷ row 0 0 0 0 1 ∷ none ∷ row 0 0 0 0 1 ∷ []
  -- 1, 3 and 4 go before 13, whatever the tally is
  one : (kinds : List KindCounts) (by_pcid : List ℕ) → counted_answer (at 4 Root) kinds by_pcid A [] 64 ≡ 1
  three : (kinds : List KindCounts) (by_pcid : List ℕ) → counted_answer (at 0 Root) kinds by_pcid (A ++ (1 ∷ [])) [] 64 ≡ 3
  four : (kinds : List KindCounts) (by_pcid : List ℕ) → counted_answer (at 0 Root) kinds by_pcid A [] 64 ≡ 4
  -- 13 goes before all others: with a count that is wrong by one, an impossible one, and one in another row, whatever
  -- the counts by PCID are
  wrong : (by_pcid : List ℕ) → beside one_more by_pcid ≡ true
  never : (by_pcid : List ℕ) → beside impossible by_pcid ≡ true
  other : (by_pcid : List ℕ) → beside other_row by_pcid ≡ true
  -- 13 with A's count moved to PCID 2, and with 4,095 counts, before 5 and 12
  moved : (rest : List ℕ) → counted_answer (at 0 Outside) of_A (0 ∷ 0 ∷ 1 ∷ rest) A (invvpid 1) 64 ≡ 13
  short : (kinds : List KindCounts) (by_pcid : List ℕ) → length by_pcid ≡ 4095 → counted_answer (at 0 Root) kinds by_pcid A (25 ∷ []) 0 ≡ 13
  -- with the tally that matches, the plain answer, and what that is
  matched : (c : Context) (e : List ℕ) (room : ℕ) → counted_answer c of_A (pcid_counts (A ∷ [])) A e room ≡ answer c A e room
  answers : plain ≡ true
  -- a step that is refused with 13 leaves the tally and the buffer, and names no rule of an EPTP
  kept : (by_pcid : List ℕ) → counted_stepped (at 0 Root) one_more by_pcid A invept_bad 64 ≡ record { step = refusal 13 0 (at 0 Root); kinds = one_more }
  kept_pcids : (by_pcid : List ℕ) → counted_pcids (at 0 Root) one_more by_pcid A invept_bad 64 ≡ by_pcid
  unwritten : (by_pcid : List ℕ) → counted_written (at 0 Root) one_more by_pcid A invept_bad (replicate 64 0xEE) ≡ replicate 64 0xEE
  -- one that is accepted has the counts of the new table: INVVPID drops A, and a creation adds one more
  dropped : (counted_stepped (at 0 Root) of_A (pcid_counts (A ∷ [])) A (invvpid 1) 64).kinds ≡ none ∷ none ∷ none ∷ none ∷ none ∷ none ∷ []
  dropped_pcids : counted_pcids (at 0 Root) of_A (pcid_counts (A ∷ [])) A (invvpid 1) 64 ≡ pcid_counts []
  added : (counted_stepped (at 0 guest) of_A (pcid_counts (A ∷ [])) A A 64).kinds ≡ one_more
  added_pcids : counted_pcids (at 0 guest) of_A (pcid_counts (A ∷ [])) A A 64 ≡ pcid_counts (A ∷ A ∷ [])

-- the table of A has one record, of PCID 1
A_alone : records A ≡ A ∷ []
unfolding A bytes kind_of mapping_kind body_of length_of field mapping linear guest_physical combined structure_cache wide other_width global_marked fields_in_range starts_record record_length cut records_within records
A_alone = refl

one_under_1 : count (of_pcid 1) (A ∷ []) ≡ 1
unfolding A bytes kind_of body_of field mapping linear guest_physical only count of_pcid
one_under_1 = refl

-- a tally does not match where a count by PCID is another, and where there are not 4,096
other_count : (kinds : List KindCounts) (by_pcid : List ℕ) (rs : List (List ℕ)) (pcid : ℕ) → pcid < 4096
    → (get_or by_pcid pcid 0 ≡ count (of_pcid pcid) rs → ⊥) → matching kinds by_pcid rs ≡ false
unfolding pcid_counts
other_count kinds by_pcid rs pcid within differs = go (matching kinds by_pcid rs) refl
  where
    go : (b : Bool) → matching kinds by_pcid rs ≡ b → b ≡ false
    go true is =
        absurd
        (differs
        (ap (λ counts. get_or counts pcid 0) (matching_counts kinds by_pcid rs is).1
        ∙ get_d_tabulate 4096 (λ own. count (of_pcid own) rs) pcid 0 within))
    go false is = refl

other_length : (kinds : List KindCounts) (by_pcid : List ℕ) (rs : List (List ℕ)) → (length by_pcid ≡ 4096 → ⊥) → matching kinds by_pcid rs ≡ false
unfolding pcid_counts
other_length kinds by_pcid rs differs = go (matching kinds by_pcid rs) refl
  where
    go : (b : Bool) → matching kinds by_pcid rs ≡ b → b ≡ false
    go true is = absurd (differs (ap length (matching_counts kinds by_pcid rs is).1 ∙ length_tabulate 4096 (λ own. count (of_pcid own) rs)))
    go false is = refl

-- A's tally matches
A_counts : of_A ≡ kind_counts (A ∷ [])
unfolding A of_A row none bytes kind_of body_of field mapping linear guest_physical structure_cache only count tabulate row_of of_row kind_counts
A_counts = refl

A_matches : matching of_A (pcid_counts (A ∷ [])) (records A) ≡ true
A_matches = rw A_alone (counts_matching of_A (pcid_counts (A ∷ [])) (A ∷ []) A_counts refl)

A_moved : (rest : List ℕ) → matching of_A (0 ∷ 0 ∷ 1 ∷ rest) (records A) ≡ false
A_moved rest = rw A_alone (other_count of_A (0 ∷ 0 ∷ 1 ∷ rest) (A ∷ []) 1 (omega arith) (λ none_there. omega (arith, none_there, one_under_1)))

-- no ground goes before 13, of A with INVVPID outside VMX and with a reset
passes : (first (table_grounds (at 0 Outside) A) ≡ 0)
    × ((valid_here (at 0 Outside) (invvpid 1) ≡ true) × ((first (table_grounds (at 0 Root) A) ≡ 0) × (valid_here (at 0 Root) (25 ∷ []) ≡ true)))
unfolding at A invvpid bytes in_range kind_of mapping_kind event_kind body_of length_of field mapping linear guest_physical combined structure_cache wide other_width global_marked fields_in_range starts_record record_length cut records_within records joined whole of_width operands event event_in_range valid_event first valid_table table_grounds
passes = (refl, (refl, (refl, refl)))

-- the counts after a step beside A's tally, where the plain step is accepted
A_left : (c : Context) (e : List ℕ) → answer c A e 64 ≡ 0
    → ((counted_stepped c of_A (pcid_counts (A ∷ [])) A e 64).kinds ≡ kind_counts (records (new_table c A e)))
    × (counted_pcids c of_A (pcid_counts (A ∷ [])) A e 64 ≡ pcid_counts (records (new_table c A e)))
A_left c e accepted =
    counts_accepted c of_A (pcid_counts (A ∷ [])) A e 64 (counted_answer_matching c of_A (pcid_counts (A ∷ [])) A e 64 A_matches ∙ accepted)

-- the records after INVVPID and after a creation
after_invvpid : (answer (at 0 Root) A (invvpid 1) 64 ≡ 0) × (records (new_table (at 0 Root) A (invvpid 1)) ≡ [])
unfolding at A invvpid guest bytes in_range kind_of mapping_kind event_kind body_of length_of field mapping linear guest_physical combined structure_cache wide other_width global_marked fields_in_range starts_record record_length joined cut records_within records whole of_width canonical operands event event_in_range valid_event invvpid_tests has_scope scope first invvpid_supported bad_invvpid invalid_opcode exits general_protection creatable own_ground created no_room valid_table table_grounds event_grounds grounds answer new_table only
after_invvpid = (refl, refl)

after_creation : (answer (at 0 guest) A A 64 ≡ 0) × (records (new_table (at 0 guest) A A) ≡ A ∷ A ∷ [])
unfolding at A invvpid guest bytes in_range kind_of mapping_kind event_kind body_of length_of field mapping linear guest_physical combined structure_cache wide other_width global_marked fields_in_range starts_record record_length joined cut records_within records whole of_width canonical operands event event_in_range valid_event invvpid_tests has_scope scope first invvpid_supported bad_invvpid invalid_opcode exits general_protection creatable own_ground created no_room valid_table table_grounds event_grounds grounds answer new_table only
after_creation = (refl, refl)

cards_hold : Rows
unfolding at A G global structure guest_physical_structure wide_translation wide_structure row none of_A one_more impossible other_row invvpid entry_of_0 guest asked all plain beside in_cell cells pcids bytes in_range kind_of mapping_kind event_kind body_of length_of field mapping linear guest_physical combined structure_cache wide other_width global_marked fields_in_range starts_record record_length joined cut records_within records whole of_width only count canonical operands entry event event_in_range valid_event first good_eptp invvpid_supported bad_invvpid invalid_opcode exits general_protection bad_entry creatable own_ground created no_room valid_table table_grounds event_grounds grounds answer tabulate row_of of_row of_pcid kind_counts same same_kinds matching bad_invept invept_supported invept_bad rule_with own_rule eptp_rule refused_step counted_grounds counted_answer counted_stepped counted_pcids counted_written
cards_hold =
    record {
      rows = refl;
      counted_in = refl;
      counted_under = refl;
      counts = refl;
      counts_57 = refl;
      one = λ kinds by_pcid. refl;
      three = λ kinds by_pcid. refl;
      four = λ kinds by_pcid. refl;
      wrong = λ by_pcid. refl;
      never = λ by_pcid. refl;
      other = λ by_pcid. refl;
      moved = λ rest. counted_of_other (at 0 Outside) of_A (0 ∷ 0 ∷ 1 ∷ rest) A (invvpid 1) 64 passes.0 passes.1.0 (A_moved rest);
      short = λ kinds by_pcid is. counted_of_other (at 0 Root) kinds by_pcid A (25 ∷ []) 0 passes.1.1.0 passes.1.1.1 (other_length kinds by_pcid (records A) (λ full. omega (arith, is, full)));
      matched = λ c e room. counted_answer_matching c of_A (pcid_counts (A ∷ [])) A e room A_matches;
      answers = refl;
      kept = λ by_pcid. refl;
      kept_pcids = λ by_pcid. refl;
      unwritten = λ by_pcid. refl;
      dropped = (A_left (at 0 Root) (invvpid 1) after_invvpid.0).0 ∙ ap kind_counts after_invvpid.1;
      dropped_pcids = (A_left (at 0 Root) (invvpid 1) after_invvpid.0).1 ∙ ap pcid_counts after_invvpid.1;
      added = (A_left (at 0 guest) A after_creation.0).0 ∙ ap kind_counts after_creation.1;
      added_pcids = (A_left (at 0 guest) A after_creation.0).1 ∙ ap pcid_counts after_creation.1;
    }
