-- Rows about the judge (document 02, Ask 8), all under one statement.
use Rattle.std.specs.Prelude.{ℕ, List, [], ◌∷◌, ◌++◌, map, ◌≡◌, refl, replicate}
use Rattle.model.specs.declared.Context.{Context}
use Rattle.model.specs.declared.Place.{Place}
use Rattle.model.specs.declared.Place.TheVariants.{Outside, Root, Guest}
use Rattle.model.specs.declared.Ept.TheVariants.{Off}
use Rattle.model.specs.Bits.{bytes}
use Rattle.model.specs.Context.{in_range}
use Rattle.model.specs.Layouts.{kind_of, mapping_kind, event_kind, body_of, length_of, field}
use Rattle.model.specs.Mappings.{mapping, linear, guest_physical, combined, structure_cache, wide, other_width, global_marked, fields_in_range, starts_record, record_length}
use Rattle.model.specs.Tables.{joined, cut, records_within, records, whole, of_width, only}
use Rattle.model.specs.Events.{canonical, operands, entry, event, event_in_range, valid_event}
use Rattle.model.specs.Scopes.{invvpid_tests, has_scope, scope}
use Rattle.model.specs.Answers.{first, good_eptp, eptp_rule, own_rule, rule_with, invvpid_supported, bad_invvpid, invept_supported, bad_invept, invalid_opcode, exits, general_protection, bad_entry, creatable, own_ground, created, no_room, valid_table, table_grounds, event_grounds, grounds, answer}
use Rattle.model.specs.Steps.{new_table}
use Rattle.tally_rows.specs.Rows.{same}
use Rattle.claims.specs.declared.Judgement.{Judgement}
use Rattle.claims.specs.declared.Judgement.TheVariants.{Accepted, Refused, Malformed, Unmatched}
use Rattle.claims.specs.Claims.{matched, malformed, judgement, judgement_values}

-- the program's capability at a linear width, with PCID 1 and CPL 0
at : ℕ → ℕ → Place → Context
at width linear_width place =
    record { capability = 0x0F0106304140; width = width; linear_width = linear_width; pcid = 1; cpl = 0; place = place }

root : Context
root = at 52 48 Root

guest : Context
guest = at 52 48 (Guest (record { vpid = 5; ept = Off }))

-- A of VPID 5 and B of VPID 6, 17 bytes each; a structure cache of VPID 6, 16 bytes; G, 17 bytes; and a 57-bit record of
-- VPID 6
A : List ℕ
A = 1 ∷ bytes 2 5 ++ bytes 2 1 ++ (0 ∷ 0 ∷ []) ++ bytes 5 0x12345 ++ bytes 5 0xABCDE

B : List ℕ
B = 1 ∷ bytes 2 6 ++ bytes 2 1 ++ (0 ∷ 0 ∷ []) ++ bytes 5 0x12345 ++ bytes 5 0xABCDE

S : List ℕ
S = 4 ∷ bytes 2 6 ++ bytes 2 1 ++ (1 ∷ []) ++ bytes 5 512 ++ bytes 5 9

G : List ℕ
G = 2 ∷ bytes 5 0x1234567 ++ (0 ∷ []) ++ bytes 5 0x10 ++ bytes 5 0x20

W : List ℕ
W = 7 ∷ bytes 2 6 ++ bytes 2 1 ++ (0 ∷ 0 ∷ []) ++ bytes 6 0x12345 ++ bytes 5 0xABCDE

-- B whose last byte is another
other_B : List ℕ
other_B = 1 ∷ bytes 2 6 ++ bytes 2 1 ++ (0 ∷ 0 ∷ []) ++ bytes 5 0x12345 ++ bytes 5 0x10000ABCDE

-- INVVPID of type 1 for VPID 5, INVEPT with bit 7 of its EPTP set, and a VM entry with the same EPTP
invvpid : List ℕ
invvpid = 16 ∷ bytes 8 1 ++ bytes 8 5 ++ bytes 8 0

invept_bad : List ℕ
invept_bad = 17 ∷ bytes 8 1 ++ bytes 8 0x123456709E ++ bytes 8 0

entry_bad : List ℕ
entry_bad = 20 ∷ 0 ∷ bytes 2 0 ++ (1 ∷ []) ++ bytes 8 0x123456709E ++ bytes 2 1 ++ (0 ∷ [])

-- the judgement of a claim in root, after the INVVPID on a table of records; and in the guest, after A was created
after_invvpid : List (List ℕ) → List (List ℕ) → Judgement
after_invvpid before claimed = judgement root (joined before) invvpid (joined claimed)

after_creation : List (List ℕ) → List (List ℕ) → Judgement
after_creation before claimed = judgement guest (joined before) A (joined claimed)

-- Every row holds.
record Rows : Type 0 where
  -- what our step leaves, and less
  own : after_invvpid (A ∷ B ∷ S ∷ G ∷ []) (B ∷ S ∷ G ∷ []) ≡ Accepted
  less : after_invvpid (A ∷ B ∷ S ∷ G ∷ []) (B ∷ G ∷ []) ≡ Accepted
  nothing : after_invvpid (A ∷ B ∷ S ∷ G ∷ []) [] ≡ Accepted
  -- a record in scope; one in scope at the end, behind records of two lengths; and one of another table
  kept : after_invvpid (A ∷ B ∷ S ∷ G ∷ []) (A ∷ B ∷ S ∷ G ∷ []) ≡ Unmatched 0
  last_kept : after_invvpid (B ∷ S ∷ A ∷ []) (B ∷ S ∷ A ∷ []) ≡ Unmatched 33
  invented : after_invvpid (A ∷ B ∷ []) (B ∷ G ∷ []) ≡ Unmatched 17
  last_byte : after_invvpid (A ∷ B ∷ []) (other_B ∷ []) ≡ Unmatched 0
  -- swapped records, and doubled ones
  swapped : after_invvpid (B ∷ S ∷ []) (S ∷ B ∷ []) ≡ Unmatched 16
  doubled : after_invvpid (A ∷ B ∷ S ∷ []) (B ∷ B ∷ S ∷ []) ≡ Unmatched 17
  twice : after_invvpid (B ∷ A ∷ B ∷ []) (B ∷ B ∷ []) ≡ Accepted
  thrice : after_invvpid (B ∷ A ∷ B ∷ []) (B ∷ B ∷ B ∷ []) ≡ Unmatched 34
  -- the earliest match is taken: G behind the first B is found, and behind the second there is none
  earliest : after_invvpid (B ∷ G ∷ B ∷ []) (B ∷ G ∷ []) ≡ Accepted
  too_late : after_invvpid (B ∷ G ∷ B ∷ []) (B ∷ B ∷ G ∷ []) ≡ Unmatched 34
  -- a creation stands at the end, may be missing, and matches once
  created_own : after_creation (B ∷ []) (B ∷ A ∷ []) ≡ Accepted
  created_lacks : after_creation (B ∷ []) (B ∷ []) ≡ Accepted
  created_alone : after_creation (B ∷ []) (A ∷ []) ≡ Accepted
  created_first : after_creation (B ∷ []) (A ∷ B ∷ []) ≡ Unmatched 17
  created_again : after_creation (A ∷ []) (A ∷ A ∷ []) ≡ Accepted
  created_thrice : after_creation (A ∷ []) (A ∷ A ∷ A ∷ []) ≡ Unmatched 34
  -- nothing is left after a reset
  reset : map (λ claimed. judgement root A (25 ∷ []) claimed) ([] ∷ A ∷ []) ≡ Accepted ∷ Unmatched 0 ∷ []
  -- a malformed claim: rubbish behind an unmatched record, a cut record, 2,945 valid records of 16 bytes, and a record of
  -- the other width
  rubbish : judgement root (joined (A ∷ B ∷ [])) invvpid (A ++ (0 ∷ [])) ≡ Malformed
  cut_short : judgement root (joined (A ∷ B ∷ [])) invvpid (B ++ (1 ∷ [])) ≡ Malformed
  long : judgement root B invvpid (joined (replicate 2945 S)) ≡ Malformed
  wide_claim : judgement root B invvpid W ≡ Malformed
  wide_table : map (λ claim. judgement (at 52 57 Root) W invvpid claim) (W ∷ B ∷ []) ≡ Accepted ∷ Malformed ∷ []
  -- a refused event goes first, with its answer: here the claim is malformed too
  refused_1 : judgement (at 35 48 Root) B invvpid (0 ∷ []) ≡ Refused 1 0
  refused_2 : judgement root (replicate 47105 0) invvpid (0 ∷ []) ≡ Refused 2 0
  refused_3 : judgement root (B ++ (1 ∷ [])) invvpid (0 ∷ []) ≡ Refused 3 0
  refused_4 : judgement root B [] (0 ∷ []) ≡ Refused 4 0
  refused_5 : judgement (at 52 48 Outside) B invvpid (0 ∷ []) ≡ Refused 5 0
  refused_6 : judgement guest B invvpid (0 ∷ []) ≡ Refused 6 0
  refused_7 : judgement (record { capability = 0; width = 52; linear_width = 48; pcid = 0; cpl = 1; place = Root }) B (22 ∷ []) (0 ∷ []) ≡ Refused 7 0
  refused_9 : judgement root B (22 ∷ []) B ≡ Refused 9 0
  refused_11 : judgement root B A (joined (B ∷ A ∷ [])) ≡ Refused 11 0
  -- with the rule that the EPTP breaks
  refused_8 : judgement root B invept_bad B ≡ Refused 8 4
  refused_10 : judgement root B entry_bad B ≡ Refused 10 4
  -- the numbers of the cases
  values : map judgement_values (Accepted ∷ Refused 8 4 ∷ Malformed ∷ Unmatched 17 ∷ [])
      ≡ record { number = 0; answer = 0; rule = 0; position = 0 }
      ∷ record { number = 1; answer = 8; rule = 4; position = 0 }
      ∷ record { number = 2; answer = 0; rule = 0; position = 0 }
      ∷ record { number = 3; answer = 0; rule = 0; position = 17 }
      ∷ []

cards_hold : Rows
unfolding at root guest A B S G W other_B invvpid invept_bad entry_bad after_invvpid after_creation bytes in_range kind_of mapping_kind event_kind body_of length_of field mapping linear guest_physical combined structure_cache wide other_width global_marked fields_in_range starts_record record_length joined cut records_within records whole of_width only canonical operands entry event event_in_range valid_event invvpid_tests has_scope scope first good_eptp eptp_rule own_rule rule_with invvpid_supported bad_invvpid invept_supported bad_invept invalid_opcode exits general_protection bad_entry creatable own_ground created no_room valid_table table_grounds event_grounds grounds answer new_table same matched malformed judgement
cards_hold =
    record {
      own = refl;
      less = refl;
      nothing = refl;
      kept = refl;
      last_kept = refl;
      invented = refl;
      last_byte = refl;
      swapped = refl;
      doubled = refl;
      twice = refl;
      thrice = refl;
      earliest = refl;
      too_late = refl;
      created_own = refl;
      created_lacks = refl;
      created_alone = refl;
      created_first = refl;
      created_again = refl;
      created_thrice = refl;
      reset = refl;
      rubbish = refl;
      cut_short = refl;
      long = refl;
      wide_claim = refl;
      wide_table = refl;
      refused_1 = refl;
      refused_2 = refl;
      refused_3 = refl;
      refused_4 = refl;
      refused_5 = refl;
      refused_6 = refl;
      refused_7 = refl;
      refused_9 = refl;
      refused_11 = refl;
      refused_8 = refl;
      refused_10 = refl;
      values = refl;
    }
