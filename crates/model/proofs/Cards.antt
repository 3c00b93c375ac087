-- Document 01, "Bench cards": the starred cards, and rows of our own for the mistakes that the
-- document lists and for every answer, scope, reason and change of context, all as rows under a single
-- statement about the definitions.
use Rattle.std.specs.Prelude.{ℕ, ◌+◌, ◌-◌, ◌^◌, Bool, true, false, not, ◌&&◌, List, [], ◌∷◌, ◌++◌, map, ◌≡◌, refl, eqb, length, drop, replicate}
use Rattle.model.specs.declared.Context.{Context}
use Rattle.model.specs.declared.Place.{Place}
use Rattle.model.specs.declared.Place.TheVariants.{Outside, Root, Guest}
use Rattle.model.specs.declared.Address.{Address}
use Rattle.model.specs.declared.Address.TheVariants.{Linear, GuestPhysical}
use Rattle.model.specs.declared.Ept.{Ept}
use Rattle.model.specs.declared.Ept.TheVariants.{Off, On}
use Rattle.model.specs.Bits.{bytes}
use Rattle.model.specs.Buffers.{put}
use Rattle.model.specs.Context.{in_range, after_reset}
use Rattle.model.specs.Layouts.{kind_of, mapping_kind, event_kind, body_of, length_of, field}
use Rattle.model.specs.Mappings.{mapping, structure_cache, global_marked, fields_in_range, starts_record, other_width, wide, record_length, covers}
use Rattle.model.specs.Tables.{joined, cut, records_within, records, whole, of_width, only, count}
use Rattle.model.specs.Events.{canonical, page_of, guest_physical_page_of, operands, violation, entry, new_pcid, event, event_in_range, valid_event}
use Rattle.model.specs.Scopes.{invvpid_tests, invept_tests, invlpg_tests, guest_physical_violation_tests, combined_violation_tests, violation_tests, transition_tests, invpcid_tests, mov_to_cr3_tests, has_scope, scope, entered, next_context}
use Rattle.model.specs.Answers.{first, good_eptp, eptp_rule, own_rule, rule_with, invvpid_supported, bad_invvpid, invept_supported, bad_invept, bad_invpcid, invalid_opcode, exits, general_protection, bad_entry, creatable, own_ground, created, no_room, valid_table, table_grounds, event_grounds, grounds, answer}
use Rattle.model.specs.Steps.{new_table, dropped_count, accepted_step, refused_step, stepped, written}
use Rattle.model.specs.Lookups.{translates_linear, usable, usable_records, lookup_answer, lookup, start_of, lookup_start}
use Rattle.model.specs.Reasons.{first_failed, reason, one_record, explained_answer, explanation, explanation_number, explanation_answer, explanation_rule}

same : List ℕ → List ℕ → Bool
same [] [] = true
same [] (y ∷ ys) = false
same (x ∷ xs) [] = false
same (x ∷ xs) (y ∷ ys) = eqb x y && same xs ys

-- contexts as numbers, to compare them
ept_numbers : Ept → List ℕ
ept_numbers Off = 0 ∷ []
ept_numbers (On ep4ta) = 1 ∷ ep4ta ∷ []

place_numbers : Place → List ℕ
place_numbers Outside = 0 ∷ []
place_numbers Root = 1 ∷ []
place_numbers (Guest g) = 2 ∷ g.vpid ∷ ept_numbers g.ept

numbers : Context → List ℕ
numbers c = c.capability ∷ c.width ∷ c.linear_width ∷ c.pcid ∷ c.cpl ∷ place_numbers c.place

-- a new buffer of 64 bytes, which no step may write past its new table
buffer : List ℕ
buffer = replicate 64 0xEE

-- a card: a step, its answer and dropped count, the context after it, and the new table, which is
-- empty where the step is refused
record Card : Type 0 where
  context : Context
  table : List ℕ
  event : List ℕ
  answer : ℕ
  dropped : ℕ
  after : Context
  new : List ℕ

holds : Card → Bool
holds k =
    let s = stepped k.context k.table k.event 64 in
    eqb s.answer k.answer
    && eqb s.dropped k.dropped
    && eqb s.length (length k.new)
    && same (numbers s.context) (numbers k.after)
    && same (written k.context k.table k.event buffer) (k.new ++ drop (length k.new) buffer)

-- a lookup, its answer, and the record that it hands back with its start
record Look : Type 0 where
  context : Context
  address : Address
  table : List ℕ
  nth : ℕ
  answer : ℕ
  start : ℕ
  part : List ℕ

shows : Look → Bool
shows k =
    eqb (lookup_answer k.context k.table) k.answer
    && eqb (lookup_start k.context k.address k.table k.nth) k.start
    && same (lookup k.context k.address k.table k.nth) k.part

-- a reason: a record and an event, the number of why the record goes or stays, and the answer of a refusal
record Why : Type 0 where
  context : Context
  bytes : List ℕ
  event : List ℕ
  number : ℕ
  answer : ℕ

tells : Why → Bool
tells k =
    let why = explanation k.context k.bytes k.event in
    eqb (explanation_number why) k.number && eqb (explanation_answer why) k.answer

all : {A : Type 0} → (A → Bool) → List A → Bool
all p [] = true
all p (x ∷ xs) = p x && all p xs

-- the program's capability: bits 6, 8, 14, 20, 21, 25, 26, 32, 40 to 43
without_21 : ℕ
without_21 = 2 ^ 6 + 2 ^ 8 + 2 ^ 14 + 2 ^ 20 + 2 ^ 25 + 2 ^ 26 + 2 ^ 32 + 2 ^ 40 + 2 ^ 41 + 2 ^ 42 + 2 ^ 43

program : ℕ
program = without_21 + 2 ^ 21

-- a context of a linear width
at_width : ℕ → ℕ → ℕ → ℕ → ℕ → Place → Context
at_width linear_width capability width pcid cpl place =
    record {
      capability = capability;
      width = width;
      linear_width = linear_width;
      pcid = pcid;
      cpl = cpl;
      place = place;
    }

-- "Root, CPL 0, program's capability", PCID 0 and N = 52 unless said. "the bench cards run at 48" (document 02, Ask 12)
at : ℕ → ℕ → ℕ → ℕ → Place → Context
at = at_width 48

root : Context
root = at program 52 0 0 Root

outside : Context
outside = at program 52 0 0 Outside

-- a guest with PCID 1, without EPT and with EP4TA 1234567h
guest : ℕ → Context
guest vpid = at program 52 1 0 (Guest (record { vpid = vpid; ept = Off }))

ept_guest : ℕ → Context
ept_guest vpid = at program 52 1 0 (Guest (record { vpid = vpid; ept = On 0x1234567 }))

A : List ℕ
A = 0x01 ∷ 0x05 ∷ 0x00 ∷ 0x01 ∷ 0x00 ∷ 0x00 ∷ 0x00 ∷ 0x45 ∷ 0x23 ∷ 0x01 ∷ 0x00 ∷ 0x00 ∷ 0xDE ∷ 0xBC ∷ 0x0A ∷ 0x00 ∷ 0x00 ∷ []

G : List ℕ
G = 0x02 ∷ 0x67 ∷ 0x45 ∷ 0x23 ∷ 0x01 ∷ 0x00 ∷ 0x00 ∷ 0x10 ∷ 0x00 ∷ 0x00 ∷ 0x00 ∷ 0x00 ∷ 0x20 ∷ 0x00 ∷ 0x00 ∷ 0x00 ∷ 0x00 ∷ []

-- an event on an empty table: its answer, and the rule of its EPTP (document 02, Ask 6), which the
-- explanation of G names too
record Ruled : Type 0 where
  context : Context
  event : List ℕ
  answer : ℕ
  rule : ℕ

rules : Ruled → Bool
rules k =
    let s = stepped k.context [] k.event 64 in
    eqb s.answer k.answer
    && eqb s.rule k.rule
    && eqb (explanation_rule (explanation k.context G k.event)) k.rule

-- records of each kind, of EP4TA 1234567h where they have one: VPID, PCID, global, span, page
linear : ℕ → ℕ → ℕ → ℕ → ℕ → List ℕ
linear vpid pcid global span page =
    1 ∷ bytes 2 vpid ++ bytes 2 pcid ++ (global ∷ span ∷ []) ++ bytes 5 page ++ bytes 5 0xABCDE

guest_physical : ℕ → ℕ → List ℕ
guest_physical span page = 2 ∷ bytes 5 0x1234567 ++ (span ∷ []) ++ bytes 5 page ++ bytes 5 7

combined : ℕ → ℕ → ℕ → ℕ → ℕ → List ℕ
combined vpid pcid global span page =
    3 ∷ bytes 2 vpid ++ bytes 2 pcid ++ (global ∷ span ∷ []) ++ bytes 5 page ++ bytes 5 7 ++ bytes 5 0x1234567

linear_structure : ℕ → ℕ → ℕ → ℕ → List ℕ
linear_structure vpid pcid span page = 4 ∷ bytes 2 vpid ++ bytes 2 pcid ++ (span ∷ []) ++ bytes 5 page ++ bytes 5 9

guest_physical_structure : ℕ → ℕ → List ℕ
guest_physical_structure span page = 5 ∷ bytes 5 0x1234567 ++ (span ∷ []) ++ bytes 5 page ++ bytes 5 9

combined_structure : ℕ → ℕ → ℕ → ℕ → List ℕ
combined_structure vpid pcid span page =
    6 ∷ bytes 2 vpid ++ bytes 2 pcid ++ (span ∷ []) ++ bytes 5 page ++ bytes 5 9 ++ bytes 5 0x1234567

-- document 02, Ask 12: contexts of linear width 57, and the kinds 7 to 10
root_57 : Context
root_57 = at_width 57 program 52 0 0 Root

guest_57 : ℕ → Context
guest_57 vpid = at_width 57 program 52 1 0 (Guest (record { vpid = vpid; ept = Off }))

ept_guest_57 : ℕ → Context
ept_guest_57 vpid = at_width 57 program 52 1 0 (Guest (record { vpid = vpid; ept = On 0x1234567 }))

linear_57 : ℕ → ℕ → ℕ → ℕ → ℕ → List ℕ
linear_57 vpid pcid global span page =
    7 ∷ bytes 2 vpid ++ bytes 2 pcid ++ (global ∷ span ∷ []) ++ bytes 6 page ++ bytes 5 0xABCDE

combined_57 : ℕ → ℕ → ℕ → ℕ → ℕ → List ℕ
combined_57 vpid pcid global span page =
    8 ∷ bytes 2 vpid ++ bytes 2 pcid ++ (global ∷ span ∷ []) ++ bytes 6 page ++ bytes 5 7 ++ bytes 5 0x1234567

linear_structure_57 : ℕ → ℕ → ℕ → ℕ → List ℕ
linear_structure_57 vpid pcid span page = 9 ∷ bytes 2 vpid ++ bytes 2 pcid ++ (span ∷ []) ++ bytes 6 page ++ bytes 5 9

combined_structure_57 : ℕ → ℕ → ℕ → ℕ → List ℕ
combined_structure_57 vpid pcid span page =
    10 ∷ bytes 2 vpid ++ bytes 2 pcid ++ (span ∷ []) ++ bytes 6 page ++ bytes 5 9 ++ bytes 5 0x1234567

-- a table of each translation, and of each structure cache; the latter with VPID 0
translations : List ℕ
translations = linear 0 1 1 0 0 ++ guest_physical 0 0 ++ combined 0 1 0 0 0

structures : List ℕ
structures = linear_structure 5 1 1 0 ++ guest_physical_structure 1 0 ++ combined_structure 5 1 1 0

structures_of_0 : List ℕ
structures_of_0 = linear_structure 0 1 1 0 ++ combined_structure 0 1 1 0

-- the other events
invvpid : ℕ → ℕ → ℕ → List ℕ
invvpid type low high = 16 ∷ bytes 8 type ++ bytes 8 low ++ bytes 8 high

invept : ℕ → ℕ → ℕ → List ℕ
invept type low high = 17 ∷ bytes 8 type ++ bytes 8 low ++ bytes 8 high

invlpg : ℕ → List ℕ
invlpg address = 18 ∷ bytes 8 address

ept_violation : ℕ → ℕ → ℕ → List ℕ
ept_violation physical flag linear_address = 19 ∷ bytes 8 physical ++ (flag ∷ []) ++ bytes 8 linear_address

vm_entry : ℕ → ℕ → ℕ → ℕ → ℕ → ℕ → List ℕ
vm_entry vpids vpid ept eptp pcid cpl =
    20 ∷ (vpids ∷ []) ++ bytes 2 vpid ++ (ept ∷ []) ++ bytes 8 eptp ++ bytes 2 pcid ++ (cpl ∷ [])

vm_exit : ℕ → List ℕ
vm_exit pcid = 21 ∷ bytes 2 pcid

new_pcid_cpl : ℕ → ℕ → List ℕ
new_pcid_cpl pcid cpl = 24 ∷ bytes 2 pcid ++ (cpl ∷ [])

invpcid : ℕ → ℕ → ℕ → List ℕ
invpcid type low high = 26 ∷ bytes 8 type ++ bytes 8 low ++ bytes 8 high

mov_to_cr3 : ℕ → List ℕ
mov_to_cr3 pcid = 27 ∷ bytes 2 pcid

-- a step that is accepted and leaves the context, one that changes it, and one that is refused
accepts : Context → List ℕ → List ℕ → ℕ → List ℕ → Card
accepts c t e n new = record { context = c; table = t; event = e; answer = 0; dropped = n; after = c; new = new }

moves : Context → List ℕ → List ℕ → ℕ → List ℕ → Context → Card
moves c t e n new after = record { context = c; table = t; event = e; answer = 0; dropped = n; after = after; new = new }

refuses : Context → List ℕ → List ℕ → ℕ → Card
refuses c t e n = record { context = c; table = t; event = e; answer = n; dropped = 0; after = c; new = [] }

finds : Context → Address → List ℕ → ℕ → ℕ → List ℕ → Look
finds c a t k start part = record { context = c; address = a; table = t; nth = k; answer = 0; start = start; part = part }

misses : Context → Address → List ℕ → ℕ → ℕ → Look
misses c a t k answer = record { context = c; address = a; table = t; nth = k; answer = answer; start = 0; part = [] }

says : Context → List ℕ → List ℕ → ℕ → Why
says c r e n = record { context = c; bytes = r; event = e; number = n; answer = 0 }

-- the starred cards, in the document's order
starred : List Card
starred =
    -- A, G; INVVPID 1, VPID 5
    accepts root (A ++ G) (invvpid 1 5 0) 1 G
    -- A; type 0, VPID 5, address 12345678h: dropped; 12346000h: kept
    ∷ accepts root A (invvpid 0 5 0x12345678) 1 []
    ∷ accepts root A (invvpid 0 5 0x12346000) 0 A
    -- type 0: the two canonical addresses, and one that is not; type 1 with that address
    ∷ accepts root A (invvpid 0 5 0x00007FFFFFFFF000) 0 A
    ∷ accepts root A (invvpid 0 5 0xFFFF800000000000) 0 A
    ∷ refuses root A (invvpid 0 5 0x0000800000000000) 8
    ∷ accepts root A (invvpid 1 5 0x0000800000000000) 1 []
    -- type 0, VPID 0; type 2, VPID 0; type 2, descriptor bit 16 set
    ∷ refuses root A (invvpid 0 0 0) 8
    ∷ accepts root A (invvpid 2 0 0) 1 []
    ∷ refuses root A (invvpid 2 (5 + 2 ^ 16) 0) 8
    -- A with span 1 and page 12200h covers page 12345h; page 12201h with span 1
    ∷ accepts root (linear 5 1 0 1 0x12200) (invvpid 0 5 0x12345000) 1 []
    ∷ refuses root (linear 5 1 0 1 0x12201) (invvpid 0 5 0x12345000) 3
    -- A with global 1 stays under type 3
    ∷ accepts root (linear 5 1 1 0 0x12345) (invvpid 3 5 0) 0 (linear 5 1 1 0 0x12345)
    -- G; INVEPT 1, EPTP 123456701Eh with N = 37 and N = 36; 123456705Eh, and capability bit 21
    ∷ accepts (at program 37 0 0 Root) G (invept 1 0x123456701E 0) 1 []
    ∷ refuses (at program 36 0 0 Root) G (invept 1 0x123456701E 0) 8
    ∷ accepts root G (invept 1 0x123456705E 0) 1 []
    ∷ refuses (at without_21 52 0 0 Root) G (invept 1 0x123456705E 0) 8
    ∷ []

-- the answers, each by its grounds
answered : List Card
answered =
    -- 1: N, PCID, CPL, VPID and EP4TA past their bounds, before anything else is looked at
    refuses (at program 53 0 0 Root) (0 ∷ []) [] 1
    ∷ refuses (at program 35 0 0 Root) [] [] 1
    ∷ refuses (at program 52 4096 0 Root) [] [] 1
    ∷ refuses (at program 52 0 4 Root) [] [] 1
    ∷ refuses (guest 65536) [] [] 1
    ∷ refuses (at program 52 0 0 (Guest (record { vpid = 0; ept = On (2 ^ 40) }))) [] [] 1
    -- 3: an unknown kind, a cut record, and each field past its bound; the bound itself is valid
    ∷ refuses root (11 ∷ []) (25 ∷ []) 3
    ∷ refuses root (22 ∷ []) (25 ∷ []) 3
    ∷ refuses root (A ++ (1 ∷ [])) (25 ∷ []) 3
    ∷ refuses root (linear 5 4096 0 0 0) (25 ∷ []) 3
    ∷ accepts root (linear 5 4095 0 0 0) (invvpid 1 5 0) 1 []
    ∷ refuses root (linear 5 1 2 0 0) (25 ∷ []) 3
    ∷ refuses root (linear 5 1 0 3 0) (25 ∷ []) 3
    ∷ accepts root (linear 5 1 0 2 0) (invvpid 1 5 0) 1 []
    ∷ refuses root (linear_structure 5 1 0 0) (25 ∷ []) 3
    ∷ refuses root (combined_structure 5 1 4 0) (25 ∷ []) 3
    ∷ accepts root (combined_structure 5 1 3 0) (invvpid 1 5 0) 1 []
    ∷ refuses root (guest_physical 3 0) (25 ∷ []) 3
    ∷ refuses root (guest_physical_structure 0 0) (25 ∷ []) 3
    ∷ refuses root (linear 5 1 0 0 (2 ^ 36)) (25 ∷ []) 3
    ∷ accepts root (linear 5 1 0 0 (2 ^ 36 - 1)) (invvpid 1 5 0) 1 []
    -- 4: no byte, an unknown kind, a byte too few or too many, two events, each field past its bound
    ∷ refuses root A [] 4
    ∷ refuses root A (28 ∷ []) 4
    ∷ refuses root A (26 ∷ []) 4
    ∷ refuses root A (22 ∷ 22 ∷ []) 4
    ∷ refuses root A (16 ∷ bytes 23 0) 4
    ∷ refuses (guest 5) A (vm_exit 4096) 4
    ∷ refuses root A (new_pcid_cpl 0 4) 4
    ∷ refuses root A (new_pcid_cpl 4096 0) 4
    ∷ refuses root A (vm_entry 2 5 0 0 1 0) 4
    ∷ refuses root A (vm_entry 0 0 2 0 1 0) 4
    ∷ refuses outside A (ept_violation (2 ^ 48) 0 0) 4
    ∷ refuses outside A (ept_violation 0 2 0) 4
    ∷ refuses outside A (ept_violation 0 1 (2 ^ 47)) 4
    ∷ refuses outside A (ept_violation 0 0 (2 ^ 47)) 9
    -- 5, 6 and 7: the number decides, not the kind
    ∷ refuses outside A (invvpid 1 5 0) 5
    ∷ refuses outside A (invept 2 0 0) 5
    ∷ refuses outside A (vm_entry 1 5 0 0 1 0) 5
    ∷ refuses (at program 52 0 3 Outside) A (23 ∷ []) 5
    ∷ refuses (at program 52 0 3 Outside) A (22 ∷ []) 7
    ∷ refuses (at (2 ^ 20) 52 0 3 (Guest (record { vpid = 5; ept = Off }))) A (invvpid 1 5 0) 5
    ∷ refuses (at (2 ^ 32) 52 0 3 (Guest (record { vpid = 5; ept = Off }))) A (invept 1 5 0) 5
    ∷ refuses (at program 52 0 3 (Guest (record { vpid = 5; ept = Off }))) A (invvpid 9 5 0) 6
    ∷ refuses (guest 5) A (invept 9 0 0) 6
    ∷ refuses (guest 5) A (vm_entry 1 5 0 0 1 0) 6
    ∷ refuses (guest 5) A (22 ∷ []) 6
    ∷ refuses (guest 5) A (23 ∷ []) 6
    ∷ refuses (at program 52 0 1 Root) A (invvpid 9 5 0) 7
    ∷ refuses (at program 52 0 1 Root) A (invept 9 0 0) 7
    ∷ refuses (at program 52 0 1 Root) A (vm_entry 1 0 0 0 1 0) 7
    ∷ refuses (at program 52 0 1 Root) A (22 ∷ []) 7
    ∷ refuses (at program 52 0 1 Root) A (23 ∷ []) 7
    ∷ refuses (at program 52 0 1 Outside) A (invlpg 0) 7
    -- 8: types, their capability bits, reserved bits, VPID 0, addresses and EPTPs
    ∷ refuses root A (invvpid 4 5 0) 8
    ∷ refuses root A (invvpid (2 ^ 32 + 1) 5 0) 8
    ∷ refuses root A (invvpid 1 (5 + 2 ^ 63) 0) 8
    ∷ refuses root A (invvpid 1 0 0) 8
    ∷ refuses root A (invvpid 3 0 0) 8
    -- each of bits 63 to 47 counts
    ∷ refuses root A (invvpid 0 5 (2 ^ 63)) 8
    ∷ refuses root A (invvpid 0 5 (2 ^ 63 - 1)) 8
    ∷ refuses root A (invvpid 0 5 0xFFFF7FFFFFFFFFFF) 8
    ∷ refuses root A (invvpid 0 5 0x0001000000000000) 8
    ∷ refuses (at (program - 2 ^ 40) 52 0 0 Root) A (invvpid 0 5 0) 8
    ∷ refuses (at (program - 2 ^ 41) 52 0 0 Root) A (invvpid 1 5 0) 8
    ∷ refuses (at (program - 2 ^ 42) 52 0 0 Root) A (invvpid 2 5 0) 8
    ∷ refuses (at (program - 2 ^ 43) 52 0 0 Root) A (invvpid 3 5 0) 8
    ∷ refuses root A (invept 0 0x123456701E 0) 8
    ∷ refuses root A (invept 3 0x123456701E 0) 8
    ∷ refuses (at (program - 2 ^ 25) 52 0 0 Root) A (invept 1 0x123456701E 0) 8
    ∷ refuses (at (program - 2 ^ 26) 52 0 0 Root) A (invept 2 0 0) 8
    ∷ refuses root A (invept 2 0 1) 8
    ∷ refuses root A (invept 1 0x123456701E (2 ^ 63)) 8
    ∷ accepts root G (invept 1 0x1234567018 0) 1 []
    ∷ refuses (at (program - 2 ^ 8) 52 0 0 Root) G (invept 1 0x1234567018 0) 8
    ∷ refuses (at (program - 2 ^ 14) 52 0 0 Root) G (invept 1 0x123456701E 0) 8
    ∷ refuses (at (program - 2 ^ 6) 52 0 0 Root) G (invept 1 0x123456701E 0) 8
    ∷ refuses root G (invept 1 0x1234567019 0) 8
    ∷ refuses root G (invept 1 0x1234567016 0) 8
    ∷ refuses root G (invept 1 (0x123456701E + 2 ^ 7) 0) 8
    ∷ refuses root G (invept 1 (0x123456701E + 2 ^ 11) 0) 8
    ∷ refuses root G (invept 1 (0x123456701E + 2 ^ 52) 0) 8
    ∷ accepts root G (invept 1 (0x123456701E + 2 ^ 51) 0) 0 G
    -- 9, 10 and 11
    ∷ refuses root A (22 ∷ []) 9
    ∷ refuses root A (vm_exit 0) 9
    ∷ refuses outside A (vm_exit 0) 9
    ∷ refuses (guest 5) A (ept_violation 0 0 0) 9
    ∷ refuses root A (ept_violation 0 0 0) 9
    ∷ refuses root A (vm_entry 1 0 0 0 1 0) 10
    ∷ refuses root A (vm_entry 0 0 1 0x123456709E 1 0) 10
    ∷ refuses root [] A 11
    ∷ refuses (guest 5) [] (linear 5 2 1 0 0) 11
    ∷ refuses (ept_guest 5) [] A 11
    ∷ refuses root [] G 11
    ∷ refuses (guest 5) [] (combined 5 1 0 0 0) 11
    ∷ refuses (ept_guest 5) [] (combined 5 2 0 0 0) 11
    ∷ refuses (ept_guest 6) [] (combined 5 1 0 0 0) 11
    ∷ refuses (at program 52 1 0 (Guest (record { vpid = 5; ept = On 7 }))) [] (combined 5 1 0 0 0) 11
    ∷ refuses (at program 52 1 0 (Guest (record { vpid = 5; ept = On 7 }))) [] G 11
    ∷ accepts (guest 5) [] A 0 A
    ∷ accepts (guest 5) A (linear_structure 5 1 1 0) 0 (A ++ linear_structure 5 1 1 0)
    ∷ accepts (ept_guest 9) [] (guest_physical_structure 3 0) 0 (guest_physical_structure 3 0)
    ∷ accepts (ept_guest 5) [] (combined_structure 5 1 1 0) 0 (combined_structure 5 1 1 0)
    -- 12: the old table does not fit the buffer of 64 bytes, though all of it would go; nor does a
    -- creation; 11 goes first
    ∷ refuses root (A ++ A ++ A ++ A) (25 ∷ []) 12
    ∷ refuses (guest 5) (A ++ A ++ A) A 12
    ∷ accepts (guest 5) (linear_structure 5 1 1 0 ++ linear_structure 5 1 1 0 ++ linear_structure 5 1 1 0) (linear_structure 5 1 1 0) 0
    (linear_structure 5 1 1 0 ++ linear_structure 5 1 1 0 ++ linear_structure 5 1 1 0 ++ linear_structure 5 1 1 0)
    ∷ refuses root (A ++ A ++ A) A 11
    ∷ []

-- the scopes, and the mistakes that the document lists
dropping : List Card
dropping =
    -- INVVPID: global or not, all PCIDs; mistake 2: kinds 2 and 5 stay; VPID 0 stays under type 2
    accepts root (linear 5 9 1 0 0x12345) (invvpid 0 5 0x12345000) 1 []
    ∷ accepts root (linear 6 1 0 0 0x12345) (invvpid 0 5 0x12345000) 0 (linear 6 1 0 0 0x12345)
    ∷ accepts root (combined 5 9 1 0 0x12345) (invvpid 1 5 0) 1 []
    ∷ accepts root (G ++ guest_physical_structure 1 0) (invvpid 2 0 0) 0 (G ++ guest_physical_structure 1 0)
    ∷ accepts root (linear 0 1 0 0 0) (invvpid 2 0 0) 0 (linear 0 1 0 0 0)
    -- a page one span away is not covered
    ∷ accepts root (linear 5 1 0 1 0x12200) (invvpid 0 5 0x12400000) 0 (linear 5 1 0 1 0x12200)
    ∷ accepts root (linear_structure 5 1 2 0x40000) (invvpid 0 5 0x7FFFF000) 1 []
    ∷ accepts root (linear_structure 5 1 3 0) (invvpid 0 5 0x7FFFFFF000) 1 []
    -- mistake 4: type 3 takes structure caches
    ∷ accepts root (linear_structure 5 1 1 0x12200 ++ combined_structure 5 1 1 0) (invvpid 3 5 0) 2 []
    ∷ accepts root (combined 5 1 1 0 0) (invvpid 3 5 0) 0 (combined 5 1 1 0 0)
    -- INVEPT: kinds 1 and 4 stay, VPID 0 too goes; another EP4TA stays
    ∷ accepts root (A ++ linear_structure 5 1 1 0) (invept 2 0 0) 0 (A ++ linear_structure 5 1 1 0)
    ∷ accepts root (guest_physical_structure 1 0 ++ combined_structure 0 1 1 0) (invept 1 0x123456701E 0) 2 []
    ∷ accepts root (combined 5 1 0 0 0) (invept 1 0x123456801E 0) 0 (combined 5 1 0 0 0)
    -- INVLPG: the current VPID and page; the current PCID or, mistake 4, global; structure caches of
    -- the current PCID at any page (Ask 2), which INVVPID type 0 leaves; any EP4TA, EPT on or off; kinds
    -- 2 and 5 stay; no ground in the address
    ∷ accepts (ept_guest 5) (combined 5 2 1 0 0x12345) (invlpg 0x12345000) 1 []
    ∷ accepts (ept_guest 5) (combined 5 2 0 0 0x12345) (invlpg 0x12345000) 0 (combined 5 2 0 0 0x12345)
    ∷ accepts (ept_guest 5) A (invlpg 0x12345000) 1 []
    ∷ accepts (guest 5) (combined_structure 5 1 1 0x12200) (invlpg 0x12345000) 1 []
    ∷ accepts (guest 5) (linear_structure 5 2 1 0x12200) (invlpg 0x12345000) 0 (linear_structure 5 2 1 0x12200)
    ∷ accepts (guest 5) (linear_structure 5 1 1 0x12400) (invlpg 0x12345000) 1 []
    ∷ accepts root (linear_structure 5 1 1 0x12400) (invvpid 0 5 0x12345000) 0 (linear_structure 5 1 1 0x12400)
    ∷ accepts (guest 6) A (invlpg 0x12345000) 0 A
    ∷ accepts (guest 5) A (invlpg 0x12346000) 0 A
    ∷ accepts root (guest_physical 0 0x12345) (invlpg 0x12345000) 0 (guest_physical 0 0x12345)
    ∷ accepts (guest 5) (linear 5 1 0 0 0) (invlpg (2 ^ 48)) 0 (linear 5 1 0 0 0)
    ∷ accepts (guest 5) (linear 5 1 0 0 0xFFFFFFFFF) (invlpg 0xFFFFFFFFFFFFF000) 1 []
    -- EPT violation: kinds 2 and 5 by the guest-physical page; kinds 3 and 6 by the linear page with
    -- flag 1; mistake 3: a global record of another PCID stays; kinds 1 and 4 stay
    ∷ accepts (ept_guest 5) (guest_physical 0 0x10 ++ guest_physical_structure 1 0) (ept_violation 0x10000 0 0) 2 []
    ∷ accepts (ept_guest 5) (guest_physical 0 0x11) (ept_violation 0x10000 1 0x11000) 0 (guest_physical 0 0x11)
    ∷ accepts (ept_guest 5) (combined 5 1 0 0 0x10) (ept_violation 0x10000 0 0x10000) 0 (combined 5 1 0 0 0x10)
    ∷ accepts (ept_guest 5) (combined 5 1 1 0 0x12345 ++ combined_structure 5 1 1 0x12200) (ept_violation 0 1 0x12345000) 2 []
    ∷ accepts (ept_guest 5) (combined 5 2 1 0 0x12345) (ept_violation 0 1 0x12345000) 0 (combined 5 2 1 0 0x12345)
    ∷ accepts (ept_guest 6) (combined 5 1 0 0 0x12345) (ept_violation 0 1 0x12345000) 0 (combined 5 1 0 0 0x12345)
    ∷ accepts (ept_guest 5) A (ept_violation 0x12345000 1 0x12345000) 0 A
    ∷ accepts (at program 52 1 0 (Guest (record { vpid = 5; ept = On 7 }))) (G ++ combined 5 1 0 0 0x10) (ept_violation 0x10000 1 0x10000) 0
    (G ++ combined 5 1 0 0 0x10)
    -- entry asks the event's flag: VPID 0 goes without VPIDs; kinds 2 and 5 and other VPIDs stay
    ∷ moves root (linear 0 9 1 0 0 ++ combined 0 1 0 0 0) (vm_entry 0 9 0 0 1 3) 2 [] (at program 52 1 3 (Guest (record { vpid = 0; ept = Off })))
    ∷ moves root (A ++ G) (vm_entry 0 0 0 0 1 0) 0 (A ++ G) (at program 52 1 0 (Guest (record { vpid = 0; ept = Off })))
    ∷ moves root (linear 0 9 1 0 0) (vm_entry 1 5 0 7 1 0) 0 (linear 0 9 1 0 0) (guest 5)
    ∷ moves root (linear_structure 0 1 1 0) (vm_entry 1 5 1 0x123456705E 1 0) 0 (linear_structure 0 1 1 0) (ept_guest 5)
    -- exit asks the context's VPID
    ∷ moves (ept_guest 0) (linear 0 9 1 0 0 ++ combined_structure 0 1 1 0) (vm_exit 7) 2 [] (at program 52 7 0 Root)
    ∷ moves (ept_guest 0) (A ++ G) (vm_exit 7) 0 (A ++ G) (at program 52 7 0 Root)
    ∷ moves (guest 5) (linear 0 1 0 0 0) (vm_exit 7) 0 (linear 0 1 0 0 0) (at program 52 7 0 Root)
    -- VMXON, VMXOFF, a new PCID and CPL, and reset
    ∷ moves (at program 52 3 0 Outside) (linear 0 1 0 0 0) (22 ∷ []) 0 (linear 0 1 0 0 0) (at program 52 3 0 Root)
    ∷ moves (at program 52 3 0 Root) (linear 0 1 0 0 0) (23 ∷ []) 0 (linear 0 1 0 0 0) (at program 52 3 0 Outside)
    ∷ moves (at program 52 3 3 Root) A (new_pcid_cpl 9 2) 0 A (at program 52 9 2 Root)
    ∷ moves (at program 40 3 3 (Guest (record { vpid = 5; ept = Off }))) (A ++ G) (25 ∷ []) 2 [] (at program 40 0 0 Outside)
    ∷ moves root [] (25 ∷ []) 0 [] outside
    -- equal records may stand twice, and both go
    ∷ accepts root (A ++ A) (invvpid 1 5 0) 2 []
    ∷ []

-- bounds at the last number that is in range, and rules that the rows above leave open
bounded : List Card
bounded =
    -- a context's VPID, EP4TA, N, PCID and CPL at their last numbers
    accepts (guest 65535) [] (linear 65535 1 0 0 0) 0 (linear 65535 1 0 0 0)
    ∷ accepts (at program 52 1 0 (Guest (record { vpid = 5; ept = On (2 ^ 40 - 1) }))) G (invlpg 0) 0 G
    ∷ moves (at program 36 4095 3 Root) G (new_pcid_cpl 4095 3) 0 G (at program 36 4095 3 Root)
    -- the current VPID is 0 in root and outside
    ∷ accepts root (linear 0 0 0 0 0x12345) (invlpg 0x12345000) 1 []
    ∷ accepts outside (linear 0 0 0 0 0x12345) (invlpg 0x12345000) 1 []
    ∷ accepts root (linear 1 0 0 0 0x12345) (invlpg 0x12345000) 0 (linear 1 0 0 0 0x12345)
    ∷ accepts root [] (linear 0 0 0 0 0) 0 (linear 0 0 0 0 0)
    ∷ accepts outside [] (linear 0 0 0 0 0) 0 (linear 0 0 0 0 0)
    ∷ refuses outside [] (linear 1 0 0 0 0) 11
    -- a creation asks the VPID
    ∷ refuses (guest 6) [] A 11
    ∷ refuses (guest 6) [] (linear_structure 5 1 1 0) 11
    -- the named VPID has 16 bits
    ∷ accepts root (linear 0x8005 1 0 0 0 ++ A) (invvpid 1 0x8005 0) 1 A
    ∷ accepts root (linear 0x8005 1 0 0 0) (invvpid 3 5 0) 0 (linear 0x8005 1 0 0 0)
    -- an entry's PCID and CPL; its VPID has 16 bits, its EP4TA 40
    ∷ refuses root A (vm_entry 1 5 0 0 4096 0) 4
    ∷ refuses root A (vm_entry 1 5 0 0 0 4) 4
    ∷ moves root A (vm_entry 1 65535 0 0 4095 3) 0 A (at program 52 4095 3 (Guest (record { vpid = 65535; ept = Off })))
    ∷ moves root A (vm_entry 1 5 1 0xFFFFFFFFFF01E 4095 0) 0 A (at program 52 4095 0 (Guest (record { vpid = 5; ept = On (2 ^ 40 - 1) })))
    ∷ moves (guest 5) A (vm_exit 4095) 0 A (at program 52 4095 0 Root)
    -- an EPT violation at the last guest-physical page, and at both ends of the linear addresses
    ∷ accepts (ept_guest 5) (guest_physical 0 (2 ^ 36 - 1)) (ept_violation (2 ^ 48 - 1) 0 0) 1 []
    ∷ accepts (ept_guest 5) (combined 5 1 0 0 (2 ^ 35 - 1)) (ept_violation 0 1 0x7FFFFFFFFFFF) 1 []
    ∷ accepts (ept_guest 5) (combined 5 1 0 0 (2 ^ 35)) (ept_violation 0 1 0xFFFF800000000000) 1 []
    -- its combined records by the page, at each span
    ∷ accepts (ept_guest 5) (combined 5 1 0 0 0x12346) (ept_violation 0 1 0x12345000) 0 (combined 5 1 0 0 0x12346)
    ∷ accepts (ept_guest 5) (combined 5 1 0 1 0x12200) (ept_violation 0 1 0x12345000) 1 []
    ∷ accepts (ept_guest 5) (combined 5 1 0 1 0x12400) (ept_violation 0 1 0x12345000) 0 (combined 5 1 0 1 0x12400)
    ∷ accepts (ept_guest 5) (combined_structure 5 1 2 0) (ept_violation 0 1 0x12345000) 1 []
    ∷ accepts (ept_guest 5) (combined_structure 5 1 2 0x40000) (ept_violation 0 1 0x12345000) 0 (combined_structure 5 1 2 0x40000)
    ∷ accepts (ept_guest 5) (guest_physical 1 0x12200 ++ guest_physical 1 0x12400) (ept_violation 0x12345000 0 0) 1 (guest_physical 1 0x12400)
    ∷ accepts (ept_guest 5) (guest_physical_structure 2 0x40000) (ept_violation 0x12345000 0 0) 0 (guest_physical_structure 2 0x40000)
    -- the current EP4TA is the very one, neither a lower nor a higher
    ∷ accepts (at program 52 1 0 (Guest (record { vpid = 5; ept = On 0x1234568 }))) (G ++ combined 5 1 0 0 0x10) (ept_violation 0x10000 1 0x10000) 0
    (G ++ combined 5 1 0 0 0x10)
    ∷ refuses (at program 52 1 0 (Guest (record { vpid = 5; ept = On 0x1234568 }))) [] G 11
    ∷ refuses (at program 52 1 0 (Guest (record { vpid = 5; ept = On 0x1234566 }))) [] (combined 5 1 0 0 0) 11
    -- INVEPT type 2 takes every EP4TA; type 1 neither a lower nor a higher
    ∷ accepts root (G ++ combined 5 1 1 0 0) (invept 2 0 0) 2 []
    ∷ accepts root (guest_physical_structure 1 0 ++ combined_structure 0 1 1 0) (invept 2 0xFFFF 0) 2 []
    ∷ accepts root G (invept 1 0x123456601E 0) 0 G
    -- INVLPG leaves globals of another page, and of another VPID
    ∷ accepts (guest 5) (linear 5 2 1 0 0x12346) (invlpg 0x12345000) 0 (linear 5 2 1 0 0x12346)
    ∷ accepts (guest 6) (linear 5 2 1 0 0x12345) (invlpg 0x12345000) 0 (linear 5 2 1 0 0x12345)
    ∷ accepts (guest 5) (linear 5 1 0 1 0x12200 ++ linear 5 1 0 1 0x12400) (invlpg 0x12345000) 1 (linear 5 1 0 1 0x12400)
    -- VMXON, VMXOFF, kind 24 and a creation drop none of the six kinds
    ∷ moves (at program 40 9 0 Outside) translations (22 ∷ []) 0 translations (at program 40 9 0 Root)
    ∷ moves (at program 40 9 0 Outside) structures (22 ∷ []) 0 structures (at program 40 9 0 Root)
    ∷ moves (at program 40 9 0 Root) translations (23 ∷ []) 0 translations (at program 40 9 0 Outside)
    ∷ moves (at program 40 9 0 Root) structures (23 ∷ []) 0 structures (at program 40 9 0 Outside)
    ∷ moves (at program 40 9 1 Root) translations (new_pcid_cpl 1 2) 0 translations (at program 40 1 2 Root)
    ∷ moves (at program 40 9 1 Root) structures (new_pcid_cpl 1 2) 0 structures (at program 40 1 2 Root)
    ∷ accepts (ept_guest 0) (linear 0 1 0 0 0 ++ combined 0 1 0 0 0) (combined 0 1 0 0 0) 0 (linear 0 1 0 0 0 ++ combined 0 1 0 0 0 ++ combined 0 1 0 0 0)
    ∷ accepts (ept_guest 0) structures_of_0 (guest_physical 0 0) 0 (structures_of_0 ++ guest_physical 0 0)
    -- N and the capability stay where the context moves
    ∷ moves (at without_21 40 9 0 Root) A (vm_entry 1 5 0 0 1 2) 0 A (at without_21 40 1 2 (Guest (record { vpid = 5; ept = Off })))
    ∷ moves (at without_21 40 9 2 (Guest (record { vpid = 5; ept = Off }))) A (vm_exit 3) 0 A (at without_21 40 3 0 Root)
    ∷ moves (at without_21 40 9 2 (Guest (record { vpid = 5; ept = On 7 }))) A (new_pcid_cpl 3 1) 0 A (at without_21 40 3 1 (Guest (record { vpid = 5; ept = On 7 })))
    ∷ moves (at without_21 40 9 2 Root) A (25 ∷ []) 1 [] (at without_21 40 0 0 Outside)
    -- an entry without VPIDs and an exit of such a guest take VPID 0 alone, kinds 2 and 5 stay
    ∷ moves root (linear 1 0 0 0 0 ++ guest_physical_structure 1 0 ++ linear_structure 0 1 1 0) (vm_entry 0 0 0 0 1 0) 1 (linear 1 0 0 0 0 ++ guest_physical_structure 1 0)
    (at program 52 1 0 (Guest (record { vpid = 0; ept = Off })))
    ∷ moves (guest 0) (linear 1 0 0 0 0 ++ guest_physical_structure 1 0 ++ combined 0 1 1 0 0) (vm_exit 0) 1 (linear 1 0 0 0 0 ++ guest_physical_structure 1 0) root
    ∷ []

-- INVPCID and MOV to CR3 (document 02, Ask 5), in a guest with VPID 5 and PCID 1 unless said
by_pcid : List Card
by_pcid =
    -- 7: the type, of 64 bits; the reserved bits, with every type; the address with type 0 alone; the CPL
    refuses (guest 5) A (invpcid 4 1 0) 7
    ∷ refuses (guest 5) A (invpcid (2 ^ 32 + 1) 1 0) 7
    ∷ refuses (guest 5) A (invpcid (2 ^ 63) 1 0) 7
    ∷ refuses (guest 5) A (invpcid 0 (2 ^ 12 + 1) 0) 7
    ∷ refuses (guest 5) A (invpcid 1 (2 ^ 12) 0) 7
    ∷ refuses (guest 5) A (invpcid 2 (2 ^ 12) 0) 7
    ∷ refuses (guest 5) A (invpcid 3 (2 ^ 63 + 1) 0) 7
    ∷ refuses (guest 5) A (invpcid 0 1 (2 ^ 47)) 7
    ∷ accepts (guest 5) A (invpcid 1 1 (2 ^ 47)) 1 []
    ∷ refuses (at program 52 1 1 (Guest (record { vpid = 5; ept = Off }))) A (invpcid 1 1 0) 7
    ∷ refuses (at program 52 1 3 Outside) A (mov_to_cr3 1) 7
    -- 4: kind 27's PCID; the last one is valid
    ∷ refuses (at program 52 1 3 Outside) A (mov_to_cr3 4096) 4
    ∷ moves (guest 5) A (mov_to_cr3 4095) 0 A (at program 52 4095 0 (Guest (record { vpid = 5; ept = Off })))
    -- neither 5 nor 6, whatever the capability and the place are
    ∷ accepts (at 0 52 1 0 Outside) (linear 0 1 0 0 0) (invpcid 1 1 0) 1 []
    ∷ accepts (at 0 52 1 0 Root) (linear 0 1 0 0 0) (invpcid 2 0 0) 1 []
    ∷ moves (at 0 40 9 0 Root) (linear 0 1 0 0 0) (mov_to_cr3 1) 1 [] (at 0 40 1 0 Root)
    -- type 0: that PCID, covering the address, not global; a structure cache is never global
    ∷ accepts (guest 5) A (invpcid 0 1 0x12345678) 1 []
    ∷ accepts (guest 5) A (invpcid 0 1 0x12346000) 0 A
    ∷ accepts (guest 5) A (invpcid 0 2 0x12345678) 0 A
    ∷ accepts (guest 6) A (invpcid 0 1 0x12345678) 0 A
    ∷ accepts (guest 5) (linear 5 1 1 0 0x12345) (invpcid 0 1 0x12345678) 0 (linear 5 1 1 0 0x12345)
    ∷ accepts (guest 5) (linear_structure 5 1 1 0x12200 ++ linear_structure 5 1 1 0x12400) (invpcid 0 1 0x12345678) 1 (linear_structure 5 1 1 0x12400)
    -- type 1: that PCID, not global, any EP4TA and page; the descriptor's PCID and not the current one
    ∷ accepts (guest 5) (combined 5 1 0 0 7 ++ combined_structure 5 1 1 0) (invpcid 1 1 0) 2 []
    ∷ accepts (guest 5) (linear 5 1 1 0 0) (invpcid 1 1 0) 0 (linear 5 1 1 0 0)
    ∷ accepts (guest 5) (A ++ linear 5 4095 0 0 0) (invpcid 1 4095 0) 1 A
    ∷ accepts (guest 5) (linear 5 0x801 0 0 0) (invpcid 1 1 0) 0 (linear 5 0x801 0 0 0)
    -- type 2: all, global too, of the current VPID alone; kinds 2 and 5 stay
    ∷ accepts (ept_guest 5) (linear 5 9 1 0 0 ++ combined_structure 5 2 1 0) (invpcid 2 0 0) 2 []
    ∷ accepts (ept_guest 5) (G ++ guest_physical_structure 1 0 ++ linear 6 1 0 0 0) (invpcid 2 0 0) 0 (G ++ guest_physical_structure 1 0 ++ linear 6 1 0 0 0)
    -- type 3: all but global; structure caches go
    ∷ accepts (ept_guest 5) (linear 5 9 0 0 0 ++ combined_structure 5 2 1 0) (invpcid 3 0 0) 2 []
    ∷ accepts (ept_guest 5) (combined 5 9 1 0 0 ++ linear_structure 5 9 1 0) (invpcid 3 0 0) 1 (combined 5 9 1 0 0)
    -- kind 27: the new PCID's records and not the old one's, globals spared; then it is current
    ∷ moves (guest 5) (A ++ linear 5 2 0 0 0 ++ linear 5 2 1 0 0) (mov_to_cr3 2) 1 (A ++ linear 5 2 1 0 0) (at program 52 2 0 (Guest (record { vpid = 5; ept = Off })))
    ∷ moves (ept_guest 5) (combined_structure 5 2 3 0 ++ linear 6 2 0 0 0) (mov_to_cr3 2) 1 (linear 6 2 0 0 0) (at program 52 2 0 (Guest (record { vpid = 5; ept = On 0x1234567 })))
    ∷ moves (guest 5) A (mov_to_cr3 1) 1 [] (guest 5)
    ∷ moves (guest 5) (combined 5 2 0 0 7 ++ linear 5 3 0 0 0) (mov_to_cr3 2) 1 (linear 5 3 0 0 0) (at program 52 2 0 (Guest (record { vpid = 5; ept = Off })))
    ∷ []

tells_rule : Context → List ℕ → ℕ → ℕ → Ruled
tells_rule c e answer rule = record { context = c; event = e; answer = answer; rule = rule }

-- the rules of an EPTP, each by its ways to fail, and the first of several
by_rule : List Ruled
by_rule =
    tells_rule root (invept 1 0x123456701E 0) 0 0
    ∷ tells_rule root (invept 1 0x1234567019 0) 8 1
    ∷ tells_rule (at (program - 2 ^ 8) 52 0 0 Root) (invept 1 0x1234567018 0) 8 1
    ∷ tells_rule (at (program - 2 ^ 14) 52 0 0 Root) (invept 1 0x123456701E 0) 8 1
    ∷ tells_rule root (invept 1 0x123456701C 0) 8 1
    ∷ tells_rule root (invept 1 0x1234567016 0) 8 2
    ∷ tells_rule root (invept 1 0x123456703E 0) 8 2
    ∷ tells_rule (at (program - 2 ^ 6) 52 0 0 Root) (invept 1 0x123456701E 0) 8 2
    ∷ tells_rule (at without_21 52 0 0 Root) (invept 1 0x123456705E 0) 8 3
    ∷ tells_rule root (invept 1 (0x123456701E + 2 ^ 7) 0) 8 4
    ∷ tells_rule root (invept 1 (0x123456701E + 2 ^ 11) 0) 8 4
    ∷ tells_rule (at program 36 0 0 Root) (invept 1 0x123456701E 0) 8 5
    ∷ tells_rule root (invept 1 (0x123456701E + 2 ^ 52) 0) 8 5
    ∷ tells_rule (at without_21 36 0 0 Root) (invept 1 (2 ^ 64 - 1) 0) 8 1
    ∷ tells_rule (at without_21 36 0 0 Root) (invept 1 (0x1234567046 + 2 ^ 7) 0) 8 2
    ∷ tells_rule (at without_21 36 0 0 Root) (invept 1 (0x123456705E + 2 ^ 7) 0) 8 3
    ∷ tells_rule (at program 36 0 0 Root) (invept 1 (0x123456701E + 2 ^ 7) 0) 8 4
    -- the type, its bit and the upper half go first; type 2 asks no EPTP; nor do 5, 6 and 7
    ∷ tells_rule root (invept 3 0x1234567019 0) 8 0
    ∷ tells_rule (at (program - 2 ^ 25) 52 0 0 Root) (invept 1 0x1234567019 0) 8 0
    ∷ tells_rule root (invept 1 0x1234567019 (2 ^ 63)) 8 0
    ∷ tells_rule root (invept 2 0x1234567019 1) 8 0
    ∷ tells_rule root (invept 2 0x1234567019 0) 0 0
    ∷ tells_rule outside (invept 1 0x1234567019 0) 5 0
    ∷ tells_rule (guest 5) (invept 1 0x1234567019 0) 6 0
    ∷ tells_rule (at program 52 0 1 Root) (invept 1 0x1234567019 0) 7 0
    ∷ tells_rule root (invvpid 1 0 0) 8 0
    -- a VM entry: VPID 0 goes first; a disabled EPTP is not looked at
    ∷ tells_rule root (vm_entry 0 0 1 0x1234567019 1 0) 10 1
    ∷ tells_rule root (vm_entry 1 5 1 0x123456709E 1 0) 10 4
    ∷ tells_rule root (vm_entry 1 7 1 0x123456709E 9 3) 10 4
    ∷ tells_rule root (vm_entry 1 0 1 0x123456709E 1 0) 10 0
    ∷ tells_rule root (vm_entry 1 0 0 0 1 0) 10 0
    ∷ tells_rule root (vm_entry 1 5 0 0x123456709E 1 0) 0 0
    ∷ tells_rule root (vm_entry 0 0 1 0x123456709E 4096 0) 4 0
    ∷ []

-- Both linear widths (document 02, Ask 12): what each refuses, and kinds 7 to 10 at width 57.
by_width : List Card
by_width =
    -- 1: a linear width other than 48 and 57
    refuses (at_width 0 program 52 0 0 Root) [] [] 1
    ∷ refuses (at_width 47 program 52 0 0 Root) [] [] 1
    ∷ refuses (at_width 49 program 52 0 0 Root) [] [] 1
    ∷ refuses (at_width 56 program 52 0 0 Root) [] [] 1
    ∷ refuses (at_width 58 program 52 0 0 Root) [] [] 1
    -- 3 and 4: each kind of the other width, as a record and as an event; kinds 2 and 5 are of both
    ∷ refuses root (linear_57 5 1 0 0 0) (25 ∷ []) 3
    ∷ refuses root (A ++ combined_57 5 1 0 0 0) (25 ∷ []) 3
    ∷ refuses root (linear_structure_57 5 1 1 0) (25 ∷ []) 3
    ∷ refuses root (combined_structure_57 5 1 1 0 ++ A) (25 ∷ []) 3
    ∷ refuses root_57 A (25 ∷ []) 3
    ∷ refuses root_57 (G ++ combined 5 1 0 0 0) (25 ∷ []) 3
    ∷ refuses root_57 (linear_structure 5 1 1 0) (25 ∷ []) 3
    ∷ refuses root_57 (combined_structure 5 1 1 0) (25 ∷ []) 3
    ∷ refuses (guest 5) [] (linear_57 5 1 0 0 0) 4
    ∷ refuses (ept_guest 5) [] (combined_57 5 1 0 0 0) 4
    ∷ refuses (guest 5) [] (linear_structure_57 5 1 1 0) 4
    ∷ refuses (ept_guest 5) [] (combined_structure_57 5 1 1 0) 4
    ∷ refuses (guest_57 5) [] A 4
    ∷ refuses (ept_guest_57 5) [] (combined 5 1 0 0 0) 4
    ∷ refuses (guest_57 5) [] (linear_structure 5 1 1 0) 4
    ∷ refuses (ept_guest_57 5) [] (combined_structure 5 1 1 0) 4
    ∷ accepts (ept_guest_57 5) G (guest_physical_structure 1 0) 0 (G ++ guest_physical_structure 1 0)
    -- creations of kinds 7 to 10, as of their siblings
    ∷ accepts (guest_57 5) [] (linear_57 5 1 0 0 (2 ^ 45 - 1)) 0 (linear_57 5 1 0 0 (2 ^ 45 - 1))
    ∷ accepts (ept_guest_57 5) G (combined_57 5 1 1 2 0) 0 (G ++ combined_57 5 1 1 2 0)
    ∷ accepts (guest_57 5) [] (linear_structure_57 5 1 4 (2 ^ 36)) 0 (linear_structure_57 5 1 4 (2 ^ 36))
    ∷ accepts (ept_guest_57 5) [] (combined_structure_57 5 1 1 0) 0 (combined_structure_57 5 1 1 0)
    ∷ refuses (ept_guest_57 5) [] (linear_57 5 1 0 0 0) 11
    ∷ refuses (guest_57 5) [] (combined_57 5 1 0 0 0) 11
    ∷ refuses (guest_57 6) [] (linear_structure_57 5 1 1 0) 11
    ∷ refuses (ept_guest_57 5) [] (combined_structure_57 5 2 1 0) 11
    -- pages and spans at their bounds and past them; kinds 2 and 5 keep theirs
    ∷ refuses root_57 (linear_57 5 1 0 0 (2 ^ 45)) (25 ∷ []) 3
    ∷ refuses root_57 (combined_57 5 1 0 3 0) (25 ∷ []) 3
    ∷ refuses root_57 (linear_57 5 1 2 0 0) (25 ∷ []) 3
    ∷ refuses root_57 (combined_57 5 4096 0 0 0) (25 ∷ []) 3
    ∷ refuses root_57 (linear_structure_57 5 1 0 0) (25 ∷ []) 3
    ∷ refuses root_57 (linear_structure_57 5 1 5 0) (25 ∷ []) 3
    ∷ refuses root_57 (combined_structure_57 5 1 4 (2 ^ 35)) (25 ∷ []) 3
    ∷ accepts root_57 (combined_structure_57 5 1 4 (2 ^ 45 - 2 ^ 36)) (invvpid 1 5 0) 1 []
    ∷ accepts root_57 (combined_57 5 1 0 0 (2 ^ 45 - 1)) (invvpid 1 5 0) 1 []
    ∷ refuses root_57 (guest_physical_structure 4 0) (25 ∷ []) 3
    ∷ refuses root_57 (guest_physical 0 (2 ^ 36)) (25 ∷ []) 3
    ∷ refuses root_57 (linear_57 5 1 0 1 0x12201) (25 ∷ []) 3
    -- as events too, at both widths
    ∷ refuses (guest 5) [] (linear 5 1 0 3 0) 4
    ∷ refuses (guest_57 5) [] (linear_57 5 1 0 0 (2 ^ 45)) 4
    ∷ refuses (guest_57 5) [] (linear_structure_57 5 1 5 0) 4
    -- canonical: bits 63:56; 2^47 is canonical at 57 and not at 48
    ∷ accepts root_57 (linear_57 5 1 0 0 0) (invvpid 0 5 0x00FFFFFFFFFFF000) 0 (linear_57 5 1 0 0 0)
    ∷ accepts root_57 (linear_57 5 1 0 0 (2 ^ 44)) (invvpid 0 5 0xFF00000000000000) 1 []
    ∷ accepts root_57 (linear_57 5 1 0 0 (2 ^ 35)) (invvpid 0 5 0x0000800000000000) 1 []
    ∷ refuses root_57 [] (invvpid 0 5 0x0100000000000000) 8
    ∷ refuses root_57 [] (invvpid 0 5 0xFEFFFFFFFFFFF000) 8
    ∷ accepts root_57 [] (invvpid 0 5 0xFFFF800000000000) 0 []
    -- the last page of the upper half; a span of 4 covers 2^36 pages
    ∷ accepts root_57 (combined_57 5 1 0 0 (2 ^ 45 - 1)) (invvpid 0 5 0xFFFFFFFFFFFFFFFF) 1 []
    ∷ accepts root_57 (linear_structure_57 5 1 4 (2 ^ 45 - 2 ^ 36)) (invvpid 0 5 0xFFFFFFFFFFFFFFFF) 1 []
    ∷ accepts root_57 (linear_structure_57 5 1 4 (2 ^ 36)) (invvpid 0 5 0x0001FFFFFFFFFFFF) 1 []
    ∷ accepts root_57 (linear_structure_57 5 1 4 (2 ^ 36)) (invvpid 0 5 0x0002000000000000) 0 (linear_structure_57 5 1 4 (2 ^ 36))
    -- each scope takes kinds 7 to 10 as their siblings
    ∷ accepts root_57 (linear_57 5 1 1 0 0 ++ combined_structure_57 5 1 1 0) (invvpid 3 5 0) 1 (linear_57 5 1 1 0 0)
    ∷ accepts root_57 (combined_57 5 1 1 0 0 ++ linear_structure_57 5 1 1 0) (invvpid 2 0 0) 2 []
    ∷ accepts root_57 (linear_57 5 1 0 0 0 ++ G ++ combined_57 5 1 0 0 0) (invept 1 0x123456701E 0) 2 (linear_57 5 1 0 0 0)
    ∷ accepts root_57 (linear_structure_57 5 1 1 0 ++ combined_structure_57 5 1 1 0) (invept 2 0 0) 1 (linear_structure_57 5 1 1 0)
    ∷ accepts (guest_57 5) (linear_57 5 2 1 0 (2 ^ 36) ++ linear_57 5 2 0 0 (2 ^ 36)) (invlpg (2 ^ 48)) 1 (linear_57 5 2 0 0 (2 ^ 36))
    ∷ accepts (guest_57 5) (linear_structure_57 5 1 1 0 ++ combined_structure_57 5 1 1 0) (invlpg (2 ^ 48)) 2 []
    ∷ accepts (guest_57 5) (linear_57 5 1 0 0 0) (invlpg (2 ^ 48)) 0 (linear_57 5 1 0 0 0)
    ∷ accepts (guest_57 5) (linear_structure_57 5 1 1 0) (invlpg (2 ^ 56)) 0 (linear_structure_57 5 1 1 0)
    ∷ accepts (ept_guest_57 5) (combined_57 5 1 0 0 (2 ^ 44) ++ G) (ept_violation 0x10000 1 0xFF00000000000000) 2 []
    ∷ accepts (ept_guest_57 5) (combined_57 5 1 0 0 0x10 ++ combined_structure_57 5 1 4 0) (ept_violation 0 1 0) 1 (combined_57 5 1 0 0 0x10)
    ∷ refuses (ept_guest_57 5) [] (ept_violation 0 1 (2 ^ 56)) 4
    ∷ accepts (ept_guest_57 5) [] (ept_violation 0 1 (2 ^ 47)) 0 []
    ∷ refuses (ept_guest_57 5) [] (ept_violation (2 ^ 48) 0 0) 4
    ∷ accepts (guest_57 5) (linear_57 5 1 0 0 (2 ^ 35)) (invpcid 0 1 (2 ^ 47)) 1 []
    ∷ accepts (guest_57 5) (linear_57 5 1 0 0 (2 ^ 44)) (invpcid 0 1 0xFF00000000000000) 1 []
    ∷ refuses (guest_57 5) [] (invpcid 0 1 (2 ^ 56)) 7
    ∷ accepts (guest_57 5) (combined_57 5 1 1 0 0 ++ combined_structure_57 5 2 1 0) (invpcid 3 0 0) 1 (combined_57 5 1 1 0 0)
    -- no event changes the linear width, and a reset keeps it
    ∷ moves (guest_57 5) (linear_57 5 2 0 0 0) (mov_to_cr3 2) 1 [] (at_width 57 program 52 2 0 (Guest (record { vpid = 5; ept = Off })))
    ∷ moves root_57 (linear_57 0 1 0 0 0 ++ linear_57 5 1 0 0 0) (vm_entry 0 0 0 0 1 0) 1 (linear_57 5 1 0 0 0) (guest_57 0)
    ∷ moves (guest_57 0) (combined_structure_57 0 1 1 0) (vm_exit 0) 1 [] root_57
    ∷ moves (at_width 57 program 52 3 0 Outside) [] (22 ∷ []) 0 [] (at_width 57 program 52 3 0 Root)
    ∷ moves root_57 [] (23 ∷ []) 0 [] (at_width 57 program 52 0 0 Outside)
    ∷ moves root_57 [] (new_pcid_cpl 9 2) 0 [] (at_width 57 program 52 9 2 Root)
    ∷ moves root_57 (linear_57 5 1 0 0 0 ++ G) (25 ∷ []) 2 [] (at_width 57 program 52 0 0 Outside)
    ∷ []

-- 2 and 12 at the limit and one past it: of a table of so many bytes, the answer to a reset, and whether there
-- is room for A behind it in a new buffer of so many
limited : Bool
limited =
    eqb (answer root (replicate 47104 0) (25 ∷ []) 50000) 3
    && eqb (answer root (replicate 47105 0) (25 ∷ []) 50000) 2
    && not (no_room 50000 (replicate 47087 0) A)
    && no_room 50000 (replicate 47088 0) A
    && not (no_room 47104 (replicate 47087 0) A)
    && no_room 47103 (replicate 47087 0) A
    && not (no_room 47104 (replicate 47104 0) (25 ∷ []))
    && no_room 47103 (replicate 47104 0) (25 ∷ [])

-- the limit is one at both widths; any linear width but 57 is read as 48; a page has the bits from 12 to 47 or 56, a
-- guest-physical one to 47, and no more; and a reset keeps the number as it is
widths : Bool
widths =
    eqb (answer root_57 (replicate 47104 0) (25 ∷ []) 50000) 3
    && eqb (answer root_57 (replicate 47105 0) (25 ∷ []) 50000) 2
    && not (canonical 56 (2 ^ 47))
    && not (canonical 58 (2 ^ 47))
    && canonical 0 0xFFFF800000000000
    && eqb (page_of 48 (2 ^ 64 - 1)) (2 ^ 36 - 1)
    && eqb (page_of 57 (2 ^ 64 - 1)) (2 ^ 45 - 1)
    && eqb (guest_physical_page_of (2 ^ 64 - 1)) (2 ^ 36 - 1)
    && other_width 56 7
    && not (other_width 56 1)
    && valid_event 58 A
    && not (valid_event 58 (linear_57 5 1 0 0 0))
    && same (numbers (after_reset (at_width 56 program 53 9 3 Root))) (numbers (at_width 56 program 53 0 0 Outside))

-- the lengths of the kinds, with the kind byte
lengths : Bool
lengths =
    same (map length_of (1 ∷ 2 ∷ 3 ∷ 4 ∷ 5 ∷ 6 ∷ 7 ∷ 8 ∷ 9 ∷ 10 ∷ 16 ∷ 17 ∷ 18 ∷ 19 ∷ 20 ∷ 21 ∷ 22 ∷ 23 ∷ 24 ∷ 25 ∷ 26 ∷ 27 ∷ []))
    (17 ∷ 17 ∷ 22 ∷ 16 ∷ 17 ∷ 21 ∷ 18 ∷ 23 ∷ 17 ∷ 22 ∷ 25 ∷ 25 ∷ 9 ∷ 18 ∷ 16 ∷ 3 ∷ 1 ∷ 1 ∷ 4 ∷ 1 ∷ 25 ∷ 3 ∷ [])

-- lookups: both kinds of record count, in the table's order
looks : List Look
looks =
    finds (guest 5) (Linear 0x12345678) (A ++ linear_structure 5 1 1 0x12200) 0 0 A
    ∷ finds (guest 5) (Linear 0x12345678) (A ++ linear_structure 5 1 1 0x12200) 1 17 (linear_structure 5 1 1 0x12200)
    ∷ misses (guest 5) (Linear 0x12345678) (A ++ linear_structure 5 1 1 0x12200) 2 0
    -- another VPID, PCID or page; global serves every PCID; EPT in use wants its EP4TA
    ∷ misses (guest 6) (Linear 0x12345678) A 0 0
    ∷ misses (guest 5) (Linear 0x12345678) (linear 5 2 0 0 0x12345) 0 0
    ∷ finds (guest 5) (Linear 0x12345678) (G ++ linear 5 2 1 0 0x12345) 0 17 (linear 5 2 1 0 0x12345)
    ∷ misses (guest 5) (Linear 0x12346000) A 0 0
    ∷ misses (ept_guest 5) (Linear 0x12345678) A 0 0
    ∷ finds (ept_guest 5) (Linear 0x12345678) (combined 5 1 0 0 0x12345) 0 0 (combined 5 1 0 0 0x12345)
    ∷ misses (at program 52 1 0 (Guest (record { vpid = 5; ept = On 7 }))) (Linear 0x12345678) (combined 5 1 1 0 0x12345) 0 0
    ∷ misses (guest 5) (Linear 0x12345678) (combined 5 1 0 0 0x12345) 0 0
    -- guest-physical: the EP4TA alone, below 2^48, with EPT in use
    ∷ finds (ept_guest 9) (GuestPhysical 0x10FFF) (A ++ G) 0 17 G
    ∷ finds (ept_guest 9) (GuestPhysical 0) (guest_physical_structure 3 0) 0 0 (guest_physical_structure 3 0)
    ∷ misses (ept_guest 9) (GuestPhysical (0x10000 + 2 ^ 48)) G 0 0
    ∷ misses (guest 9) (GuestPhysical 0x10000) G 0 0
    ∷ misses (guest 5) (Linear (2 ^ 47)) (linear 5 1 0 2 0) 0 0
    -- the current VPID is 0 in root and outside
    ∷ finds (at program 52 1 0 Root) (Linear 0) (linear 0 1 0 0 0) 0 0 (linear 0 1 0 0 0)
    ∷ finds (at program 52 1 0 Outside) (Linear 0) (linear 1 1 0 0 0 ++ linear 0 1 0 0 0) 0 17 (linear 0 1 0 0 0)
    -- guest-physical: the page, the kind, and the very EP4TA; the last address of all
    ∷ misses (ept_guest 9) (GuestPhysical 0x11000) G 0 0
    ∷ misses (ept_guest 5) (GuestPhysical 0x12345000) (combined 5 1 0 0 0x12345) 0 0
    ∷ misses (at program 52 1 0 (Guest (record { vpid = 5; ept = On 0x1234568 }))) (GuestPhysical 0x10000) G 0 0
    ∷ misses (at program 52 1 0 (Guest (record { vpid = 5; ept = On 0x1234568 }))) (Linear 0x12345000) (combined 5 1 0 0 0x12345) 0 0
    ∷ finds (ept_guest 9) (GuestPhysical (2 ^ 48 - 1)) (guest_physical 0 (2 ^ 36 - 1)) 0 0 (guest_physical 0 (2 ^ 36 - 1))
    -- linear: both ends, a span, and the CPL, which is not asked
    ∷ finds (guest 5) (Linear 0xFFFF800000000000) (linear 5 1 0 0 (2 ^ 35)) 0 0 (linear 5 1 0 0 (2 ^ 35))
    ∷ finds (guest 5) (Linear 0x7FFFFFFFFFFF) (linear 5 1 0 0 (2 ^ 35 - 1)) 0 0 (linear 5 1 0 0 (2 ^ 35 - 1))
    ∷ misses (guest 5) (Linear 0x12400000) (linear 5 1 0 1 0x12200) 0 0
    ∷ finds (at program 52 1 3 (Guest (record { vpid = 5; ept = Off }))) (Linear 0x12345678) (linear 5 1 0 1 0x12200) 0 0 (linear 5 1 0 1 0x12200)
    ∷ misses (guest 5) (Linear 0x12345678) (linear_structure 5 2 1 0x12200) 0 0
    -- linear width 57: canonical and the page, with both kinds of record and a span of 4; guest-physical pages as at 48
    ∷ finds (guest_57 5) (Linear 0xFF00000000000000) (linear_57 5 1 0 0 (2 ^ 44)) 0 0 (linear_57 5 1 0 0 (2 ^ 44))
    ∷ finds (guest_57 5) (Linear (2 ^ 47)) (G ++ linear_57 5 2 1 0 (2 ^ 35)) 0 17 (linear_57 5 2 1 0 (2 ^ 35))
    ∷ misses (guest_57 5) (Linear (2 ^ 56)) (linear_57 5 1 0 0 (2 ^ 44)) 0 0
    ∷ finds (ept_guest_57 5) (Linear 0xFFFFFFFFFFFFFFFF) (combined_structure_57 5 1 4 (2 ^ 45 - 2 ^ 36)) 0 0 (combined_structure_57 5 1 4 (2 ^ 45 - 2 ^ 36))
    ∷ finds (ept_guest_57 5) (Linear 0) (combined_57 5 1 0 0 0 ++ combined_structure_57 5 1 1 0) 1 23 (combined_structure_57 5 1 1 0)
    ∷ misses (ept_guest_57 5) (Linear 0) (linear_57 5 1 0 0 0 ++ linear_structure_57 5 1 1 0) 0 0
    ∷ finds (ept_guest_57 5) (GuestPhysical (2 ^ 48 - 1)) (guest_physical 0 (2 ^ 36 - 1)) 0 0 (guest_physical 0 (2 ^ 36 - 1))
    ∷ misses (ept_guest_57 5) (GuestPhysical (2 ^ 48)) (guest_physical 0 0) 0 0
    ∷ misses (guest_57 5) (Linear 0) A 0 3
    ∷ misses (guest 5) (Linear 0) (linear_57 5 1 0 0 0) 0 3
    -- answers 1 and 3
    ∷ misses (at program 53 1 0 Root) (Linear 0) (linear 0 1 0 0 0) 0 1
    ∷ misses (at_width 56 program 52 1 0 Root) (Linear 0) (linear 0 1 0 0 0) 0 1
    ∷ misses (at program 52 1 0 Root) (Linear 0) (linear 0 1 0 0 0 ++ (0 ∷ [])) 0 3
    ∷ []

-- the reasons (document 02, Ask 1), in their order, each where no earlier one holds
reasons : List Why
reasons =
    -- 1, refused: by the context, the bytes, the event, and by what the event may do here
    record { context = at program 53 0 0 Root; bytes = []; event = []; number = 1; answer = 1 }
    ∷ record { context = root; bytes = []; event = 25 ∷ []; number = 1; answer = 3 }
    ∷ record { context = root; bytes = A ++ A; event = []; number = 1; answer = 3 }
    ∷ record { context = root; bytes = A; event = []; number = 1; answer = 4 }
    ∷ record { context = root; bytes = linear_57 5 1 0 0 0; event = []; number = 1; answer = 3 }
    ∷ record { context = root_57; bytes = A; event = []; number = 1; answer = 3 }
    ∷ record { context = root_57; bytes = G; event = A; number = 1; answer = 4 }
    ∷ record { context = root; bytes = A; event = invvpid 4 5 0; number = 1; answer = 8 }
    ∷ record { context = root; bytes = A; event = vm_exit 0; number = 1; answer = 9 }
    -- 2, no scope
    ∷ says (guest 5) A A 2
    ∷ says outside A (22 ∷ []) 2
    ∷ says root A (23 ∷ []) 2
    ∷ says root A (new_pcid_cpl 0 0) 2
    ∷ says root (linear 0 1 0 0 0) (vm_entry 1 5 0 0 1 0) 2
    ∷ says (guest 5) (linear 0 1 0 0 0) (vm_exit 0) 2
    -- 3, not canonical, whatever the record is
    ∷ says (guest 5) G (invlpg (2 ^ 47)) 3
    -- 4, wrong kind; an EPT violation asks combined mappings with flag 1 alone, and linear ones never
    ∷ says root G (invvpid 0 6 0) 4
    ∷ says root A (invept 1 0x123456801E 0) 4
    ∷ says (guest 6) G (invlpg 0) 4
    ∷ says (ept_guest 6) (combined 5 2 0 0 0x10) (ept_violation 0x20000 0 0x20000) 4
    ∷ says (ept_guest 6) A (ept_violation 0 1 0) 4
    ∷ says (guest 0) G (vm_exit 0) 4
    -- 5, wrong VPID, of VPID 0 under type 2 too
    ∷ says root (linear 6 1 1 0 0x12345) (invvpid 0 5 0) 5
    ∷ says root (linear 0 1 0 0 0) (invvpid 2 0 0) 5
    ∷ says root (linear 6 1 1 0 0) (invvpid 3 5 0) 5
    ∷ says (guest 6) (linear 5 2 0 0 0x12345) (invlpg 0) 5
    ∷ says (ept_guest 6) (combined 5 2 0 0 0x10) (ept_violation 0 1 0) 5
    ∷ says root A (vm_entry 0 0 0 0 1 0) 5
    -- 6, wrong PCID; no global translation's under INVLPG
    ∷ says (guest 5) (linear 5 2 0 0 0x12345) (invlpg 0) 6
    ∷ says (guest 5) (linear_structure 5 2 1 0) (invlpg 0) 6
    ∷ says (at program 52 1 0 (Guest (record { vpid = 5; ept = On 7 }))) (combined 5 2 1 0 0x10) (ept_violation 0 1 0) 6
    -- 7, wrong EP4TA
    ∷ says root G (invept 1 0x123456801E 0) 7
    ∷ says (at program 52 1 0 (Guest (record { vpid = 5; ept = On 7 }))) G (ept_violation 0 0 0) 7
    ∷ says (at program 52 1 0 (Guest (record { vpid = 5; ept = On 7 }))) (combined 5 1 0 0 0x10) (ept_violation 0 1 0) 7
    -- 8, not covering; a guest-physical mapping by the guest-physical page
    ∷ says root (linear 5 9 1 0 0x12345) (invvpid 0 5 0) 8
    ∷ says (guest 5) (linear 5 2 1 0 0x12345) (invlpg 0) 8
    ∷ says (ept_guest 5) (guest_physical 0 0x10) (ept_violation 0 1 0x10000) 8
    ∷ says (ept_guest 5) (combined 5 1 0 0 0x10) (ept_violation 0x10000 1 0) 8
    -- 9, spared as global
    ∷ says root (linear 5 1 1 0 0) (invvpid 3 5 0) 9
    -- INVPCID and MOV to CR3 (Ask 5): of a global of another PCID the PCID is named, but by type 3; the page goes
    -- before the global mark
    ∷ record { context = guest 5; bytes = A; event = invpcid 4 1 0; number = 1; answer = 7 }
    ∷ record { context = guest 5; bytes = A; event = mov_to_cr3 4096; number = 1; answer = 4 }
    ∷ says (guest 6) G (invpcid 2 0 0) 4
    ∷ says (guest 5) G (mov_to_cr3 1) 4
    ∷ says (guest 6) (linear 5 2 1 0 0) (invpcid 3 0 0) 5
    ∷ says (guest 6) (linear 5 2 1 0 0) (mov_to_cr3 1) 5
    ∷ says (guest 5) (linear 5 2 1 0 0x12345) (invpcid 0 1 0) 6
    ∷ says (guest 5) (linear 5 2 1 0 0) (invpcid 1 1 0) 6
    ∷ says (guest 5) A (mov_to_cr3 2) 6
    ∷ says (guest 5) (linear 5 1 1 0 0x12345) (invpcid 0 1 0) 8
    ∷ says (guest 5) (linear 5 1 1 0 0x12345) (invpcid 0 1 0x12345000) 9
    ∷ says (guest 5) (linear 5 2 1 0 0) (invpcid 3 1 0) 9
    ∷ says (guest 5) (linear 5 2 1 0 0) (mov_to_cr3 2) 9
    ∷ says (guest 5) (linear 5 2 1 0 0) (invpcid 2 1 0) 10
    ∷ says (guest 5) (linear_structure 5 2 1 0) (mov_to_cr3 2) 10
    -- kinds 7 to 10 are asked as their siblings (Ask 12)
    ∷ says (guest_57 5) G (invlpg (2 ^ 56)) 3
    ∷ says root_57 (linear_57 5 1 0 0 0) (invept 2 0 0) 4
    ∷ says root_57 (combined_57 6 1 1 0 0) (invvpid 3 5 0) 5
    ∷ says (guest_57 5) (linear_structure_57 5 2 1 0) (invlpg (2 ^ 48)) 6
    ∷ says root_57 (combined_structure_57 5 1 1 0) (invept 1 0x123456801E 0) 7
    ∷ says root_57 (linear_57 5 1 1 0 0) (invvpid 0 5 (2 ^ 48)) 8
    ∷ says root_57 (combined_57 5 1 1 0 0) (invvpid 3 5 0) 9
    ∷ says (guest_57 5) (linear_structure_57 5 1 1 0) (invlpg (2 ^ 48)) 10
    -- 10, in scope; INVLPG asks structure caches for no page (Ask 2)
    ∷ says root (linear 5 1 1 0 0) (invvpid 1 5 0) 10
    ∷ says (guest 5) (linear_structure 5 1 1 0x12400) (invlpg 0) 10
    ∷ says root G (25 ∷ []) 10
    ∷ []

-- Every row holds.
cards_hold : (all holds (starred ++ answered ++ dropping ++ bounded ++ by_pcid ++ by_width) && limited && widths && lengths && all shows looks && all tells reasons && all rules by_rule) ≡ true
unfolding tells_rule by_rule rules widths by_width at_width root_57 guest_57 ept_guest_57 linear_57 combined_57 linear_structure_57 combined_structure_57 valid_table of_width other_width wide eptp_rule own_rule rule_with invpcid mov_to_cr3 by_pcid bad_invpcid invpcid_tests mov_to_cr3_tests translations structures structures_of_0 bounded limited bytes same ept_numbers place_numbers numbers buffer holds shows all without_21 program at root outside guest ept_guest A G linear guest_physical combined linear_structure guest_physical_structure combined_structure invvpid invept invlpg ept_violation vm_entry vm_exit new_pcid_cpl accepts moves refuses finds misses starred answered lengths looks in_range after_reset kind_of mapping_kind event_kind body_of length_of field mapping fields_in_range starts_record record_length covers joined cut records_within records whole only count canonical operands violation entry new_pcid event event_in_range valid_event scope entered next_context first good_eptp invvpid_supported bad_invvpid invept_supported bad_invept invalid_opcode exits general_protection bad_entry creatable created no_room table_grounds event_grounds grounds answer new_table dropped_count stepped written translates_linear usable usable_records lookup_answer lookup start_of lookup_start accepted_step refused_step put Rattle.model.specs.Mappings.linear Rattle.model.specs.Mappings.guest_physical Rattle.model.specs.Mappings.combined structure_cache global_marked tells says dropping reasons invvpid_tests invept_tests invlpg_tests guest_physical_violation_tests combined_violation_tests violation_tests transition_tests has_scope first_failed reason one_record explained_answer explanation own_ground
cards_hold = refl
