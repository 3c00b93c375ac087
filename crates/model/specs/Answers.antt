-- Document 01, "Numbered answers": "The lowest number that applies is given, and only then."
use Rattle.std.specs.Prelude.{ℕ, min, ◌+◌, ◌/◌, ◌^◌, Bool, true, false, cond, not, ◌&&◌, ◌||◌, List, [], ◌∷◌, ◌++◌, eqb, ltb, length}
use Rattle.model.specs.declared.Context.{Context}
use Rattle.model.specs.declared.Ept.{Ept}
use Rattle.model.specs.declared.Ept.TheVariants.{Off, On}
use Rattle.model.specs.declared.Mapping.{Mapping}
use Rattle.model.specs.declared.Event.{Event}
use Rattle.model.specs.declared.Event.TheVariants.{Creation, Invvpid, Invept, Invlpg, EptViolation, Entry, Exit, Vmxon, Vmxoff, NewPcid, Reset, Invpcid, MovToCr3}
use Rattle.model.specs.declared.Operands.{Operands}
use Rattle.model.specs.declared.Entry
use Rattle.model.specs.Bits.{bits, bit}
use Rattle.model.specs.Context.{in_range, outside, in_root, in_guest, current_vpid, current_ept}
use Rattle.model.specs.Layouts.{kind_of, mapping_kind}
use Rattle.model.specs.Mappings.{linear, guest_physical, combined}
use Rattle.model.specs.Tables.{limit, records, whole, of_width}
use Rattle.model.specs.Events.{canonical, event, valid_event}
use Rattle.model.specs.Scopes.{is_current_ep4ta, vpid_named}

-- the number of the first ground that applies, or 0
unfoldable pub first : List (ℕ × Bool) → ℕ
first [] = 0
first (g ∷ grounds) = cond g.1 g.0 (first grounds)

-- the kind is one of a list
abbrev pub among : ℕ → List ℕ → Bool
among kind [] = false
among kind (k ∷ []) = eqb kind k
among kind (k ∷ l ∷ ks) = eqb kind k || among kind (l ∷ ks)

-- the kind of an event; a creation read from bytes has a mapping's kind
abbrev pub kind_number : Event → ℕ
kind_number (Creation m) = m.kind
kind_number (Invvpid o) = 16
kind_number (Invept o) = 17
kind_number (Invlpg address) = 18
kind_number (EptViolation v) = 19
kind_number (Entry n) = 20
kind_number (Exit pcid) = 21
kind_number Vmxon = 22
kind_number Vmxoff = 23
kind_number (NewPcid n) = 24
kind_number Reset = 25
kind_number (Invpcid o) = 26
kind_number (MovToCr3 pcid) = 27

-- The five rules of an EPTP: its memory type, its walk length, its accessed and dirty flag, bits 11:7, and the bits
-- above the width. An EPTP has 64 bits, so that 63:N are zero says that it is below 2^N.
abbrev pub good_memory_type : Context → ℕ → Bool
good_memory_type c eptp =
    (eqb (bits 2 0 eptp) 0 && bit 8 c.capability) || (eqb (bits 2 0 eptp) 6 && bit 14 c.capability)

abbrev pub good_walk_length : Context → ℕ → Bool
good_walk_length c eptp = eqb (bits 5 3 eptp) 3 && bit 6 c.capability

abbrev pub good_dirty_flag : Context → ℕ → Bool
good_dirty_flag c eptp = not (bit 6 eptp) || bit 21 c.capability

abbrev pub good_bits_11_7 : ℕ → Bool
good_bits_11_7 eptp = eqb (bits 11 7 eptp) 0

abbrev pub good_width : Context → ℕ → Bool
good_width c eptp = eqb (eptp / 2 ^ c.width) 0

-- "An EPTP is good if bits 2:0 are 0 with capability bit 8 or 6 with bit 14; bits 5:3 are 3 with bit
-- 6; its bit 6 is clear or capability bit 21 set; bits 11:7 and 63:N are zero."
unfoldable pub good_eptp : Context → ℕ → Bool
good_eptp c eptp =
    good_memory_type c eptp
    && good_walk_length c eptp
    && good_dirty_flag c eptp
    && good_bits_11_7 eptp
    && good_width c eptp

-- document 02, Ask 6: "the first failed rule: 1 memory type, 2 walk length, 3 accessed and dirty, 4 bits 11:7, 5 bits
-- above the width; 0 if good"
unfoldable pub eptp_rule : Context → ℕ → ℕ
eptp_rule c eptp =
    first
    ((1, not (good_memory_type c eptp))
    ∷ (2, not (good_walk_length c eptp))
    ∷ (3, not (good_dirty_flag c eptp))
    ∷ (4, not (good_bits_11_7 eptp))
    ∷ (5, not (good_width c eptp))
    ∷ [])

-- the INVVPID types and their capability bits: "40, 41, 42, 43 for types 0 to 3"
unfoldable pub invvpid_supported : ℕ → ℕ → Bool
invvpid_supported capability type =
    cond (eqb type 0) (bit 40 capability)
    (cond (eqb type 1) (bit 41 capability)
    (cond (eqb type 2) (bit 42 capability)
    (cond (eqb type 3) (bit 43 capability) false)))

-- "Answer 8, INVVPID": the type; "descriptor bits 63:16 not zero, for every type; VPID 0 with type 0,
-- 1 or 3; a non-canonical address with type 0" (002, Operation)
unfoldable pub bad_invvpid : Context → Operands → Bool
bad_invvpid c o =
    not (invvpid_supported c.capability o.type_number)
    || not (eqb (bits 63 16 o.low) 0)
    || (eqb (vpid_named o) 0 && not (eqb o.type_number 2))
    || (eqb o.type_number 0 && not (canonical c.linear_width o.high))

-- "a type other than 1 (bit 25) or 2 (bit 26)"
unfoldable pub invept_supported : ℕ → ℕ → Bool
invept_supported capability type =
    cond (eqb type 1) (bit 25 capability)
    (cond (eqb type 2) (bit 26 capability) false)

-- "INVEPT: [the type], or its bit clear; descriptor bits 127:64 not zero; a bad EPTP with type 1"
unfoldable pub bad_invept : Context → Operands → Bool
bad_invept c o =
    not (invept_supported c.capability o.type_number)
    || not (eqb o.high 0)
    || (eqb o.type_number 1 && not (good_eptp c o.low))

-- 5, "#UD: kinds 16, 17, 20, 23 outside VMX; 16 with capability bit 32 clear, 17 with bit 20 clear"
unfoldable pub invalid_opcode : Context → Event → Bool
invalid_opcode c e =
    (among (kind_number e) (16 ∷ 17 ∷ 20 ∷ 23 ∷ []) && outside c.place)
    || (eqb (kind_number e) 16 && not (bit 32 c.capability))
    || (eqb (kind_number e) 17 && not (bit 20 c.capability))

-- 6, "VM exit: kinds 16, 17, 20, 22, 23 in a guest"
unfoldable pub exits : Context → Event → Bool
exits c e = among (kind_number e) (16 ∷ 17 ∷ 20 ∷ 22 ∷ 23 ∷ []) && in_guest c.place

-- 7, "#GP(0): kinds 16, 17, 18, 20, 22, 23 with CPL above 0"; "as is CPL above 0 for both kinds" of Ask 5
unfoldable pub general_protection : Context → Event → Bool
general_protection c e = among (kind_number e) (16 ∷ 17 ∷ 18 ∷ 20 ∷ 22 ∷ 23 ∷ 26 ∷ 27 ∷ []) && ltb 0 c.cpl

-- Ask 5: "A type above 3, reserved bits set, or type 0 with a non-canonical address is answer 7". The reserved bits
-- of the descriptor are 63:12, for every type.
unfoldable pub bad_invpcid : Context → Operands → Bool
bad_invpcid c o =
    ltb 3 o.type_number
    || not (eqb (bits 63 12 o.low) 0)
    || (eqb o.type_number 0 && not (canonical c.linear_width o.high))

-- EPT is in use
abbrev pub ept_in_use : Ept → Bool
ept_in_use Off = false
ept_in_use (On ep4ta) = true

-- "VM entry: VPIDs enabled with VPID 0, or EPT enabled with a bad EPTP"
unfoldable pub bad_entry : Context → Entry.Entry → Bool
bad_entry c n = (eqb n.vpids 1 && eqb n.vpid 0) || (eqb n.ept 1 && not (good_eptp c n.eptp))

-- "Creation: kinds 1 and 4 need EPT not in use and the current VPID and PCID. Kinds 2 and 5 need EPT
-- in use and the current EP4TA. Kinds 3 and 6 need EPT in use and all three tags current." (000,
-- 29.4.2)
unfoldable pub creatable : Context → Mapping → Bool
creatable c m =
    (linear m.kind
    && not (ept_in_use (current_ept c.place))
    && eqb m.vpid (current_vpid c.place)
    && eqb m.pcid c.pcid)
    || (guest_physical m.kind && is_current_ep4ta (current_ept c.place) m.ep4ta)
    || (combined m.kind
    && is_current_ep4ta (current_ept c.place) m.ep4ta
    && eqb m.vpid (current_vpid c.place)
    && eqb m.pcid c.pcid)

-- the number of the ground that is an event's own, or 0; no event has two. 7, of INVPCID; 8, "VMfail, invalid operand";
-- 9, "VMXON in root; VM exit not in a guest; EPT violation not in a guest with EPT"; 10, of a VM entry;
-- 11, "a mapping that cannot be created here"
unfoldable pub own_ground : Context → Event → ℕ
own_ground c (Creation m) = cond (not (creatable c m)) 11 0
own_ground c (Invvpid o) = cond (bad_invvpid c o) 8 0
own_ground c (Invept o) = cond (bad_invept c o) 8 0
own_ground c (Invlpg address) = 0
own_ground c (EptViolation v) = cond (not (ept_in_use (current_ept c.place))) 9 0
own_ground c (Entry n) = cond (bad_entry c n) 10 0
own_ground c (Exit pcid) = cond (not (in_guest c.place)) 9 0
own_ground c Vmxon = cond (in_root c.place) 9 0
own_ground c Vmxoff = 0
own_ground c (NewPcid n) = 0
own_ground c Reset = 0
own_ground c (Invpcid o) = cond (bad_invpcid c o) 7 0
own_ground c (MovToCr3 pcid) = 0

-- Ask 6: the rule that the EPTP of an event breaks where it comes to that, else 0. "For INVEPT the type and
-- descriptor bits 127:64 are tested before the EPTP. A VM entry also refused for its VPID reports 0."
unfoldable pub own_rule : Context → Event → ℕ
own_rule c (Creation m) = 0
own_rule c (Invvpid o) = 0
own_rule c (Invept o) =
    cond (invept_supported c.capability o.type_number && eqb o.high 0 && eqb o.type_number 1) (eptp_rule c o.low) 0
own_rule c (Invlpg address) = 0
own_rule c (EptViolation v) = 0
own_rule c (Entry n) = cond (not (eqb n.vpids 1 && eqb n.vpid 0) && eqb n.ept 1) (eptp_rule c n.eptp) 0
own_rule c (Exit pcid) = 0
own_rule c Vmxon = 0
own_rule c Vmxoff = 0
own_rule c (NewPcid n) = 0
own_rule c Reset = 0
own_rule c (Invpcid o) = 0
own_rule c (MovToCr3 pcid) = 0

-- "INVEPT and VM entry pass it on as a second number in their result, 0 whenever the EPTP was not the ground": the
-- rule that goes with an answer to an event
unfoldable pub rule_with : Context → List ℕ → ℕ → ℕ
rule_with c e answer = cond (among answer (8 ∷ 10 ∷ [])) (own_rule c (event e)) 0

-- the bytes that an event adds to the table: a creation's own
unfoldable pub created : List ℕ → List ℕ
created e = cond (mapping_kind (kind_of e)) e []

-- the same as records: one, or none
unfoldable pub creation : List ℕ → List (List ℕ)
creation e = cond (mapping_kind (kind_of e)) (e ∷ []) []

-- 12, "the new buffer, or 45,056 [47,104 by Ask 12], is less than the old table's length, plus the record's length for a
-- creation"; room is the length of the new buffer
unfoldable pub no_room : ℕ → List ℕ → List ℕ → Bool
no_room room t e = ltb (min room limit) (length t + length (created e))

-- 3 and 4 are given where these fail: the table is whole, valid records, the event exactly one. "Width 48 refuses the
-- new kinds and width 57 refuses kinds 1, 3, 4 and 6, as answers 3 and 4." (Ask 12)
unfoldable pub valid_table : ℕ → List ℕ → Bool
valid_table width t = whole t && of_width width (records t)

abbrev pub valid_here : Context → List ℕ → Bool
valid_here c e = valid_event c.linear_width e

-- 2 and 3, of a table at a linear width
abbrev pub stored_grounds : ℕ → List ℕ → List (ℕ × Bool)
stored_grounds width t = (2, ltb limit (length t)) ∷ (3, not (valid_table width t)) ∷ []

-- 1 to 3, of the context and the old table
unfoldable pub table_grounds : Context → List ℕ → List (ℕ × Bool)
table_grounds c t = (1, not (in_range c)) ∷ stored_grounds c.linear_width t

-- 5 to 11, of the context and the event
unfoldable pub event_grounds : Context → Event → List (ℕ × Bool)
event_grounds c e =
    (5, invalid_opcode c e)
    ∷ (6, exits c e)
    ∷ (7, general_protection c e)
    ∷ (7, eqb (own_ground c e) 7)
    ∷ (8, eqb (own_ground c e) 8)
    ∷ (9, eqb (own_ground c e) 9)
    ∷ (10, eqb (own_ground c e) 10)
    ∷ (11, eqb (own_ground c e) 11)
    ∷ []

-- the answer that context and event alone give: 5 to 11, or 0
unfoldable pub event_answer : Context → Event → ℕ
event_answer c e = first (event_grounds c e)

-- the numbers in ascending order, so that the first that applies is the lowest, each with its ground:
-- of a context, an old table, an event and the length of the new buffer
unfoldable pub grounds : Context → List ℕ → List ℕ → ℕ → List (ℕ × Bool)
grounds c t e room =
    table_grounds c t
    ++ ((4, not (valid_here c e)) ∷ [])
    ++ event_grounds c (event e)
    ++ ((12, no_room room t e) ∷ [])

-- the numbered answer
unfoldable pub answer : Context → List ℕ → List ℕ → ℕ → ℕ
answer c t e room = first (grounds c t e room)
