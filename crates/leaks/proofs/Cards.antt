-- Rows: small logs, and the origins of the leaks found in them, all under one statement.
use Rattle.std.specs.Prelude.{ℕ, List, [], ◌∷◌, ◌++◌, map, ◌≡◌, refl}
use Rattle.model.specs.declared.Context.{Context}
use Rattle.model.specs.Bits.{bytes}
use Rattle.model.specs.Context.{in_range, after_reset}
use Rattle.model.specs.Layouts.{kind_of, mapping_kind, event_kind, body_of, length_of, field}
use Rattle.model.specs.Mappings.{mapping, linear, guest_physical, combined, structure_cache, global_marked, fields_in_range, starts_record, other_width, wide, record_length, covers}
use Rattle.model.specs.Tables.{joined, cut, records_within, records, whole, of_width, only, count}
use Rattle.model.specs.Events.{canonical, operands, violation, entry, new_pcid, event, event_in_range, valid_event}
use Rattle.model.specs.Scopes.{invvpid_tests, invept_tests, invlpg_tests, guest_physical_violation_tests, combined_violation_tests, violation_tests, transition_tests, invpcid_tests, mov_to_cr3_tests, has_scope, scope, entered, next_context}
use Rattle.model.specs.Answers.{first, good_eptp, invvpid_supported, bad_invvpid, invept_supported, bad_invept, bad_invpcid, invalid_opcode, exits, general_protection, bad_entry, creatable, own_ground, created, no_room, valid_table, table_grounds, event_grounds, grounds, answer}
use Rattle.model.specs.Lookups.{translates_linear}
use Rattle.runs.specs.Book.{taken_by, stands}
use Rattle.roomy_runs.specs.Books.{roomy_answer}
use Rattle.roomy_runs.specs.Samples.{sample, without_invvpid, vmxon, exit, entry_by, entry_by_vpid, entry_plain, linear_at, combined_at, physical_at, invvpid, invept, new_pcid_to, mov_to_cr3}
use Rattle.origins.specs.Standing.{those, standing_of}
use Rattle.leaks.specs.Moments.{Logged, Owned, start, occupant, accepts, moment_after, owned_note, owned_start, owned_after, owned_of}
use Rattle.leaks.specs.Leaks.{usable_tags, leaks_here, leaks, begins, found}

-- an event, and a VM entry of a renter
plain : List ℕ → Logged
plain e = record { bytes = e; renter = 0 }

of_renter : ℕ → List ℕ → Logged
of_renter n e = record { bytes = e; renter = n }

-- the origins of the leaks that begin with each event
found_in : Context → List Logged → List (List ℕ)
found_in c es = map (λ (ls : List Owned). map (λ (l : Owned). l.number) ls) (found (owned_start c) es)

-- renter 1 creates a global mapping of VPID 5 and one that is not global, and leaves; then comes what is given, and renter 2
-- enters with the same VPID and EP4TA
taken_over : List Logged → List Logged
taken_over between =
    plain vmxon ∷ of_renter 1 (entry_by 5 0x100 1) ∷ plain (combined_at 5 1 1 0x400 0x5110 0x100) ∷ plain (combined_at 5 1 0 0x401 0x5111 0x100) ∷ plain exit
    ∷ (between ++ (of_renter 2 (entry_by 5 0x100 1) ∷ []))

-- Every row holds.
record Rows : Type 0 where
  -- a VPID used again; a refused event counts in the origins
  reused : found_in sample (plain vmxon ∷ of_renter 1 (entry_by 5 0x100 1) ∷ plain (combined_at 6 1 0 0x400 0x5110 0x100) ∷ plain (combined_at 5 1 0 0x400 0x5110 0x100) ∷ plain exit ∷ of_renter 2 (entry_by 5 0x100 1) ∷ [])
      ≡ [] ∷ [] ∷ [] ∷ [] ∷ [] ∷ (4 ∷ []) ∷ []
  -- the same renter comes back; and a refused VM entry changes no owner
  back : found_in sample (plain vmxon ∷ of_renter 1 (entry_by 5 0x100 1) ∷ of_renter 2 (entry_by 5 0x100 1) ∷ plain (combined_at 5 1 0 0x400 0x5110 0x100) ∷ plain exit ∷ of_renter 1 (entry_by 5 0x100 1) ∷ [])
      ≡ [] ∷ [] ∷ [] ∷ [] ∷ [] ∷ [] ∷ []
  -- INVVPID of type 1 mends it; "INVVPID of type 3 is not enough": the global mapping stays
  type_1 : found_in sample (taken_over (plain (invvpid 1 5) ∷ [])) ≡ [] ∷ [] ∷ [] ∷ [] ∷ [] ∷ [] ∷ [] ∷ []
  type_3 : found_in sample (taken_over (plain (invvpid 3 5) ∷ [])) ≡ [] ∷ [] ∷ [] ∷ [] ∷ [] ∷ [] ∷ (3 ∷ []) ∷ []
  -- another PCID: with kind 24, and not with kind 27
  kind_24 : found_in sample (plain vmxon ∷ of_renter 1 (entry_by 5 0x100 2) ∷ plain (combined_at 5 2 0 0x400 0x5110 0x100) ∷ plain exit ∷ of_renter 2 (entry_by 5 0x100 1) ∷ plain (new_pcid_to 2) ∷ [])
      ≡ [] ∷ [] ∷ [] ∷ [] ∷ [] ∷ (3 ∷ []) ∷ []
  kind_27 : found_in sample (plain vmxon ∷ of_renter 1 (entry_by 5 0x100 2) ∷ plain (combined_at 5 2 0 0x400 0x5110 0x100) ∷ plain exit ∷ of_renter 2 (entry_by 5 0x100 1) ∷ plain (mov_to_cr3 2) ∷ [])
      ≡ [] ∷ [] ∷ [] ∷ [] ∷ [] ∷ [] ∷ []
  -- an EP4TA used again under another VPID: the guest-physical mapping, and INVEPT
  by_ep4ta : found_in sample (plain vmxon ∷ of_renter 1 (entry_by 5 0x100 1) ∷ plain (physical_at 0x100 0 0x400 0x5110) ∷ plain exit ∷ of_renter 2 (entry_by 6 0x100 1) ∷ [])
      ≡ [] ∷ [] ∷ [] ∷ [] ∷ (3 ∷ []) ∷ []
  by_invept : found_in sample (plain vmxon ∷ of_renter 1 (entry_by 5 0x100 1) ∷ plain (physical_at 0x100 0 0x400 0x5110) ∷ plain exit ∷ plain (invept 1 0x100) ∷ of_renter 2 (entry_by 6 0x100 1) ∷ [])
      ≡ [] ∷ [] ∷ [] ∷ [] ∷ [] ∷ [] ∷ []
  -- the monitor's own, and a guest without VPIDs and EPT: nothing either way
  host : found_in sample (plain (linear_at 0 0 1 0x400 0x5110) ∷ plain vmxon ∷ plain (linear_at 0 0 1 0x401 0x5111) ∷ of_renter 1 (entry_plain 0) ∷ plain (linear_at 0 0 1 0x402 0x5112) ∷ plain exit ∷ of_renter 2 (entry_plain 0) ∷ [])
      ≡ [] ∷ [] ∷ [] ∷ [] ∷ [] ∷ [] ∷ [] ∷ []
  -- "without them nothing may mend it": a processor with VPIDs and without INVVPID refuses every type, and INVEPT of type 2
  -- leaves what the VPID tags
  no_invvpid : found_in without_invvpid (plain vmxon ∷ of_renter 1 (entry_by_vpid 5) ∷ plain (linear_at 5 0 0 0x400 0x5110) ∷ plain exit ∷ plain (invvpid 0 5) ∷ plain (invvpid 1 5) ∷ plain (invvpid 2 0) ∷ plain (invvpid 3 5) ∷ plain (invept 2 0) ∷ of_renter 2 (entry_by_vpid 5) ∷ [])
      ≡ [] ∷ [] ∷ [] ∷ [] ∷ [] ∷ [] ∷ [] ∷ [] ∷ [] ∷ (3 ∷ []) ∷ []

cards_hold : Rows
unfolding plain of_renter found_in taken_over translates_linear bytes in_range after_reset kind_of mapping_kind event_kind body_of length_of field mapping linear guest_physical combined structure_cache global_marked fields_in_range starts_record other_width wide record_length covers joined cut records_within records whole of_width only count canonical operands violation entry new_pcid event event_in_range valid_event invvpid_tests invept_tests invlpg_tests guest_physical_violation_tests combined_violation_tests violation_tests transition_tests invpcid_tests mov_to_cr3_tests has_scope scope entered next_context first good_eptp invvpid_supported bad_invvpid invept_supported bad_invept bad_invpcid invalid_opcode exits general_protection bad_entry creatable own_ground created no_room valid_table table_grounds event_grounds grounds answer taken_by stands roomy_answer those standing_of start occupant accepts moment_after owned_note owned_start owned_after owned_of usable_tags leaks_here leaks begins found
cards_hold =
    record { reused = refl; back = refl; type_1 = refl; type_3 = refl; kind_24 = refl; kind_27 = refl; by_ep4ta = refl; by_invept = refl; host = refl; no_invvpid = refl }
