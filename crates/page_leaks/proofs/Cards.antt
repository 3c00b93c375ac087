-- Rows: small logs, and the origins of the translations to another's page found in them, all under one statement.
use Rattle.std.specs.Prelude.{ℕ, Bool, false, eqb, List, [], ◌∷◌, map, ◌≡◌, refl}
use Rattle.model.specs.Bits.{bytes}
use Rattle.model.specs.Context.{in_range, after_reset}
use Rattle.model.specs.Layouts.{kind_of, mapping_kind, event_kind, body_of, length_of, field}
use Rattle.model.specs.Mappings.{mapping, linear, guest_physical, combined, structure_cache, global_marked, fields_in_range, starts_record, other_width, wide, record_length, covers}
use Rattle.model.specs.Tables.{joined, cut, records_within, records, whole, of_width, only, count}
use Rattle.model.specs.Events.{canonical, operands, violation, entry, new_pcid, event, event_in_range, valid_event}
use Rattle.model.specs.Scopes.{invvpid_tests, invept_tests, invlpg_tests, guest_physical_violation_tests, combined_violation_tests, violation_tests, transition_tests, invpcid_tests, mov_to_cr3_tests, has_scope, scope, entered, next_context}
use Rattle.model.specs.Answers.{first, good_eptp, invvpid_supported, bad_invvpid, invept_supported, bad_invept, bad_invpcid, invalid_opcode, exits, general_protection, bad_entry, creatable, own_ground, created, no_room, valid_table, table_grounds, event_grounds, grounds, answer}
use Rattle.model.specs.Lookups.{translates_linear}
use Rattle.runs.specs.Book.{taken_by, stands}
use Rattle.roomy_runs.specs.Books.{roomy_answer}
use Rattle.roomy_runs.specs.Samples.{sample, vmxon, exit, entry_by, physical_at}
use Rattle.origins.specs.Standing.{those, standing_of}
use Rattle.leaks.specs.Moments.{Logged, Owned, OwnedBook, start, occupant, accepts, moment_after, owned_note, owned_start, owned_after, owned_of}
use Rattle.leaks.specs.Leaks.{usable_tags}
use Rattle.page_leaks.specs.PageLeaks.{translation, leads_to, last_to, any_below, taken_frame, page_leaks_here, page_leaks, page_begins}

-- an event, and a VM entry of a renter
plain : List ℕ → Logged
plain e = record { bytes = e; renter = 0 }

of_renter : ℕ → List ℕ → Logged
of_renter n e = record { bytes = e; renter = n }

-- the origins of those that begin with each event
found_from : (ℕ → Bool) → OwnedBook → List Logged → List (List ℕ)
found_from shared d [] = []
found_from shared d (e ∷ es) = map (λ (l : Owned). l.number) (page_begins shared d e) ∷ found_from shared (owned_after d e) es

-- renter 1 maps a frame, or 512 from frame 9000h on; renter 2 is given one of them; renter 1 comes back
given : ℕ → ℕ → List Logged → List Logged
given span frame rest =
    plain vmxon ∷ of_renter 1 (entry_by 5 0x100 1) ∷ plain (physical_at 0x100 span 0x400 0x9000) ∷ plain exit ∷ of_renter 2 (entry_by 6 0x200 1)
    ∷ plain (physical_at 0x200 0 0x77 frame) ∷ plain exit ∷ of_renter 1 (entry_by 5 0x100 1) ∷ rest

-- Every row holds.
record Rows : Type 0 where
  -- a page is taken from one guest and given to the next, and the first one's translation stays
  small : found_from (λ f. false) (owned_start sample) (given 0 0x9000 []) ≡ [] ∷ [] ∷ [] ∷ [] ∷ [] ∷ [] ∷ [] ∷ (3 ∷ []) ∷ []
  -- a frame that may be shared is none
  by_right : found_from (λ f. eqb f 0x9000) (owned_start sample) (given 0 0x9000 []) ≡ [] ∷ [] ∷ [] ∷ [] ∷ [] ∷ [] ∷ [] ∷ [] ∷ []
  -- a frame within a large page; given back it is clean, and a later mapping of another frame hides nothing
  large : found_from (λ f. false) (owned_start sample) (given 1 0x9123 []) ≡ [] ∷ [] ∷ [] ∷ [] ∷ [] ∷ [] ∷ [] ∷ (3 ∷ []) ∷ []
  past : found_from (λ f. false) (owned_start sample) (given 1 0x9200 []) ≡ [] ∷ [] ∷ [] ∷ [] ∷ [] ∷ [] ∷ [] ∷ [] ∷ []
  returned : found_from (λ f. false) (owned_start sample) (given 1 0x9123 (plain (physical_at 0x100 0 0x600 0x9123) ∷ plain exit ∷ of_renter 1 (entry_by 5 0x100 1) ∷ []))
      ≡ [] ∷ [] ∷ [] ∷ [] ∷ [] ∷ [] ∷ [] ∷ (3 ∷ []) ∷ [] ∷ [] ∷ [] ∷ []
  hidden : found_from (λ f. false) (owned_start sample) (given 1 0x9123 (plain (physical_at 0x100 0 0x600 0x9001) ∷ plain exit ∷ of_renter 1 (entry_by 5 0x100 1) ∷ []))
      ≡ [] ∷ [] ∷ [] ∷ [] ∷ [] ∷ [] ∷ [] ∷ (3 ∷ []) ∷ [] ∷ [] ∷ (3 ∷ []) ∷ []

cards_hold : Rows
unfolding plain of_renter found_from given translates_linear bytes in_range after_reset kind_of mapping_kind event_kind body_of length_of field mapping linear guest_physical combined structure_cache global_marked fields_in_range starts_record other_width wide record_length covers joined cut records_within records whole of_width only count canonical operands violation entry new_pcid event event_in_range valid_event invvpid_tests invept_tests invlpg_tests guest_physical_violation_tests combined_violation_tests violation_tests transition_tests invpcid_tests mov_to_cr3_tests has_scope scope entered next_context first good_eptp invvpid_supported bad_invvpid invept_supported bad_invept bad_invpcid invalid_opcode exits general_protection bad_entry creatable own_ground created no_room valid_table table_grounds event_grounds grounds answer taken_by stands roomy_answer those standing_of start occupant accepts moment_after owned_note owned_start owned_after owned_of usable_tags translation leads_to last_to any_below taken_frame page_leaks_here page_leaks page_begins
cards_hold = record { small = refl; by_right = refl; large = refl; past = refl; returned = refl; hidden = refl }
