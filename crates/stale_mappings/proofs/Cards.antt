-- Rows: small logs, and the origins of the mappings that their last event makes stale, all under one statement.
use Rattle.std.specs.Prelude.{ℕ, Bool, List, [], ◌∷◌, map, ◌≡◌, refl}
use Rattle.model.specs.declared.Context.{Context}
use Rattle.model.specs.declared.Mapping.{Mapping}
use Rattle.model.specs.Bits.{bytes}
use Rattle.model.specs.Context.{in_range, after_reset}
use Rattle.model.specs.Layouts.{kind_of, mapping_kind, event_kind, body_of, length_of, field}
use Rattle.model.specs.Mappings.{mapping, linear, guest_physical, combined, structure_cache, global_marked, fields_in_range, starts_record, other_width, wide, record_length, covers}
use Rattle.model.specs.Tables.{joined, cut, records_within, records, whole, of_width, only, count}
use Rattle.model.specs.Events.{canonical, operands, violation, entry, new_pcid, event, event_in_range, valid_event}
use Rattle.model.specs.Scopes.{invvpid_tests, invept_tests, invlpg_tests, guest_physical_violation_tests, combined_violation_tests, violation_tests, transition_tests, invpcid_tests, mov_to_cr3_tests, has_scope, scope, entered, next_context}
use Rattle.model.specs.Answers.{first, good_eptp, invvpid_supported, bad_invvpid, invept_supported, bad_invept, bad_invpcid, invalid_opcode, exits, general_protection, bad_entry, creatable, own_ground, created, no_room, valid_table, table_grounds, event_grounds, grounds, answer}
use Rattle.model.specs.Lookups.{translates_linear}
use Rattle.runs.specs.Book.{taken_by, stands}
use Rattle.roomy_runs.specs.Books.{roomy_answer}
use Rattle.roomy_runs.specs.Samples.{sample, vmxon, entry_by, physical_at, physical_cache_at, combined_at}
use Rattle.origins.specs.Standing.{those, standing_of}
use Rattle.leaks.specs.Moments.{Logged, Owned, start, occupant, accepts, moment_after, owned_note, owned_start, owned_after, owned_of}
use Rattle.leaks.specs.Leaks.{usable_tags}
use Rattle.stale_mappings.specs.StaleMappings.{stale_here, stale_cache_here, made_stale}

plain : List ℕ → Logged
plain e = record { bytes = e; renter = 1 }

-- in a guest of VPID 5, EP4TA 100h and PCID 1: the origins of what the last event makes stale
stale_after : (Context → Mapping → Mapping → Bool) → List (List ℕ) → List ℕ → List ℕ
stale_after test before last =
    map (λ (l : Owned). l.number)
    (made_stale test (owned_of (owned_start sample) (map plain (vmxon ∷ entry_by 5 0x100 1 ∷ before))) (plain last))

-- Every row holds.
record Rows : Type 0 where
  -- another frame for the same page, and the same frame
  remapped : stale_after stale_here (physical_at 0x100 0 0x400 0x9000 ∷ []) (physical_at 0x100 0 0x400 0x9001) ≡ 3 ∷ []
  again : stale_after stale_here (physical_at 0x100 0 0x400 0x9000 ∷ []) (physical_at 0x100 0 0x400 0x9000) ≡ []
  -- a page of a large one: where the large one leads to the same frame there, and where to another
  large_same : stale_after stale_here (physical_at 0x100 1 0x400 0x9000 ∷ []) (physical_at 0x100 0 0x405 0x9005) ≡ []
  large_other : stale_after stale_here (physical_at 0x100 1 0x400 0x9000 ∷ []) (physical_at 0x100 0 0x405 0x9006) ≡ 3 ∷ []
  small_in_large : stale_after stale_here (physical_at 0x100 0 0x405 0x9006 ∷ []) (physical_at 0x100 1 0x400 0x9000) ≡ 3 ∷ []
  -- past the large page, and another sort of address
  past : stale_after stale_here (physical_at 0x100 1 0x400 0x9000 ∷ []) (physical_at 0x100 0 0x600 0x9006) ≡ []
  sorts : stale_after stale_here (physical_at 0x100 0 0x400 0x9000 ∷ []) (combined_at 5 1 0 0x400 0x9001 0x100) ≡ []
  -- structure caches are a sort of their own: the same kind, span and page
  caches : stale_after stale_cache_here (physical_cache_at 0x100 1 0x400 0x9000 ∷ physical_cache_at 0x100 2 0x0 0x8000 ∷ []) (physical_cache_at 0x100 1 0x400 0x9001) ≡ 3 ∷ []
  same_structure : stale_after stale_cache_here (physical_cache_at 0x100 1 0x400 0x9000 ∷ []) (physical_cache_at 0x100 1 0x400 0x9000) ≡ []
  no_translation : stale_after stale_here (physical_cache_at 0x100 1 0x400 0x9000 ∷ []) (physical_at 0x100 0 0x400 0x7000) ≡ []

cards_hold : Rows
unfolding plain stale_after translates_linear bytes in_range after_reset kind_of mapping_kind event_kind body_of length_of field mapping linear guest_physical combined structure_cache global_marked fields_in_range starts_record other_width wide record_length covers joined cut records_within records whole of_width only count canonical operands violation entry new_pcid event event_in_range valid_event invvpid_tests invept_tests invlpg_tests guest_physical_violation_tests combined_violation_tests violation_tests transition_tests invpcid_tests mov_to_cr3_tests has_scope scope entered next_context first good_eptp invvpid_supported bad_invvpid invept_supported bad_invept bad_invpcid invalid_opcode exits general_protection bad_entry creatable own_ground created no_room valid_table table_grounds event_grounds grounds answer taken_by stands roomy_answer those standing_of start occupant accepts moment_after owned_note owned_start owned_after owned_of usable_tags stale_here stale_cache_here made_stale
cards_hold =
    record { remapped = refl; again = refl; large_same = refl; large_other = refl; small_in_large = refl; past = refl; sorts = refl; caches = refl; same_structure = refl; no_translation = refl }
