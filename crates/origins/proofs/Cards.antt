-- Rows about origins, all under one statement.
use Rattle.std.specs.Prelude.{ℕ, List, [], ◌∷◌, ◌++◌, map, ◌≡◌, refl}
use Rattle.model.specs.Bits.{bytes}
use Rattle.model.specs.Context.{in_range, after_reset}
use Rattle.model.specs.Layouts.{kind_of, mapping_kind, event_kind, body_of, length_of, field}
use Rattle.model.specs.Mappings.{mapping, linear, guest_physical, combined, structure_cache, global_marked, fields_in_range, starts_record, other_width, wide, record_length, covers}
use Rattle.model.specs.Tables.{joined, cut, records_within, records, whole, of_width, only, count}
use Rattle.model.specs.Events.{canonical, operands, violation, entry, new_pcid, event, event_in_range, valid_event}
use Rattle.model.specs.Scopes.{invvpid_tests, invept_tests, invlpg_tests, guest_physical_violation_tests, combined_violation_tests, violation_tests, transition_tests, invpcid_tests, mov_to_cr3_tests, has_scope, scope, entered, next_context}
use Rattle.model.specs.Answers.{first, good_eptp, invvpid_supported, bad_invvpid, invept_supported, bad_invept, bad_invpcid, invalid_opcode, exits, general_protection, bad_entry, creatable, own_ground, created, no_room, valid_table, table_grounds, event_grounds, grounds, answer}
use Rattle.runs.specs.Book.{taken_by, stands}
use Rattle.roomy_runs.specs.Books.{roomy_answer}
use Rattle.roomy_runs.specs.Samples.{sample, vmxon, exit, entry_by, combined_at, physical_at, invvpid}
use Rattle.origins.specs.Standing.{those, standing_of, kept_by, made_by}
use Rattle.origins.specs.Origins.{Numbered, numbered_start, numbered_note, numbered_after, numbered_of, standing_numbered, origins_of, NumberedRun, numbered_run_start, numbered_overflows, numbered_answer, numbered_run_after, numbered_run_of}

-- two mappings of VPID 5 and one of EP4TA 100h, with a refused creation among them
log : List (List ℕ)
log =
    vmxon ∷ entry_by 5 0x100 1 ∷ combined_at 5 1 0 0x400 0x5110 0x100 ∷ combined_at 6 1 0 0x400 0x5110 0x100 ∷ physical_at 0x100 0 0x77 0x5111
    ∷ combined_at 5 1 0 0x401 0x5112 0x100 ∷ exit ∷ []

held_origins : NumberedRun → List ℕ
held_origins s = map (λ (x : Numbered). x.number) s.held

-- Every row holds.
record Rows : Type 0 where
  -- the refused event counts, and is the origin of none
  counted : origins_of (numbered_of (numbered_start sample) log) ≡ 3 ∷ 5 ∷ 6 ∷ []
  -- an origin goes with its record
  dropped : origins_of (numbered_of (numbered_start sample) (log ++ (invvpid 1 5 ∷ []))) ≡ 5 ∷ []
  -- in a room of 40 bytes: two of 22 and 17 fit, and the third does not
  lent : held_origins (numbered_run_of 40 (numbered_run_start sample) log) ≡ 3 ∷ 5 ∷ []

cards_hold : Rows
unfolding log held_origins bytes in_range after_reset kind_of mapping_kind event_kind body_of length_of field mapping linear guest_physical combined structure_cache global_marked fields_in_range starts_record other_width wide record_length covers joined cut records_within records whole of_width only count canonical operands violation entry new_pcid event event_in_range valid_event invvpid_tests invept_tests invlpg_tests guest_physical_violation_tests combined_violation_tests violation_tests transition_tests invpcid_tests mov_to_cr3_tests has_scope scope entered next_context first good_eptp invvpid_supported bad_invvpid invept_supported bad_invept bad_invpcid invalid_opcode exits general_protection bad_entry creatable own_ground created no_room valid_table table_grounds event_grounds grounds answer taken_by stands roomy_answer those standing_of kept_by made_by numbered_start numbered_note numbered_after numbered_of standing_numbered origins_of numbered_run_start numbered_overflows numbered_answer numbered_run_after numbered_run_of
cards_hold = record { counted = refl; dropped = refl; lent = refl }
