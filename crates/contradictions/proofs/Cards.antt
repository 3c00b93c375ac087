-- Rows about contradictions, all under one statement.
use Rattle.std.specs.Prelude.{ℕ, List, [], ◌∷◌, ◌≡◌, refl}
use Rattle.model.specs.Bits.{bytes}
use Rattle.model.specs.Context.{in_range, after_reset}
use Rattle.model.specs.Layouts.{kind_of, mapping_kind, event_kind, body_of, length_of, field}
use Rattle.model.specs.Mappings.{mapping, linear, guest_physical, combined, structure_cache, global_marked, fields_in_range, starts_record, other_width, wide, record_length, covers}
use Rattle.model.specs.Tables.{joined, cut, records_within, records, whole, of_width, only, count}
use Rattle.model.specs.Events.{canonical, operands, violation, entry, new_pcid, event, event_in_range, valid_event}
use Rattle.model.specs.Scopes.{invvpid_tests, invept_tests, invlpg_tests, guest_physical_violation_tests, combined_violation_tests, violation_tests, transition_tests, invpcid_tests, mov_to_cr3_tests, has_scope, scope, entered, next_context}
use Rattle.model.specs.Answers.{first, good_eptp, invvpid_supported, bad_invvpid, invept_supported, bad_invept, bad_invpcid, invalid_opcode, exits, general_protection, bad_entry, creatable, own_ground, created, no_room, valid_table, table_grounds, event_grounds, grounds, answer}
use Rattle.runs.specs.Book.{opened}
use Rattle.roomy_runs.specs.Books.{roomy_answer, roomy_added, roomy_after}
use Rattle.roomy_runs.specs.Samples.{sample, vmxon, exit, entry_by, combined_at, invvpid, new_pcid_to}
use Rattle.contradictions.specs.Contradictions.{reports_deed, contradicts, contradictions}

found : List (List ℕ) → List ℕ
found es = contradictions 0 (opened sample) es

-- Every row holds.
record Rows : Type 0 where
  -- a log that is whole; an exit outside a guest (9); a mapping of a VPID that is not current (11)
  whole_log : found (vmxon ∷ entry_by 5 0x100 1 ∷ combined_at 5 1 0 0x400 0x5110 0x100 ∷ new_pcid_to 2 ∷ exit ∷ []) ≡ []
  lost_entry : found (vmxon ∷ exit ∷ []) ≡ 2 ∷ []
  lost_switch : found (vmxon ∷ entry_by 5 0x100 1 ∷ combined_at 6 1 0 0x400 0x5110 0x100 ∷ exit ∷ []) ≡ 3 ∷ []
  -- attempts that a processor refuses: INVVPID outside VMX (5), in a guest (6), VMXON in root (9), a bad entry (10)
  attempts : found (invvpid 1 5 ∷ vmxon ∷ vmxon ∷ entry_by 0 0x100 1 ∷ entry_by 5 0x100 1 ∷ invvpid 1 5 ∷ []) ≡ []
  -- bytes that are no event: an unknown kind, a cut record, a PCID of 4,096
  no_events : found ((99 ∷ []) ∷ (20 ∷ 1 ∷ []) ∷ (24 ∷ 0 ∷ 16 ∷ 0 ∷ []) ∷ []) ≡ 1 ∷ 2 ∷ 3 ∷ []

cards_hold : Rows
unfolding found bytes in_range after_reset kind_of mapping_kind event_kind body_of length_of field mapping linear guest_physical combined structure_cache global_marked fields_in_range starts_record other_width wide record_length covers joined cut records_within records whole of_width only count canonical operands violation entry new_pcid event event_in_range valid_event invvpid_tests invept_tests invlpg_tests guest_physical_violation_tests combined_violation_tests violation_tests transition_tests invpcid_tests mov_to_cr3_tests has_scope scope entered next_context first good_eptp invvpid_supported bad_invvpid invept_supported bad_invept bad_invpcid invalid_opcode exits general_protection bad_entry creatable own_ground created no_room valid_table table_grounds event_grounds grounds answer opened roomy_answer roomy_added roomy_after reports_deed contradicts contradictions
cards_hold = record { whole_log = refl; lost_entry = refl; lost_switch = refl; attempts = refl; no_events = refl }
