-- Rows about the book with room and the run with lent room, all under one statement.
use Rattle.std.specs.Prelude.{ℕ, List, [], ◌∷◌, map, ◌≡◌, refl}
use Rattle.model.specs.Bits.{bytes}
use Rattle.model.specs.Context.{in_range, after_reset}
use Rattle.model.specs.Layouts.{kind_of, mapping_kind, event_kind, body_of, length_of, field}
use Rattle.model.specs.Mappings.{mapping, linear, guest_physical, combined, structure_cache, global_marked, fields_in_range, starts_record, other_width, wide, record_length, covers}
use Rattle.model.specs.Tables.{joined, cut, records_within, records, whole, of_width, only, count}
use Rattle.model.specs.Events.{canonical, operands, violation, entry, new_pcid, event, event_in_range, valid_event}
use Rattle.model.specs.Scopes.{invvpid_tests, invept_tests, invlpg_tests, guest_physical_violation_tests, combined_violation_tests, violation_tests, transition_tests, invpcid_tests, mov_to_cr3_tests, has_scope, scope, entered, next_context}
use Rattle.model.specs.Answers.{first, good_eptp, invvpid_supported, bad_invvpid, invept_supported, bad_invept, bad_invpcid, invalid_opcode, exits, general_protection, bad_entry, creatable, own_ground, created, creation, no_room, valid_table, table_grounds, event_grounds, grounds, answer, rule_with, own_rule}
use Rattle.runs.specs.Book.{Report, opened, taken_by, stands, standing, lost}
use Rattle.roomy_runs.specs.Books.{roomy_answer, roomy_added, roomy_after, roomy_report, roomy_reports, roomy_of}
use Rattle.roomy_runs.specs.Lent.{lent_start, lent_table, overflows, lent_answer, lent_after, lent_report, lent_reports, lent_of}
use Rattle.roomy_runs.specs.Samples.{sample, vmxon, exit, entry_by, combined_at, invvpid}

answers : List Report → List ℕ
answers rs = map (λ (r : Report). r.answer) rs

counts : List Report → List ℕ
counts rs = map (λ (r : Report). r.dropped) rs

-- two mappings of 22 bytes, one for which there is no room, an event that is refused, and the VPID's invalidation
log : List (List ℕ)
log =
    vmxon ∷ entry_by 5 0x100 1 ∷ combined_at 5 1 0 0x400 0x5110 0x100 ∷ combined_at 6 1 0 0x400 0x5110 0x100 ∷ combined_at 5 1 0 0x401 0x5111 0x100
    ∷ exit ∷ invvpid 1 5 ∷ []

-- Every row holds.
record Rows : Type 0 where
  -- the book with room notes both, and the refused creation (11) not
  book : answers (roomy_reports (opened sample) log) ≡ 0 ∷ 0 ∷ 0 ∷ 11 ∷ 0 ∷ 0 ∷ 0 ∷ []
  dropped : counts (roomy_reports (opened sample) log) ≡ 0 ∷ 0 ∷ 0 ∷ 0 ∷ 0 ∷ 0 ∷ 2 ∷ []
  -- 44 bytes are room for both, 43 for one
  room_44 : answers (lent_reports 44 (lent_start sample) log) ≡ 0 ∷ 0 ∷ 0 ∷ 11 ∷ 0 ∷ 0 ∷ 0 ∷ []
  room_43 : answers (lent_reports 43 (lent_start sample) log) ≡ 0 ∷ 0 ∷ 0 ∷ 11 ∷ 12 ∷ 0 ∷ 0 ∷ []
  dropped_43 : counts (lent_reports 43 (lent_start sample) log) ≡ 0 ∷ 0 ∷ 0 ∷ 0 ∷ 0 ∷ 0 ∷ 1 ∷ []

cards_hold : Rows
unfolding answers counts log bytes in_range after_reset kind_of mapping_kind event_kind body_of length_of field mapping linear guest_physical combined structure_cache global_marked fields_in_range starts_record other_width wide record_length covers joined cut records_within records whole of_width only count canonical operands violation entry new_pcid event event_in_range valid_event invvpid_tests invept_tests invlpg_tests guest_physical_violation_tests combined_violation_tests violation_tests transition_tests invpcid_tests mov_to_cr3_tests has_scope scope entered next_context first good_eptp invvpid_supported bad_invvpid invept_supported bad_invept bad_invpcid invalid_opcode exits general_protection bad_entry creatable own_ground created creation no_room valid_table table_grounds event_grounds grounds answer rule_with own_rule opened taken_by stands standing lost roomy_answer roomy_added roomy_after roomy_report roomy_reports roomy_of lent_start lent_table overflows lent_answer lent_after lent_report lent_reports lent_of
cards_hold = record { book = refl; dropped = refl; room_44 = refl; room_43 = refl; dropped_43 = refl }
