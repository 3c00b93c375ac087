-- Rows about what is printed, all under one statement: document 01's own example, and logs of the most bytes and
-- of one more. An unknown kind takes all that is left, so that of 65,536 zeros one line is printed.
use Rattle.std.specs.Prelude.{ℕ, List, [], ◌∷◌, ◌++◌, ◌≡◌, refl, replicate}
use Rattle.model.specs.Buffers.{put}
use Rattle.model.specs.Context.{in_range, after_reset}
use Rattle.model.specs.Layouts.{kind_of, mapping_kind, event_kind, body_of, length_of, field}
use Rattle.model.specs.Mappings.{mapping, linear, guest_physical, combined, structure_cache, wide, other_width, global_marked, fields_in_range, starts_record, record_length, covers}
use Rattle.model.specs.Tables.{joined, cut, records_within, records, whole, of_width}
use Rattle.model.specs.Events.{canonical, operands, entry, event, event_in_range, valid_event}
use Rattle.model.specs.Scopes.{invvpid_tests, transition_tests, has_scope, scope, entered, next_context}
use Rattle.model.specs.Answers.{first, good_eptp, invvpid_supported, bad_invvpid, invalid_opcode, exits, general_protection, bad_entry, creatable, own_ground, created, no_room, valid_table, table_grounds, event_grounds, grounds, answer}
use Rattle.runs.specs.Book.{taken_by, stands, standing, lost, opened, book_table, book_answer, added, book_after, book_report}
use Rattle.logs.specs.Logs.{event_size, events_within, events_of}
use Rattle.logs.specs.Replays.{book_line, book_lines}
use Rattle.lines.specs.Text.{decimal_within, decimal, line_text}
use Rattle.texts.specs.Texts.{numbered_from, program_text}

-- VMXON; VM entry with VPID 5, EPT off, PCID 1 and CPL 0; creation of A; VM exit to PCID 0; INVVPID type 1 of VPID 5
five_events : List ℕ
five_events =
    (22 ∷ [])
    ++ (20 ∷ 1 ∷ 5 ∷ 0 ∷ 0 ∷ 0 ∷ 0 ∷ 0 ∷ 0 ∷ 0 ∷ 0 ∷ 0 ∷ 0 ∷ 1 ∷ 0 ∷ 0 ∷ [])
    ++ (1 ∷ 5 ∷ 0 ∷ 1 ∷ 0 ∷ 0 ∷ 0 ∷ 0x45 ∷ 0x23 ∷ 1 ∷ 0 ∷ 0 ∷ 0xDE ∷ 0xBC ∷ 0x0A ∷ 0 ∷ 0 ∷ [])
    ++ (21 ∷ 0 ∷ 0 ∷ [])
    ++ (16 ∷ 1 ∷ replicate 7 0)
    ++ (5 ∷ replicate 15 0)

-- a line in ASCII: three digits, and the digits of the last number
line : ℕ → ℕ → ℕ → List ℕ → List ℕ
line number answer dropped size = number ∷ 32 ∷ answer ∷ 32 ∷ dropped ∷ 32 ∷ size ++ (10 ∷ [])

zero_digit : List ℕ
zero_digit = 48 ∷ []

-- Every row holds.
record Rows : Type 0 where
  -- "prints all of"
  example : program_text five_events
      ≡ line 49 48 48 zero_digit
      ++ line 50 48 48 zero_digit
      ++ line 51 48 48 (49 ∷ 55 ∷ [])
      ++ line 52 48 48 (49 ∷ 55 ∷ [])
      ++ line 53 48 49 zero_digit
  none : program_text [] ≡ []
  -- kind 7 is unknown at 48, and takes all that is left
  unknown : program_text (7 ∷ replicate 30 0) ≡ line 49 52 48 zero_digit
  longest : program_text (replicate 65536 0) ≡ line 49 52 48 zero_digit
  too_long : program_text (replicate 65537 0) ≡ 116 ∷ 111 ∷ 111 ∷ 32 ∷ 108 ∷ 111 ∷ 110 ∷ 103 ∷ 10 ∷ []

cards_hold : Rows
unfolding five_events line zero_digit put in_range after_reset kind_of mapping_kind event_kind body_of length_of field mapping linear guest_physical combined structure_cache wide other_width global_marked fields_in_range starts_record record_length covers joined cut records_within records whole of_width canonical operands entry event event_in_range valid_event invvpid_tests transition_tests has_scope scope entered next_context first good_eptp invvpid_supported bad_invvpid invalid_opcode exits general_protection bad_entry creatable own_ground created no_room valid_table table_grounds event_grounds grounds answer taken_by stands standing lost opened book_table book_answer added book_after book_report event_size events_within events_of book_line book_lines decimal_within decimal line_text numbered_from program_text
cards_hold = record { example = refl; none = refl; unknown = refl; longest = refl; too_long = refl }
