-- Rows about the calls on fragments, all under one statement.
use Rattle.std.specs.Prelude.{ℕ, ◌-◌, ◌^◌, ◌<◌, Bool, true, false, List, [], ◌∷◌, ◌++◌, ◌≡◌, refl, length, drop, replicate}
use Rattle.std.proofs.Common.{lt-ltb}
use Rattle.model.specs.declared.Context.{Context}
use Rattle.model.specs.declared.Place.{Place}
use Rattle.model.specs.declared.Place.TheVariants.{Outside, Root}
use Rattle.model.specs.Bits.{bytes}
use Rattle.model.specs.Buffers.{put}
use Rattle.model.specs.Context.{in_range}
use Rattle.model.specs.Layouts.{kind_of, mapping_kind, event_kind, body_of, length_of, field}
use Rattle.model.specs.Mappings.{mapping, linear, guest_physical, combined, structure_cache, wide, other_width, global_marked, fields_in_range, starts_record, record_length}
use Rattle.model.specs.Tables.{limit, joined, cut, records_within, records, whole, of_width, only, count}
use Rattle.model.specs.Events.{canonical, operands, entry, event, event_in_range, valid_event}
use Rattle.model.specs.Answers.{first, own_rule, rule_with, invalid_opcode, exits, general_protection, own_ground, created, no_room, valid_table, table_grounds, event_grounds, grounds, answer}
use Rattle.model.specs.Steps.{accepted_step, refused_step, stepped}
use Rattle.tallies.specs.Tallies.{tabulate, pcid_counts}
use Rattle.tally_rows.specs.declared.KindCounts.{KindCounts}
use Rattle.tally_rows.specs.Rows.{of_row, kind_counts, same, same_kinds, matching}
use Rattle.counted_steps.specs.Steps.{counted_grounds, counted_answer, counted_stepped, counted_pcids, counted_written}
use Rattle.counted_steps.proofs.Laws.Steps.{counts_matching, counted_stepped_matching}
use Rattle.readers.specs.declared.Reader.{Reader}
use Rattle.readers.specs.Readers.{held_bytes, first_size, complete, counts_as_ignoring, next_line}
use Rattle.fragments.specs.declared.Taken.{Taken}
use Rattle.fragments.specs.declared.Finished.{Finished}
use Rattle.fragments.specs.Fragments.{finishes, event_taken, bytes_taken, ignoring_after, untaken, reader_kept, taken_of, taken_pcids, taken_written, cut_answer, finished_of}

-- the program's capability and width, at a linear width and a CPL, in VMX root
at : ℕ → ℕ → Place → Context
at width cpl place = record { capability = 0x0F0106304140; width = 52; linear_width = width; pcid = 1; cpl = cpl; place = place }

-- in root at 48, and the same with CPL 4, which is out of range
root : Context
root = at 48 0 Root

out : Context
out = at 48 4 Root

-- a reader with line 5 that holds the front of some bytes, so many of them; zeros stand behind these, up to 24 places
reader : Bool → ℕ → List ℕ → Reader
reader ignoring size held = record { line = 5; ignoring = ignoring; length = size; held = held ++ drop (length held) (replicate 24 0) }

fresh : Reader
fresh = reader false 0 []

-- what is seen of a call: how many bytes it took, whether it finished an event, and the answer; the reader's line, flag and length
record Seen : Type 0 where
  taken : ℕ
  finished : Bool
  answer : ℕ
  line : ℕ
  ignoring : Bool
  length : ℕ

seen : Taken → Seen
seen r =
    record {
      taken = r.taken;
      finished = r.finished;
      answer = r.step.answer;
      line = r.reader.line;
      ignoring = r.reader.ignoring;
      length = r.reader.length;
    }

-- no event is finished: all bytes are taken, and so many are held
waits : ℕ → ℕ → Seen
waits taken size = record { taken = taken; finished = false; answer = 0; line = 5; ignoring = false; length = size }

-- an event is finished after so many bytes, with an answer, and the ignoring begins or not
ends : ℕ → ℕ → Bool → Seen
ends taken answer ignoring = record { taken = taken; finished = true; answer = answer; line = 6; ignoring = ignoring; length = 0 }

-- a VM exit whose PCID is out of range, and an INVVPID, of 25 bytes, whose type is
exit : List ℕ
exit = 21 ∷ 255 ∷ 255 ∷ []

invvpid : List ℕ
invvpid = 16 ∷ replicate 24 0

-- a table that is not whole records
broken : List ℕ
broken = 1 ∷ []

-- counts of which one is not 0
wrong : List KindCounts
wrong = record { spans = 1 ∷ 0 ∷ 0 ∷ 0 ∷ 0 ∷ [] } ∷ replicate 5 (record { spans = replicate 5 0 })

-- a call with a table, and with counts that the answer does not depend on
module _ (kinds : List KindCounts) (pcids : List ℕ) where
  calls : Reader → Context → List ℕ → List ℕ → Seen
  calls r c t x = seen (taken_of r c kinds pcids t x 64)

-- what is seen of a finish call: whether it reports, the answer, and the reader
record SeenEnd : Type 0 where
  finished : Bool
  answer : ℕ
  line : ℕ
  ignoring : Bool
  length : ℕ

seen_end : Finished → SeenEnd
seen_end f =
    record { finished = f.finished; answer = f.answer; line = f.reader.line; ignoring = f.reader.ignoring; length = f.reader.length }

reports : ℕ → SeenEnd
reports answer = record { finished = true; answer = answer; line = 6; ignoring = true; length = 0 }

-- Every row holds.
record Rows : Type 0 where
  -- "none included": a call with no byte, of a reader that holds nothing and of one that holds a byte
  none : (kinds : List KindCounts) (pcids t : List ℕ) → taken_of fresh root kinds pcids t [] 64 ≡ untaken fresh root kinds 0
  none_held : (kinds : List KindCounts) (pcids t : List ℕ) → taken_of (reader false 1 exit) root kinds pcids t [] 64 ≡ untaken (reader false 1 exit) root kinds 0
  -- an event of three bytes, cut behind each: the bytes are held, and the places behind them stay
  first_byte : (kinds : List KindCounts) (pcids t : List ℕ) → taken_of fresh root kinds pcids t (21 ∷ []) 64 ≡ untaken (reader false 1 (21 ∷ [])) root kinds 1
  second_byte : (kinds : List KindCounts) (pcids t : List ℕ) → taken_of (reader false 1 (21 ∷ 8 ∷ 9 ∷ [])) root kinds pcids t (255 ∷ []) 64 ≡ untaken (reader false 2 (21 ∷ 255 ∷ 9 ∷ [])) root kinds 1
  third_byte : (kinds : List KindCounts) (pcids : List ℕ) → calls kinds pcids (reader false 2 exit) root [] (255 ∷ []) ≡ ends 1 4 false
  last_two : (kinds : List KindCounts) (pcids : List ℕ) → calls kinds pcids (reader false 1 exit) root [] (255 ∷ 255 ∷ []) ≡ ends 2 4 false
  -- a call stops behind the event, though the fragment goes on
  stops : (kinds : List KindCounts) (pcids : List ℕ) → calls kinds pcids fresh root [] (exit ++ exit) ≡ ends 3 4 false
  stops_held : (kinds : List KindCounts) (pcids : List ℕ) → calls kinds pcids (reader false 2 exit) root [] (255 ∷ exit) ≡ ends 1 4 false
  -- 24 bytes of an event of 25 are held, and one byte more finishes it; CPL 4 answers 1, and the log goes on
  long : (kinds : List KindCounts) (pcids : List ℕ) → calls kinds pcids fresh out [] (16 ∷ replicate 23 0) ≡ waits 24 24
  long_held : (kinds : List KindCounts) (pcids : List ℕ) → calls kinds pcids (reader false 24 (16 ∷ replicate 23 0)) out [] (0 ∷ exit) ≡ ends 1 1 false
  -- an unknown kind takes one byte, and the ignoring begins; 7 is unknown at 48 and at 0, 1 at 57
  unknown : (kinds : List KindCounts) (pcids : List ℕ) → calls kinds pcids fresh root [] (0 ∷ exit) ≡ ends 1 4 true
  unknown_28 : (kinds : List KindCounts) (pcids : List ℕ) → calls kinds pcids fresh root [] (28 ∷ exit) ≡ ends 1 4 true
  seven : (kinds : List KindCounts) (pcids : List ℕ) → calls kinds pcids fresh root [] (7 ∷ exit) ≡ ends 1 4 true
  seven_at_0 : (kinds : List KindCounts) (pcids : List ℕ) → calls kinds pcids fresh (at 0 0 Root) [] (7 ∷ exit) ≡ ends 1 1 true
  seven_at_57 : (kinds : List KindCounts) (pcids : List ℕ) → calls kinds pcids fresh (at 57 0 Root) [] (7 ∷ exit) ≡ waits 4 4
  one_at_57 : (kinds : List KindCounts) (pcids : List ℕ) → calls kinds pcids fresh (at 57 0 Root) [] (1 ∷ exit) ≡ ends 1 4 true
  -- "answers 1 to 3 go first"
  unknown_1 : (kinds : List KindCounts) (pcids : List ℕ) → calls kinds pcids fresh out broken (0 ∷ exit) ≡ ends 1 1 true
  unknown_2 : (kinds : List KindCounts) (pcids t : List ℕ) → limit < length t → calls kinds pcids fresh root t (0 ∷ exit) ≡ ends 1 2 true
  unknown_3 : (kinds : List KindCounts) (pcids : List ℕ) → calls kinds pcids fresh root broken (0 ∷ exit) ≡ ends 1 3 true
  -- of a known event 2 and 3 begin the ignoring, 1 and 13 do not
  answer_1 : (kinds : List KindCounts) (pcids : List ℕ) → calls kinds pcids fresh out broken exit ≡ ends 3 1 false
  answer_2 : (kinds : List KindCounts) (pcids t : List ℕ) → limit < length t → calls kinds pcids fresh root t exit ≡ ends 3 2 true
  answer_3 : (kinds : List KindCounts) (pcids : List ℕ) → calls kinds pcids fresh root broken exit ≡ ends 3 3 true
  answer_13 : (pcids : List ℕ) → calls wrong pcids fresh root [] (23 ∷ exit) ≡ ends 1 13 false
  -- an accepted event beside a tally that matches
  accepted : (taken_of fresh (at 48 0 Outside) (kind_counts []) (pcid_counts []) [] (22 ∷ exit) 64).step ≡ accepted_step (at 48 0 Outside) [] (22 ∷ [])
  -- "The line number stops at 2^64 - 1."
  last_line : (kinds : List KindCounts) (pcids : List ℕ)
      → (taken_of (record { line = 2 ^ 64 - 1; ignoring = false; length = 0; held = replicate 24 0 }) root kinds pcids [] exit 64).reader.line ≡ 2 ^ 64 - 1
  -- damaged readers, and one with its flag set, take all and are handed back: with 25 bytes held, with a byte that begins no event, with
  -- a whole event and with more
  flagged : (kinds : List KindCounts) (pcids t x : List ℕ) → taken_of (reader true 2 exit) root kinds pcids t x 64 ≡ untaken (reader true 2 exit) root kinds (length x)
  too_many : (kinds : List KindCounts) (pcids t x : List ℕ) → taken_of (reader false 25 invvpid) root kinds pcids t x 64 ≡ untaken (reader false 25 invvpid) root kinds (length x)
  no_event : (kinds : List KindCounts) (pcids t x : List ℕ) → taken_of (reader false 1 (7 ∷ [])) root kinds pcids t x 64 ≡ untaken (reader false 1 (7 ∷ [])) root kinds (length x)
  complete : (kinds : List KindCounts) (pcids t x : List ℕ) → taken_of (reader false 3 exit) root kinds pcids t x 64 ≡ untaken (reader false 3 exit) root kinds (length x)
  more : (kinds : List KindCounts) (pcids t x : List ℕ) → taken_of (reader false 4 exit) root kinds pcids t x 64 ≡ untaken (reader false 4 exit) root kinds (length x)
  -- such a call leaves the counts by PCID and the buffer, and so does a refusal
  kept : (kinds : List KindCounts) (pcids t x : List ℕ) → taken_pcids (reader false 3 exit) root kinds pcids t x 64 ≡ pcids
  unwritten : (kinds : List KindCounts) (pcids t x b : List ℕ) → taken_written (reader false 3 exit) root kinds pcids t x b ≡ b
  refused_kept : (kinds : List KindCounts) (pcids : List ℕ) → taken_pcids fresh root kinds pcids [] exit 64 ≡ pcids
  refused_unwritten : (kinds : List KindCounts) (pcids b : List ℕ) → taken_written fresh root kinds pcids [] exit b ≡ b
  -- a finish call: a cut record, 1, 2, 3 else 4; nothing where no byte is held, but the ignoring begins; and once more
  cut : seen_end (finished_of (reader false 2 exit) root []) ≡ reports 4
  cut_1 : seen_end (finished_of (reader false 2 exit) out broken) ≡ reports 1
  cut_2 : (t : List ℕ) → limit < length t → seen_end (finished_of (reader false 2 exit) root t) ≡ reports 2
  cut_3 : seen_end (finished_of (reader false 2 exit) root broken) ≡ reports 3
  nothing : (t : List ℕ) → finished_of fresh root t ≡ record { reader = reader true 0 []; finished = false; answer = 0 }
  twice : (t : List ℕ) → finished_of (reader true 0 []) root t ≡ record { reader = reader true 0 []; finished = false; answer = 0 }
  damaged : (t : List ℕ) → finished_of (reader false 3 exit) root t ≡ record { reader = reader false 3 exit; finished = false; answer = 0 }

-- a tally of no records matches
none_match : matching (kind_counts []) (pcid_counts []) (records []) ≡ true
unfolding records records_within
none_match = counts_matching (kind_counts []) (pcid_counts []) [] refl refl

cards_hold : Rows
unfolding at root out reader fresh seen waits ends exit invvpid broken wrong calls seen_end reports put bytes in_range kind_of mapping_kind event_kind body_of length_of field mapping linear guest_physical combined structure_cache wide other_width global_marked fields_in_range starts_record record_length joined cut records_within records whole of_width only count canonical operands entry event event_in_range valid_event first own_rule rule_with invalid_opcode exits general_protection own_ground created no_room valid_table table_grounds event_grounds grounds answer tabulate of_row kind_counts same same_kinds matching accepted_step refused_step stepped counted_grounds counted_answer counted_stepped counted_pcids counted_written held_bytes first_size complete counts_as_ignoring next_line finishes event_taken bytes_taken ignoring_after reader_kept taken_of taken_pcids taken_written cut_answer finished_of
cards_hold =
    record {
      none = λ kinds pcids t. refl;
      none_held = λ kinds pcids t. refl;
      first_byte = λ kinds pcids t. refl;
      second_byte = λ kinds pcids t. refl;
      third_byte = λ kinds pcids. refl;
      last_two = λ kinds pcids. refl;
      stops = λ kinds pcids. refl;
      stops_held = λ kinds pcids. refl;
      long = λ kinds pcids. refl;
      long_held = λ kinds pcids. refl;
      unknown = λ kinds pcids. refl;
      unknown_28 = λ kinds pcids. refl;
      seven = λ kinds pcids. refl;
      seven_at_0 = λ kinds pcids. refl;
      seven_at_57 = λ kinds pcids. refl;
      one_at_57 = λ kinds pcids. refl;
      unknown_1 = λ kinds pcids. refl;
      unknown_2 = λ kinds pcids t long. rw (lt-ltb limit (length t) long);
      unknown_3 = λ kinds pcids. refl;
      answer_1 = λ kinds pcids. refl;
      answer_2 = λ kinds pcids t long. rw (lt-ltb limit (length t) long);
      answer_3 = λ kinds pcids. refl;
      answer_13 = λ pcids. refl;
      accepted = counted_stepped_matching (at 48 0 Outside) (kind_counts []) (pcid_counts []) [] (22 ∷ []) none_match 64;
      last_line = λ kinds pcids. refl;
      flagged = λ kinds pcids t x. refl;
      too_many = λ kinds pcids t x. refl;
      no_event = λ kinds pcids t x. refl;
      complete = λ kinds pcids t x. refl;
      more = λ kinds pcids t x. refl;
      kept = λ kinds pcids t x. refl;
      unwritten = λ kinds pcids t x b. refl;
      refused_kept = λ kinds pcids. refl;
      refused_unwritten = λ kinds pcids b. refl;
      cut = refl;
      cut_1 = refl;
      cut_2 = λ t long. rw (lt-ltb limit (length t) long);
      cut_3 = refl;
      nothing = λ t. refl;
      twice = λ t. refl;
      damaged = λ t. refl;
    }
