-- Rows about whole logs in fragments, all under one statement. Every event is answered 1: the context is out of its ranges.
use Rattle.std.specs.Prelude.{ℕ, Bool, true, false, List, [], ◌∷◌, ◌++◌, map, ◌≡◌, refl, length, drop, replicate}
use Rattle.model.specs.declared.Context.{Context}
use Rattle.model.specs.declared.Place.TheVariants.{Root}
use Rattle.model.specs.Buffers.{put}
use Rattle.model.specs.Context.{in_range, after_reset}
use Rattle.model.specs.Layouts.{kind_of, event_kind, body_of, length_of}
use Rattle.model.specs.Mappings.{linear, combined, wide, other_width}
use Rattle.model.specs.Answers.{first, table_grounds, rule_with}
use Rattle.model.specs.Steps.{refused_step}
use Rattle.counted_steps.specs.Steps.{counted_grounds, counted_answer, counted_stepped, counted_pcids, counted_written}
use Rattle.runs.specs.Runs.{started}
use Rattle.counted_runs.specs.Runs.{counted_started}
use Rattle.readers.specs.declared.Reader.{Reader}
use Rattle.readers.specs.Readers.{held_bytes, first_size, complete, counts_as_ignoring, next_line}
use Rattle.fragments.specs.Fragments.{finishes, event_taken, bytes_taken, ignoring_after, reader_kept, taken_of, taken_pcids, taken_written, cut_answer, finished_of}
use Rattle.streams.specs.Streams.{Stream, call, run_called, called, fed_within, fed, fed_all, finished, begun}
use Rattle.streams.specs.Theorem.{numbers_behind}

-- a physical width of 0 is out of range
context : Context
context = record { capability = 0; width = 0; linear_width = 48; pcid = 0; cpl = 0; place = Root }

start : Stream
start = begun context [] [] (replicate 24 0)

-- a VM exit
exit : List ℕ
exit = 21 ∷ 7 ∷ 0 ∷ []

-- the number and the answer of each line
lines : Stream → List (ℕ × ℕ)
lines s = map (λ t. (t.line, t.report.answer)) s.told

-- a reader with a line and a flag that holds the first so many of some bytes, with zeros behind these
reader : ℕ → Bool → ℕ → List ℕ → Reader
reader line ignoring size held = record { line = line; ignoring = ignoring; length = size; held = held ++ drop (length held) (replicate 24 0) }

-- two exits, the second cut behind two bytes; the same in four fragments, one of them empty
log : List ℕ
log = exit ++ (21 ∷ 7 ∷ [])

fragments : List (List ℕ)
fragments = (21 ∷ []) ∷ [] ∷ (7 ∷ 0 ∷ 21 ∷ []) ∷ (7 ∷ []) ∷ []

-- Every row holds.
record Rows : Type 0 where
  -- one fragment, and four: the first event is reported, and two bytes are held
  one : lines (fed start log) ≡ (1, 1) ∷ []
  four : lines (fed_all start fragments) ≡ (1, 1) ∷ []
  one_held : (fed start log).reader ≡ reader 1 false 2 (21 ∷ 7 ∷ [])
  four_held : (fed_all start fragments).reader ≡ reader 1 false 2 (21 ∷ 7 ∷ [])
  -- the finish call reports the cut record, and the reader ignores; a second one, and more bytes, report nothing
  ends : lines (finished (fed_all start fragments)) ≡ (1, 1) ∷ (2, 1) ∷ []
  ended : (finished (fed_all start fragments)).reader ≡ reader 2 true 0 (21 ∷ 7 ∷ [])
  again : lines (finished (fed (finished (fed_all start fragments)) log)) ≡ (1, 1) ∷ (2, 1) ∷ []
  -- nothing is reported behind an unknown kind, which is one byte
  unknown : lines (finished (fed start (exit ++ (0 ∷ exit)))) ≡ (1, 1) ∷ (2, 1) ∷ []
  -- an empty log
  empty : (finished (fed_all start ([] ∷ []))).told ≡ []
  -- the numbers of lines
  numbers : numbers_behind 0 3 ≡ 1 ∷ 2 ∷ 3 ∷ []

cards_hold : Rows
unfolding context start exit lines reader log fragments put in_range after_reset kind_of event_kind body_of length_of linear combined wide other_width first table_grounds rule_with refused_step counted_grounds counted_answer counted_stepped counted_pcids counted_written started counted_started held_bytes first_size complete counts_as_ignoring next_line finishes event_taken bytes_taken ignoring_after reader_kept taken_of taken_pcids taken_written cut_answer finished_of call run_called called fed_within fed fed_all finished begun numbers_behind
cards_hold =
    record {
      one = refl;
      four = refl;
      one_held = refl;
      four_held = refl;
      ends = refl;
      ended = refl;
      again = refl;
      unknown = refl;
      empty = refl;
      numbers = refl;
    }
