-- Rows about readers and calls as flat structs, all under one statement.
use Rattle.std.specs.Prelude.{ℕ, true, false, List, [], ◌∷◌, ◌++◌, map, ◌≡◌, refl, length, drop, replicate}
use Rattle.model.specs.Buffers.{put}
use Rattle.model.specs.Context.{in_range}
use Rattle.model.specs.Layouts.{kind_of, event_kind, body_of, length_of}
use Rattle.model.specs.Mappings.{linear, combined, wide, other_width}
use Rattle.model.specs.Answers.{first, table_grounds, rule_with}
use Rattle.model.specs.Steps.{refused_step}
use Rattle.tally_rows.specs.declared.KindCounts.{KindCounts}
use Rattle.counted_steps.specs.Steps.{counted_grounds, counted_answer, counted_stepped}
use Rattle.readers.specs.Readers.{held_bytes, first_size, complete, counts_as_ignoring, next_line}
use Rattle.fragments.specs.Fragments.{finishes, event_taken, bytes_taken, ignoring_after, reader_kept, taken_of, cut_answer, finished_of}
use Rattle.flat_contexts.specs.declared.FlatContext.{FlatContext}
use Rattle.flat_contexts.specs.Contexts.{is_known, unflatten}
use Rattle.flat_steps.specs.declared.FlatKinds.{FlatKinds}
use Rattle.flat_steps.specs.Steps.{refused}
use Rattle.flat_fragments.specs.declared.FlatReader.{FlatReader}
use Rattle.flat_fragments.specs.Flat.{reader_of, flat_reader, as_read, flat_told, flat_taken, flat_finished, flat_emptied}

-- numbers whose place stands for nothing
nowhere : FlatContext
nowhere = record { capability = 0; width = 52; linear_width = 48; pcid = 0; cpl = 0; place = 3; vpid = 0; ept = 0; ep4ta = 0 }

-- a reader with line 5 and a flag that holds the first so many of some bytes, with zeros behind these
reader : ℕ → ℕ → ℕ → List ℕ → FlatReader
reader line ignoring size held = record { line = line; ignoring = ignoring; length = size; held = held ++ drop (length held) (replicate 24 0) }

-- a VM exit
exit : List ℕ
exit = 21 ∷ 7 ∷ 0 ∷ []

kinds_of : List KindCounts → FlatKinds
kinds_of rows = record { rows = rows }

-- Every row holds.
record Rows : Type 0 where
  -- a flag of 0 is not set, any other is
  flags : map (λ flag. (reader_of (reader 5 flag 0 [])).ignoring) (0 ∷ 1 ∷ 2 ∷ []) ≡ false ∷ true ∷ true ∷ []
  -- a flag that stays set keeps its number; one that is set becomes 1
  told : map (λ flag. (flat_reader (reader 5 flag 0 []) (reader_of (reader 5 7 0 []))).ignoring) (0 ∷ 1 ∷ 7 ∷ []) ≡ 1 ∷ 1 ∷ 7 ∷ []
  -- numbers that stand for nothing: a VM exit is answered 1, with the context as it came, and the log goes on
  answered : (rows : List KindCounts) (pcids t : List ℕ)
      → flat_taken (reader 5 0 0 []) nowhere (kinds_of rows) pcids t (exit ++ exit) 64
      ≡ record { reader = reader 6 0 0 []; taken = 3; finished = 1; step = refused 1 0 nowhere; kinds = kinds_of rows }
  -- an unknown kind is answered 1 too, and the ignoring begins
  unknown : (rows : List KindCounts) (pcids t : List ℕ)
      → flat_taken (reader 5 0 0 []) nowhere (kinds_of rows) pcids t (7 ∷ exit) 64
      ≡ record { reader = reader 6 1 0 []; taken = 1; finished = 1; step = refused 1 0 nowhere; kinds = kinds_of rows }
  -- nothing finished: numbers 0 and the context as it came; a flag of 7 is handed back
  held : (rows : List KindCounts) (pcids t : List ℕ)
      → flat_taken (reader 5 0 0 []) nowhere (kinds_of rows) pcids t (21 ∷ 7 ∷ []) 64
      ≡ record { reader = reader 5 0 2 (21 ∷ 7 ∷ []); taken = 2; finished = 0; step = refused 0 0 nowhere; kinds = kinds_of rows }
  IgnoredAlways : (rows : List KindCounts) (pcids t x : List ℕ)
      → flat_taken (reader 5 7 2 exit) nowhere (kinds_of rows) pcids t x 64
      ≡ record { reader = reader 5 7 2 exit; taken = length x; finished = 0; step = refused 0 0 nowhere; kinds = kinds_of rows }
  -- a finish call with two bytes held, with none, and of a reader that ignores; a reset
  cut : (t : List ℕ) → flat_finished (reader 5 0 2 exit) nowhere t ≡ record { reader = reader 6 1 0 exit; finished = 1; answer = 1 }
  none : (t : List ℕ) → flat_finished (reader 5 0 0 exit) nowhere t ≡ record { reader = reader 5 1 0 exit; finished = 0; answer = 0 }
  twice : (t : List ℕ) → flat_finished (reader 5 7 2 exit) nowhere t ≡ record { reader = reader 5 7 2 exit; finished = 0; answer = 0 }
  resets : flat_emptied (reader 5 7 30 exit) ≡ reader 5 0 0 exit

cards_hold : Rows
unfolding nowhere reader exit kinds_of put in_range kind_of event_kind body_of length_of linear combined wide other_width first table_grounds rule_with refused_step counted_grounds counted_answer counted_stepped held_bytes first_size complete counts_as_ignoring next_line finishes event_taken bytes_taken ignoring_after reader_kept taken_of cut_answer finished_of is_known unflatten reader_of flat_reader as_read flat_told flat_taken flat_finished flat_emptied
cards_hold =
    record {
      flags = refl;
      told = refl;
      answered = λ rows pcids t. refl;
      unknown = λ rows pcids t. refl;
      held = λ rows pcids t. refl;
      IgnoredAlways = λ rows pcids t x. refl;
      cut = λ t. refl;
      none = λ t. refl;
      twice = λ t. refl;
      resets = refl;
    }
