-- Document 02, Ask 3: a log in fragments, each fed by calls until all of it is taken, and the finish call behind the last.
use Rattle.std.specs.Prelude.{ℕ, zero, suc, Bool, false, cond, List, [], ◌∷◌, ◌++◌, length, drop}
use Rattle.model.specs.declared.Context.{Context}
use Rattle.fragments.specs.declared.Taken.{Taken}
use Rattle.fragments.specs.Fragments.{taken_of, taken_pcids, taken_written, finished_of}
use Rattle.readers.specs.declared.Reader.{Reader}
use Rattle.readers.specs.Readers.{counts_as_ignoring, emptied}
use Rattle.runs.specs.Book.{Report}
use Rattle.runs.specs.Runs.{moved, report}
use Rattle.counted_runs.specs.Runs.{CountedRun, counted_started}

-- what is reported of an event: its line number, its step's report, and the length of the table in force after it
pub record Told : Type 0 where
  pub line : ℕ
  pub report : Report
  pub length : ℕ

-- a log as it arrives: its reader, the run beside its tally, and what was reported so far
pub record Stream : Type 0 where
  pub reader : Reader
  pub run : CountedRun
  pub told : List Told

-- a call with a fragment, on the context, the tally and the table in force, with the other buffer
unfoldable pub call : Stream → List ℕ → Taken
call s x =
    taken_of s.reader s.run.run.context s.run.kinds s.run.pcids s.run.run.table x (length s.run.run.back)

-- the run after it: where an event is finished, the buffers change places as after any step
unfoldable pub run_called : Stream → List ℕ → CountedRun
run_called s x =
    record {
      run =
          cond (call s x).finished
          (moved s.run.run (call s x).step
          (taken_written s.reader s.run.run.context s.run.kinds s.run.pcids s.run.run.table x s.run.run.back))
          s.run.run;
      kinds = (call s x).kinds;
      pcids = taken_pcids s.reader s.run.run.context s.run.kinds s.run.pcids s.run.run.table x (length s.run.run.back);
    }

unfoldable pub called : Stream → List ℕ → Stream
called s x =
    record {
      reader = (call s x).reader;
      run = run_called s x;
      told =
          s.told
          ++ cond (call s x).finished
          (record { line = (call s x).reader.line; report = report (call s x).step; length = length (run_called s x).run.table } ∷ [])
          [];
    }

-- a fragment is fed by calls, each with what the last one left of it, until all of it is taken; at most as many as the number says
unfoldable pub fed_within : ℕ → Stream → List ℕ → Stream
fed_within zero s x = s
fed_within (suc n) s [] = s
fed_within (suc n) s (b ∷ bs) = fed_within n (called s (b ∷ bs)) (drop (call s (b ∷ bs)).taken (b ∷ bs))

unfoldable pub fed : Stream → List ℕ → Stream
fed s x = fed_within (length x) s x

-- fragments one after another
unfoldable pub fed_all : Stream → List (List ℕ) → Stream
fed_all s [] = s
fed_all s (x ∷ xs) = fed_all (fed s x) xs

-- a finish call: it writes nothing, and reports no rule and no dropped mapping
unfoldable pub finished : Stream → Stream
finished s =
    let f = finished_of s.reader s.run.run.context s.run.run.table in
    record {
      reader = f.reader;
      run = s.run;
      told =
          s.told
          ++ cond f.finished
          (record {
            line = f.reader.line;
            report = record { answer = f.answer; rule = 0; dropped = 0; context = s.run.run.context };
            length = length s.run.run.table;
          }
          ∷ [])
          [];
    }

-- the reader ignores; and a reset of the reader: "table, context and line number stay"
abbrev pub ignores : Stream → Bool
ignores s = counts_as_ignoring s.run.run.context.linear_width s.reader

unfoldable pub reset : Stream → Stream
reset s = record { reader = emptied s.reader; run = s.run; told = s.told }

-- the start: a reset of the context, an empty table, every count 0, two buffers, and a reader with line 0 that holds nothing
unfoldable pub begun : Context → List ℕ → List ℕ → List ℕ → Stream
begun c a b places =
    record { reader = record { line = 0; ignoring = false; length = 0; held = places }; run = counted_started c a b; told = [] }
