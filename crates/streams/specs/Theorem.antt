-- Document 02, Ask 3, as claims about every list of fragments: where a log is cut does not matter; what a reader ignores; and
-- "Begun alike and with buffers as long, it gives the answers, counts, table and context of the whole log", which is said of any
-- stream between two events, with buffers as long, and of the start.
use Rattle.std.specs.Prelude.{ℕ, zero, suc, ◌*◌, ◌≤◌, true, false, List, [], ◌∷◌, ◌++◌, map, ◌≡◌, length}
use Rattle.model.specs.declared.Context.{Context}
use Rattle.model.specs.Tables.{limit, joined}
use Rattle.model.specs.Answers.{valid_table}
use Rattle.readers.specs.Readers.{held_bytes, next_line}
use Rattle.runs.specs.Runs.{started, run_reports, run_of}
use Rattle.counted_runs.specs.Runs.{CountedRun, Fresh, counted_started, counted_of}
use Rattle.logs.specs.Logs.{events_of}
use Rattle.logs.specs.Replays.{Line, run_lines, row_length, replayed}
use Rattle.streams.specs.Streams.{Told, Stream, called, fed, fed_all, finished, ignores, reset, begun}

-- two streams are alike: all is equal but the places of the two readers that are not looked at, those past the bytes held
pub record Alike (s s' : Stream) : Type 0 where
  pub line : s.reader.line ≡ s'.reader.line
  pub ignoring : s.reader.ignoring ≡ s'.reader.ignoring
  pub size : s.reader.length ≡ s'.reader.length
  pub held : held_bytes s.reader ≡ held_bytes s'.reader
  pub run : s.run ≡ s'.run
  pub told : s.told ≡ s'.told
  pub full : length s.reader.held ≡ 24
  pub full' : length s'.reader.held ≡ 24

-- "in fragments of any length, none included, cut anywhere": from any stream, whatever its reader holds and whether it ignores,
-- fragments one after another leave what their bytes in one fragment leave, before a finish call and after it. A call with no
-- byte changes nothing.
pub record CutsDoNotMatter (s : Stream) (xs : List (List ℕ)) : Type 0 where
  pub before : Alike (fed_all s xs) (fed s (joined xs))
  pub after : Alike (finished (fed_all s xs)) (finished (fed s (joined xs)))
  pub none : called s [] ≡ s

abbrev pub CutsDoNotMatterAlways : Type 0
CutsDoNotMatterAlways = (s : Stream) (xs : List (List ℕ)) → length s.reader.held ≡ 24 → CutsDoNotMatter s xs

-- "later fragments are taken whole and ignored, as are finish calls, until a reset of the reader, which discards held bytes and
-- ends the ignoring"; "At most 24 bytes of an unfinished event are held between calls."
pub record Ignored (s : Stream) (xs : List (List ℕ)) : Type 0 where
  pub fragments : ignores s ≡ true → fed_all s xs ≡ s
  pub finish : ignores s ≡ true → finished s ≡ s
  pub begins : ignores (finished s) ≡ true
  pub ends : ignores (reset s) ≡ false
  pub few : s.reader.length ≤ 24 → ((fed_all s xs).reader.length ≤ 24) × ((finished s).reader.length ≤ 24)

abbrev pub IgnoredAlways : Type 0
IgnoredAlways = (s : Stream) (xs : List (List ℕ)) → length s.reader.held ≡ 24 → Ignored s xs

-- what was reported, as a line without its number; and the numbers of so many lines behind a line
abbrev pub line_of : Told → Line
line_of t = record { answer = t.report.answer; dropped = t.report.dropped; length = t.length }

unfoldable pub numbers_behind : ℕ → ℕ → List ℕ
numbers_behind line zero = []
numbers_behind line (suc n) = next_line line ∷ numbers_behind (next_line line) n

-- a stream between two events: its reader holds no byte and does not ignore, the table in force is valid and within the limit,
-- and the tally is a fresh count of it
pub record Between (s : Stream) : Type 0 where
  pub full : length s.reader.held ≡ 24
  pub flag : s.reader.ignoring ≡ false
  pub none : s.reader.length ≡ 0
  pub valid : valid_table s.run.run.context.linear_width s.run.run.table ≡ true
  pub short : length s.run.run.table ≤ limit
  pub fresh : Fresh s.run

-- "Begun alike": from any stream between two events, not only from the start, fragments and a finish call give what the whole log
-- gives to the run in force, behind what was reported before: the lines, with their rules and contexts; the numbers that go on
-- from the reader's; the context, the table and both buffers; and a tally that is a fresh count of the table
pub record AsTheWholeBetween (s : Stream) (xs : List (List ℕ)) : Type 0 where
  pub lines : map line_of (finished (fed_all s xs)).told ≡ map line_of s.told ++ run_lines s.run.run (events_of s.run.run.context.linear_width (joined xs))
  pub reports : map (λ t. t.report) (finished (fed_all s xs)).told ≡ map (λ t. t.report) s.told ++ run_reports s.run.run (events_of s.run.run.context.linear_width (joined xs))
  pub numbers : map (λ t. t.line) (finished (fed_all s xs)).told ≡ map (λ t. t.line) s.told ++ numbers_behind s.reader.line (length (events_of s.run.run.context.linear_width (joined xs)))
  pub run : (finished (fed_all s xs)).run.run ≡ run_of s.run.run (events_of s.run.run.context.linear_width (joined xs))
  pub counted : (finished (fed_all s xs)).run ≡ counted_of s.run (events_of s.run.run.context.linear_width (joined xs))
  pub fresh : Fresh (finished (fed_all s xs)).run

abbrev pub AsTheWholeBetweenAlways : Type 0
AsTheWholeBetweenAlways = (s : Stream) (xs : List (List ℕ)) → Between s → AsTheWholeBetween s xs

-- "with buffers as long": two runs with the same context, table and tally, whose buffers are as long; the bytes of the buffers
-- may differ
pub record AsLong (s s' : CountedRun) : Type 0 where
  pub context : s.run.context ≡ s'.run.context
  pub table : s.run.table ≡ s'.run.table
  pub kinds : s.kinds ≡ s'.kinds
  pub pcids : s.pcids ≡ s'.pcids
  pub front : length s.run.front ≡ length s'.run.front
  pub back : length s.run.back ≡ length s'.run.back

-- "Begun alike and with buffers as long, it gives the answers, counts, table and context of the whole log": here the whole log is
-- given to a run with buffers of its own
pub record AsTheWholeAsLong (s : Stream) (r : CountedRun) (xs : List (List ℕ)) : Type 0 where
  pub lines : map line_of (finished (fed_all s xs)).told ≡ map line_of s.told ++ run_lines r.run (events_of r.run.context.linear_width (joined xs))
  pub reports : map (λ t. t.report) (finished (fed_all s xs)).told ≡ map (λ t. t.report) s.told ++ run_reports r.run (events_of r.run.context.linear_width (joined xs))
  pub left : AsLong (finished (fed_all s xs)).run (counted_of r (events_of r.run.context.linear_width (joined xs)))

abbrev pub AsTheWholeAsLongAlways : Type 0
AsTheWholeAsLongAlways = (s : Stream) (r : CountedRun) (xs : List (List ℕ)) → Between s → AsLong s.run r → AsTheWholeAsLong s r xs

-- From the start, fragments and a finish call give all that the whole log gives to a run with the same buffers, whatever their
-- length: the lines, with their rules and contexts; the numbers 1, 2, 3, ..; the context, the table and both buffers; and a tally
-- that is a fresh count of the table. A run with other buffers as long gives the same but for the bytes of its buffers. So "a log
-- given whole to `logs::replay` and the same log in fragments report the same lines": `logs::replay` promises the lines
-- of `replayed`, which are those of all events where its output buffer has a row for each.
pub record AsTheWhole (c : Context) (a b places : List ℕ) (xs : List (List ℕ)) : Type 0 where
  pub lines : map line_of (finished (fed_all (begun c a b places) xs)).told ≡ run_lines (started c a b) (events_of c.linear_width (joined xs))
  pub reports : map (λ t. t.report) (finished (fed_all (begun c a b places) xs)).told ≡ run_reports (started c a b) (events_of c.linear_width (joined xs))
  pub numbers : map (λ t. t.line) (finished (fed_all (begun c a b places) xs)).told ≡ numbers_behind 0 (length (events_of c.linear_width (joined xs)))
  pub run : (finished (fed_all (begun c a b places) xs)).run.run ≡ run_of (started c a b) (events_of c.linear_width (joined xs))
  pub counted : (finished (fed_all (begun c a b places) xs)).run ≡ counted_of (counted_started c a b) (events_of c.linear_width (joined xs))
  pub fresh : Fresh (finished (fed_all (begun c a b places) xs)).run
  pub as_long : (a' b' : List ℕ) → length a ≡ length a' → length b ≡ length b' → AsTheWholeAsLong (begun c a b places) (counted_started c a' b') xs
  pub replay : (a' b' : List ℕ) (room : ℕ) → length a ≡ length a' → length b ≡ length b'
      → row_length * length (events_of c.linear_width (joined xs)) ≤ room
      → map line_of (finished (fed_all (begun c a b places) xs)).told ≡ run_lines (started c a' b') (replayed c.linear_width (joined xs) room)

abbrev pub AsTheWholeAlways : Type 0
AsTheWholeAlways = (c : Context) (a b places : List ℕ) (xs : List (List ℕ)) → length places ≡ 24 → AsTheWhole c a b places xs
