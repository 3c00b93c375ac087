-- Document 02, Ask 3: what is kept of a log between two fragments.
use Rattle.std.specs.Prelude.{ℕ, min, ◌+◌, ◌-◌, ◌^◌, Bool, true, false, cond, ◌||◌, List, ◌++◌, Option, ◌≡◌, is_some, leb, ltb, length, take, unwrap_or}
use Rattle.model.specs.Buffers.{put}
use Rattle.model.specs.Layouts.{kind_of, length_of}
use Rattle.logs.specs.Logs.{known_at}
use Rattle.readers.specs.declared.Reader.{Reader}
use Rattle.readers.specs.declared.Gathered.{Gathered}

-- "At most 24 bytes of an unfinished event are held between calls."
abbrev pub most_held : ℕ
most_held = 24

-- the bytes of an unfinished event that a reader holds; those past its length are not looked at
unfoldable pub held_bytes : Reader → List ℕ
held_bytes r = take r.length r.held

-- how many bytes the first event has, at a linear width: "an unknown kind byte counts as finished"
unfoldable pub first_size : ℕ → List ℕ → ℕ
first_size width bytes = cond (known_at width (kind_of bytes)) (length_of (kind_of bytes)) 1

-- the bytes finish an event: they begin with a known one that is whole, or with an unknown kind byte
unfoldable pub complete : ℕ → List ℕ → Bool
complete width bytes = leb (first_size width bytes) (length bytes)

-- "A reader handed in with more than 24 bytes held, or with bytes that begin no known event or complete one, counts as
-- ignoring."
unfoldable pub counts_as_ignoring : ℕ → Reader → Bool
counts_as_ignoring width r = r.ignoring || (ltb most_held r.length || complete width (held_bytes r))

-- "The line number stops at 2^64 - 1."
unfoldable pub next_line : ℕ → ℕ
next_line line = min (line + 1) (2 ^ 64 - 1)

-- the reader that holds the bytes of a fragment behind those held
abbrev pub holding : Reader → List ℕ → Reader
holding r x = record { line = r.line; ignoring = r.ignoring; length = r.length + length x; held = put r.length x r.held }

-- the reader after an event that is reported: nothing is held
abbrev pub read_on : Reader → Bool → Reader
read_on r ignoring = record { line = next_line r.line; ignoring = ignoring; length = 0; held = r.held }

-- the reader after a finish call that reports nothing
abbrev pub ended : Reader → Reader
ended r = record { line = r.line; ignoring = true; length = r.length; held = r.held }

-- "a reset of the reader, which discards held bytes and ends the ignoring; table, context and line number stay"
abbrev pub emptied : Reader → Reader
emptied r = record { line = r.line; ignoring = false; length = 0; held = r.held }

-- what is told of the first event of some bytes: how many bytes it has, where its kind is known; else it has one
pub record First (width : ℕ) (bytes : List ℕ) (r : Option ℕ) : Type 0 where
  pub size : unwrap_or r 1 ≡ first_size width bytes
  pub known : is_some r ≡ known_at width (kind_of bytes)

-- the bytes held and those of a fragment behind them, of which 25 are enough to finish any event
pub record Together (r : Reader) (x : List ℕ) (all : Gathered) : Type 0 where
  pub size : all.length ≡ min 25 (length (held_bytes r ++ x))
  pub bytes : take all.length all.bytes ≡ take 25 (held_bytes r ++ x)
  pub held : length (held_bytes r) ≡ r.length
