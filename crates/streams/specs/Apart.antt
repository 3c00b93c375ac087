-- Document 02, Ask 14, of logs in fragments (Ask 3): "Over a whole log it holds too, from any two such tables with one context,
-- as long as each event is accepted in both or refused in both."
use Rattle.std.specs.Prelude.{ℕ, Bool, false, List, [], map, ◌≡◌, eqb, length}
use Rattle.model.specs.Tables.{joined}
use Rattle.readers.specs.Readers.{held_bytes}
use Rattle.runs.specs.Apart.{of_vpid, of_ep4ta, Alike}
use Rattle.streams.specs.Streams.{Stream, fed_all, finished, ignores}

-- two streams with one context and two tables that are alike, of which nothing is reported yet. Their readers do not ignore, and
-- hold the same bytes, if any. Tallies, buffers and line numbers are any.
pub record Renters (test : List ℕ → Bool) (s s' : Stream) : Type 0 where
  pub context : s.run.run.context ≡ s'.run.run.context
  pub tables : Alike test s.run.run.table s'.run.run.table
  pub held : held_bytes s.reader ≡ held_bytes s'.reader
  pub full : length s.reader.held ≡ 24
  pub full' : length s'.reader.held ≡ 24
  pub awake : ignores s ≡ false
  pub awake' : ignores s' ≡ false
  pub none : s.told ≡ []
  pub none' : s'.told ≡ []

-- of each line that a stream reported, whether its event was accepted
unfoldable pub accepted_lines : Stream → List Bool
accepted_lines s = map (λ t. eqb t.report.answer 0) s.told

-- the same bytes, cut anywhere in each: where the lines are accepted in both or refused in both, the tables stay alike
pub record StreamsApart (test : List ℕ → Bool) : Type 0 where
  pub log : (s s' : Stream) (xs xs' : List (List ℕ))
      → Renters test s s'
      → joined xs ≡ joined xs'
      → accepted_lines (finished (fed_all s xs)) ≡ accepted_lines (finished (fed_all s' xs'))
      → Alike test (finished (fed_all s xs)).run.run.table (finished (fed_all s' xs')).run.run.table

abbrev pub StreamsRentersApart : Type 0
StreamsRentersApart = ((vpid : ℕ) → StreamsApart (of_vpid vpid)) × ((ep4ta : ℕ) → StreamsApart (of_ep4ta ep4ta))
