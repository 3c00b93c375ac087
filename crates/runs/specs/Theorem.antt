-- What is claimed of whole runs: demand 3; and document 02, Ask 14: what an event leaves of one VPID's records depends on no
-- other record of the table, over a whole log too, and the like for guest-physical records by EP4TA.
use Rattle.std.specs.Prelude.{ℕ, ◌≤◌, Bool, false, List, map, ◌≡◌, length}
use Rattle.model.specs.declared.Context.{Context}
use Rattle.model.specs.Tables.{limit}
use Rattle.model.specs.Steps.{stepped}
use Rattle.runs.specs.Book.{opened, book_table, book_reports, book_of}
use Rattle.runs.specs.Runs.{Run, started, run_reports, run_of, run_states, second_gaps, second_reports, refused_for_room, Compared, verdict}
use Rattle.runs.specs.Apart.{of_vpid, of_ep4ta, Alike, table_after, Together}

-- "Tables are equal byte for byte"; the context, every answer and every dropped count are the book's
pub record FirstRun (c : Context) (es : List (List ℕ)) (a b : List ℕ) : Type 0 where
  pub table : (run_of (started c a b) es).table ≡ book_table (book_of (opened c) es)
  pub context : (run_of (started c a b) es).context ≡ (book_of (opened c) es).context
  pub reports : run_reports (started c a b) es ≡ book_reports (opened c) es

-- the second run, with buffers of its own, beside the first
pub record SecondRun (c : Context) (es : List (List ℕ)) (a b : List ℕ) (removals : ℕ → List Bool) (a' b' : List ℕ) : Type 0 where
  pub verdicts : map verdict (second_reports removals (started c a' b') es) ≡ map verdict (run_reports (started c a b) es)
  pub usable : Compared (second_gaps removals (started c a' b') es) (run_states (started c a b) es)

-- Demand 3: every context that gives a capability, N and a linear width, every list of events, all buffers of at least
-- 47,104 bytes, and every choice of removals. The second run's half is on the condition that the first
-- run refused no creation for room.
pub record Demand3 (c : Context) (es : List (List ℕ)) (a b : List ℕ) : Type 0 where
  pub first_run : FirstRun c es a b
  pub second_run : (removals : ℕ → List Bool) (a' b' : List ℕ)
      → limit ≤ length a'
      → limit ≤ length b'
      → refused_for_room (started c a b) es ≡ false
      → SecondRun c es a b removals a' b'

abbrev pub Demand3Always : Type 0
Demand3Always = (c : Context) (es : List (List ℕ)) (a b : List ℕ) → limit ≤ length a → limit ≤ length b → Demand3 c es a b

-- two tables that are alike stay so under one event that both accept, and over a log, "from any two such
-- tables with one context"
pub record Apart (test : List ℕ → Bool) : Type 0 where
  pub step : (c : Context) (t t' e buffer buffer' : List ℕ)
      → (stepped c t e (length buffer)).answer ≡ 0
      → (stepped c t' e (length buffer')).answer ≡ 0
      → Alike test t t'
      → Alike test (table_after c t e buffer) (table_after c t' e buffer')
  pub log : (s s' : Run) (es : List (List ℕ))
      → s.context ≡ s'.context
      → Alike test s.table s'.table
      → Together s s' es
      → Alike test (run_of s es).table (run_of s' es).table

abbrev pub RentersApart : Type 0
RentersApart = ((vpid : ℕ) → Apart (of_vpid vpid)) × ((ep4ta : ℕ) → Apart (of_ep4ta ep4ta))
