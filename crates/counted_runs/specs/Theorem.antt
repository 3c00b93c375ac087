-- Demand 3 of runs with a tally, as one claim.
use Rattle.std.specs.Prelude.{ℕ, ◌≤◌, Bool, false, List, map, ◌≡◌, length}
use Rattle.model.specs.declared.Context.{Context}
use Rattle.model.specs.Tables.{limit}
use Rattle.laws.specs.Lists.{Every}
use Rattle.runs.specs.Book.{opened, book_table, book_reports, book_of}
use Rattle.runs.specs.Runs.{Compared, verdict}
use Rattle.counted_runs.specs.Runs.{counted_started, counted_reports, counted_of, counted_states, counted_refused_for_room, plain_gap, counted_gaps, counted_second_reports, Fresh, FreshGap}

-- the first run: as the book says, and its tally is fresh at the start and after every event
pub record CountedFirst (c : Context) (es : List (List ℕ)) (a b : List ℕ) : Type 0 where
  pub table : (counted_of (counted_started c a b) es).run.table ≡ book_table (book_of (opened c) es)
  pub context : (counted_of (counted_started c a b) es).run.context ≡ (book_of (opened c) es).context
  pub reports : counted_reports (counted_started c a b) es ≡ book_reports (opened c) es
  pub fresh : Every Fresh (counted_states (counted_started c a b) es)

-- the second run beside the first, and its tally is fresh at every gap, before and after the removal there
pub record CountedSecond (c : Context) (es : List (List ℕ)) (a b : List ℕ) (removals : ℕ → List Bool) (a' b' : List ℕ) : Type 0 where
  pub verdicts : map verdict (counted_second_reports removals (counted_started c a' b') es) ≡ map verdict (counted_reports (counted_started c a b) es)
  pub usable : Compared (map plain_gap (counted_gaps removals (counted_started c a' b') es)) (map (λ s. s.run) (counted_states (counted_started c a b) es))
  pub fresh : Every FreshGap (counted_gaps removals (counted_started c a' b') es)

-- Demand 3 of counted runs, on the conditions on which it stands of plain ones
pub record CountedDemand3 (c : Context) (es : List (List ℕ)) (a b : List ℕ) : Type 0 where
  pub first_run : CountedFirst c es a b
  pub second_run : (removals : ℕ → List Bool) (a' b' : List ℕ)
      → limit ≤ length a'
      → limit ≤ length b'
      → counted_refused_for_room (counted_started c a b) es ≡ false
      → CountedSecond c es a b removals a' b'

abbrev pub CountedDemand3Always : Type 0
CountedDemand3Always = (c : Context) (es : List (List ℕ)) (a b : List ℕ) → limit ≤ length a → limit ≤ length b → CountedDemand3 c es a b
