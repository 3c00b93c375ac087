-- Demand 3 of each level as one claim, and what a lookup finds in a second run.
use Rattle.std.specs.Prelude.{ℕ, ◌≤◌, Bool, false, List, [], ◌∷◌, map, ◌≡◌, length}
use Rattle.model.specs.declared.Context.{Context}
use Rattle.model.specs.Tables.{limit}
use Rattle.model.specs.declared.Address.TheVariants.{Linear}
use Rattle.model.specs.Lookups.{usable_records}
use Rattle.laws.specs.Lists.{Every}
use Rattle.level_lookups.specs.Levels.{lookup_levels_level, lookup_levels}
use Rattle.runs.specs.Book.{opened, book_table, book_reports, book_of}
use Rattle.runs.specs.Runs.{Compared, verdict, InOrderPart}
use Rattle.counted_runs.specs.Runs.{plain_gap, Fresh, FreshGap}
use Rattle.level_runs.specs.Runs.{LevelNumber, one, two, LevelRun, level_run, levels_started, levels_reports, levels_of, levels_states, levels_refused_for_room, LevelsGap, level_gap, levels_gaps, levels_second_reports}

-- the first run, of one level: as the book says, and its tally is fresh at the start and after every event
pub record LevelFirst (n : LevelNumber) (c : Context) (es : List (List ℕ)) (a b : LevelNumber → List ℕ) : Type 0 where
  pub table : (level_run n (levels_of (levels_started c a b) es)).run.table ≡ book_table (book_of (opened c) es)
  pub context : (levels_of (levels_started c a b) es).context ≡ (book_of (opened c) es).context
  pub reports : levels_reports n (levels_started c a b) es ≡ book_reports (opened c) es
  pub fresh : Every Fresh (map (level_run n) (levels_states (levels_started c a b) es))

-- the second run beside the first, of one level: the first run's answers and contexts; usable records within those of the
-- first run's same level, before and after each removal; and a fresh tally
pub record LevelSecond (n : LevelNumber) (c : Context) (es : List (List ℕ)) (a b : LevelNumber → List ℕ) (removals : LevelNumber → ℕ → List Bool) (a' b' : LevelNumber → List ℕ) : Type 0 where
  pub verdicts : map verdict (levels_second_reports n removals (levels_started c a' b') es) ≡ map verdict (levels_reports n (levels_started c a b) es)
  pub usable : Compared (map plain_gap (map (level_gap n) (levels_gaps removals (levels_started c a' b') es))) (map (λ s. s.run) (map (level_run n) (levels_states (levels_started c a b) es)))
  pub fresh : Every FreshGap (map (level_gap n) (levels_gaps removals (levels_started c a' b') es))

-- Demand 3 of a level, on the conditions on which it stands of one table
pub record LevelDemand3 (n : LevelNumber) (c : Context) (es : List (List ℕ)) (a b : LevelNumber → List ℕ) : Type 0 where
  pub first_run : LevelFirst n c es a b
  pub second_run : (removals : LevelNumber → ℕ → List Bool) (a' b' : LevelNumber → List ℕ)
      → ((m : LevelNumber) → limit ≤ length (a' m))
      → ((m : LevelNumber) → limit ≤ length (b' m))
      → levels_refused_for_room (levels_started c a b) es ≡ false
      → LevelSecond n c es a b removals a' b'

abbrev pub LevelsDemand3 : Type 0
LevelsDemand3 =
    (n : LevelNumber) (c : Context) (es : List (List ℕ)) (a b : LevelNumber → List ℕ)
    → ((m : LevelNumber) → limit ≤ length (a m))
    → ((m : LevelNumber) → limit ≤ length (b m))
    → LevelDemand3 n c es a b

-- the number of a level
abbrev pub number_of : LevelNumber → ℕ
number_of one = 1
number_of two = 2

-- whatever translation a lookup finds in a run is, in its level, a usable record of the other run
abbrev pub FoundWithin : LevelRun → LevelRun → Type 0
FoundWithin s full =
    (address : ℕ) (n : LevelNumber)
    → lookup_levels_level s.context address (s.level one).table (s.level two).table ≡ number_of n
    → InOrderPart (lookup_levels s.context address (s.level one).table (s.level two).table ∷ []) (usable_records full.context (Linear address) (full.level n).table)

-- the second run beside the first after the same events, at every gap, before and after the removals
pub data LooksWithin : List LevelsGap → List LevelRun → Type 0 where
  none : LooksWithin [] []
  more : {g : LevelsGap} {gs : List LevelsGap} {s : LevelRun} {ss : List LevelRun}
      → FoundWithin g.before s
      → FoundWithin g.after s
      → LooksWithin gs ss
      → LooksWithin (g ∷ gs) (s ∷ ss)

-- on the conditions of demand 3's second half, a lookup in the second run finds nothing that is not usable in the first
abbrev pub LevelsLookups : Type 0
LevelsLookups =
    (c : Context) (es : List (List ℕ)) (a b : LevelNumber → List ℕ)
    → ((m : LevelNumber) → limit ≤ length (a m))
    → ((m : LevelNumber) → limit ≤ length (b m))
    → (removals : LevelNumber → ℕ → List Bool) (a' b' : LevelNumber → List ℕ)
    → ((m : LevelNumber) → limit ≤ length (a' m))
    → ((m : LevelNumber) → limit ≤ length (b' m))
    → levels_refused_for_room (levels_started c a b) es ≡ false
    → LooksWithin (levels_gaps removals (levels_started c a' b') es) (levels_states (levels_started c a b) es)
