-- What is proved of origins (issue 39, part 3). The proofs are in Laws.
use Rattle.std.specs.Prelude.{ℕ, ◌-◌, ◌≤◌, ◌<◌, false, List, [], ◌∷◌, map, ◌≡◌, length, get_or}
use Rattle.model.specs.declared.Context.{Context}
use Rattle.laws.specs.Lists.{Every}
use Rattle.runs.specs.Book.{standing, opened}
use Rattle.roomy_runs.specs.Books.{roomy_of}
use Rattle.roomy_runs.specs.Lent.{lent_start, lent_of, overflowed}
use Rattle.origins.specs.Origins.{Numbered, numbered_start, numbered_of, standing_numbered, origins_of, numbered_run_start, numbered_run_of}
use Rattle.origins.specs.Standing.{Part}

-- "each is the place of its event in the log", from 1
pub record Placed (log : List (List ℕ)) (x : Numbered) : Type 0 where
  pub low : 1 ≤ x.number
  pub high : x.number ≤ length log
  pub event : get_or log (x.number - 1) [] ≡ x.note.event

-- "and they ascend"
unfoldable pub Ascending : ℕ → List ℕ → Type 0
Ascending n [] = Unit {0}
Ascending n (k ∷ ks) = (n < k) × Ascending k ks

-- "after every list of events the origins are those of the standing creations, in order"
pub record Origins (c : Context) (es : List (List ℕ)) : Type 0 where
  pub context : (numbered_of (numbered_start c) es).context ≡ (roomy_of (opened c) es).context
  pub notes : map (λ (x : Numbered). x.note) (numbered_of (numbered_start c) es).notes ≡ (roomy_of (opened c) es).notes
  pub records : map (λ (x : Numbered). x.note.event) (standing_numbered (numbered_of (numbered_start c) es)) ≡ standing (roomy_of (opened c) es).notes
  pub placed : Every (Placed es) (standing_numbered (numbered_of (numbered_start c) es))
  pub ascend : Ascending 0 (origins_of (numbered_of (numbered_start c) es))

abbrev pub OriginsExact : Type 0
OriginsExact = (c : Context) (es : List (List ℕ)) → Origins c es

-- The run with lent room: without the numbers it is that of part 2; its records with their origins are an in-order part of
-- the standing ones, and all of them where every creation fits.
pub record OriginsWithin (room : ℕ) (c : Context) (es : List (List ℕ)) : Type 0 where
  pub context : (numbered_run_of room (numbered_run_start c) es).context ≡ (lent_of room (lent_start c) es).context
  pub records : map (λ (x : Numbered). x.note.event) (numbered_run_of room (numbered_run_start c) es).held ≡ (lent_of room (lent_start c) es).records
  pub part : Part (numbered_run_of room (numbered_run_start c) es).held (standing_numbered (numbered_of (numbered_start c) es))
  pub all : overflowed room (lent_start c) es ≡ false → (numbered_run_of room (numbered_run_start c) es).held ≡ standing_numbered (numbered_of (numbered_start c) es)

abbrev pub OriginsWithinAlways : Type 0
OriginsWithinAlways = (room : ℕ) (c : Context) (es : List (List ℕ)) → OriginsWithin room c es
