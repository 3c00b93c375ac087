-- What the judge's functions tell: how far the records that are left match a claim.
use Rattle.std.specs.Prelude.{ℕ, ◌≤◌, Bool, true, cond, List, ◌++◌, ◌≡◌, eqb, length, drop}
use Rattle.model.specs.declared.Mapping.{Mapping}
use Rattle.model.specs.Tables.{whole, records}
use Rattle.model.specs.Answers.{creation}
use Rattle.filters.specs.Filters.{left}
use Rattle.claims.specs.declared.Judgement.{Judgement}
use Rattle.claims.specs.declared.Judgement.TheVariants.{Accepted, Unmatched}
use Rattle.claims.specs.Claims.{matched}

-- The claim is matched up to a position by the records of a table of which the test does not hold: with any more
-- records behind those, the matching goes on from there with these alone.
pub record Passes (test : Mapping → Bool) (t claim : List ℕ) (reached : ℕ) : Type 0 where
  pub inside : reached ≤ length claim
  pub rest : whole (drop reached claim) ≡ true
  pub same : (behind : List (List ℕ))
      → matched 0 (records claim) (left test t ++ behind) ≡ matched reached (records (drop reached claim)) behind

-- a position of the claim as a judgement, with no record left to match: the end, or the first record not matched
unfoldable pub judged_at : List ℕ → ℕ → Judgement
judged_at claim reached = cond (eqb reached (length claim)) Accepted (Unmatched reached)

-- from a position on, the claim is matched up to another one by what an event adds, and that is its judgement
pub record PassesCreation (e claim : List ℕ) (at reached : ℕ) : Type 0 where
  pub same : matched at (records (drop at claim)) (creation e) ≡ judged_at claim reached
