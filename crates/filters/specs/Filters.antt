-- Document 01, "Every step reads the old table, writes the new one ..": what is written and told of the
-- records of which a test does not hold, such as an event's scope.
use Rattle.std.specs.Prelude.{ℕ, Bool, not, List, ◌≡◌, length}
use Rattle.model.specs.declared.Mapping.{Mapping}
use Rattle.model.specs.Buffers.{put}
use Rattle.model.specs.Mappings.{mapping}
use Rattle.model.specs.Tables.{records, joined, only, count}
use Rattle.filters.specs.declared.Filtered.{Filtered}

-- the records of a table of which the test does not hold
abbrev pub left : (Mapping → Bool) → List ℕ → List (List ℕ)
left test t = only (λ r. not (test (mapping r))) (records t)

-- the same, end to end
unfoldable pub filtered : (Mapping → Bool) → List ℕ → List ℕ
filtered test t = joined (left test t)

-- how many records of a table it holds of
unfoldable pub scoped : (Mapping → Bool) → List ℕ → ℕ
scoped test t = count (λ r. test (mapping r)) (records t)

-- the filtered records stand at the front of the new buffer, with their length and the dropped count
-- told
pub record Filters (test : Mapping → Bool) (t before : List ℕ) (told : Filtered) (after : List ℕ) : Type 0 where
  pub size : told.length ≡ length (filtered test t)
  pub dropped : told.dropped ≡ scoped test t
  pub buffer : after ≡ put 0 (filtered test t) before
