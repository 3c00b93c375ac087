-- Document 02, Ask 7: a tally as users hold it, "a count of records for each of six kinds by four spans" in six rows, and
-- the counts by PCID beside them; stored, and compared with the counts of a table.
use Rattle.std.specs.Prelude.{ℕ, ◌+◌, ◌*◌, Bool, true, false, ◌&&◌, List, [], ◌∷◌, eqb, get_or}
use Rattle.model.specs.Mappings.{mapping}
use Rattle.model.specs.Tables.{count}
use Rattle.tallies.specs.Tallies.{tabulate, row_of, pcid_counts}
use Rattle.tally_rows.specs.declared.KindCounts.{KindCounts}

-- a record is counted in a row under a span
unfoldable pub of_row : ℕ → ℕ → List ℕ → Bool
of_row row span r = eqb (row_of (mapping r).kind) row && eqb (mapping r).span span

unfoldable pub kind_counts : List (List ℕ) → List KindCounts
kind_counts rs = tabulate 6 (λ row. record { spans = tabulate 5 (λ span. count (of_row row span) rs) })

-- two lists of counts are the same
unfoldable pub same : List ℕ → List ℕ → Bool
same [] [] = true
same [] (y ∷ ys) = false
same (x ∷ xs) [] = false
same (x ∷ xs) (y ∷ ys) = eqb x y && same xs ys

unfoldable pub same_kinds : List KindCounts → List KindCounts → Bool
same_kinds [] [] = true
same_kinds [] (y ∷ ys) = false
same_kinds (x ∷ xs) [] = false
same_kinds (x ∷ xs) (y ∷ ys) = same x.spans y.spans && same_kinds xs ys

-- no count is left
unfoldable pub none_left : List ℕ → Bool
none_left [] = true
none_left (x ∷ xs) = eqb x 0 && none_left xs

-- a tally matches some records: every count is theirs, the impossible ones too, and there are 4,096 PCIDs
unfoldable pub matching : List KindCounts → List ℕ → List (List ℕ) → Bool
matching kinds pcids rs = same_kinds kinds (kind_counts rs) && same pcids (pcid_counts rs)

-- the five counts from a place on, as a row; and all rows
unfoldable pub row_from : List ℕ → ℕ → KindCounts
row_from cells at = record { spans = tabulate 5 (λ span. get_or cells (at + span) 0) }

unfoldable pub rows_of : List ℕ → List KindCounts
rows_of cells = tabulate 6 (λ row. row_from cells (5 * row))
