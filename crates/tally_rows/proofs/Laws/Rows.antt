-- Rows of counts: of some records, and compared.
use Rattle.std.specs.Prelude.{ℕ, ◌+◌, ◌*◌, ◌<◌, Bool, true, false, ◌&&◌, ◌≡◌, refl, set}
use Rattle.std.proofs.Math.Bool.{and-eq-true_iff}
use Rattle.std.proofs.lemmas.Bool.{false≢true, eqb-false}
use mathlib.Core.List.{List, [], ◌∷◌}
use Rattle.std.proofs.Math.Path.{sym, ap}
use Rattle.std.proofs.lemmas.Grind.{common_steps}
use Rattle.std.proofs.lemmas.List.{get_or-drop}
use Rattle.std.proofs.lemmas.List.Edits.{fill_by_more}
use Rattle.std.specs.Cmp.Lexicographic.{pointwise}
use Rattle.std.proofs.Common.{ap₂, ◌∙◌, arith, take, drop, get_or-take, ext_get_or, length-set, ◌≤◌, eqb-true, eq-eqb, ne_eqb}
use Rattle.std.proofs.Math.Dec.{eqb}
use Rattle.std.proofs.Math.ListN.{length, get_or}
use Rattle.model.specs.Mappings.{mapping}
use Rattle.model.specs.Tables.{count}
use Rattle.laws.specs.Lists.{Every}
use Rattle.laws.specs.Mappings.{Valid, valid_starts, starts_parts}
use Rattle.laws.specs.Tables.{only_agree, count_nil}
use Rattle.tallies.specs.Tallies.{tabulate, row_of, cell_of, cell_counts}
use Rattle.tallies.proofs.Laws.Lists.{length_tabulate, get_d_tabulate, tabulate_agree}
use Rattle.tallies.proofs.Laws.Tallied.{span_below}
use Rattle.tally_rows.specs.declared.KindCounts.{KindCounts}
use Rattle.tally_rows.specs.Rows.{of_row, kind_counts, row_from, rows_of, same, same_kinds}
use Rattle.tally_rows.proofs.Laws.Compared.{same_refl, same_true}

-- the cell of a record is that of a row and a span exactly if these are its own
cell_eqb : (a s b t : ℕ) → s < 5 → t < 5 → eqb (5 * a + s) (5 * b + t) ≡ (eqb a b && eqb s t)
cell_eqb a s b t small small' = go (eqb a b) (eqb s t) refl refl
  where
    go : (p q : Bool) → eqb a b ≡ p → eqb s t ≡ q → eqb (5 * a + s) (5 * b + t) ≡ (p && q)
    go true true e f = eq-eqb (5 * a + s) (5 * b + t) (omega (arith, eqb-true a b e, eqb-true s t f))
    go true false e f = ne_eqb (5 * a + s) (5 * b + t) (λ is. eqb-false s t f (omega (arith, is, eqb-true a b e)))
    go false q e f = ne_eqb (5 * a + s) (5 * b + t) (λ is. eqb-false a b e (omega (arith, is, small, small')))

own_cell : (row span : ℕ) → span < 5 → (r : List ℕ) → Valid r → eqb (cell_of (mapping r)) (5 * row + span) ≡ of_row row span r
unfolding cell_of of_row
own_cell row span small r v =
    cell_eqb (row_of (mapping r).kind) (mapping r).span row span (span_below (mapping r) (starts_parts r (valid_starts r v)).fields) small

module _ {rs : List (List ℕ)} (valid : Every Valid rs) where
  count_cell : (row span : ℕ) → span < 5 → count (λ r. eqb (cell_of (mapping r)) (5 * row + span)) rs ≡ count (of_row row span) rs
  unfolding count
  count_cell row span small = ap length (only_agree (λ r. eqb (cell_of (mapping r)) (5 * row + span)) (of_row row span) valid (own_cell row span small))

  -- the counts by kind and span are the thirty, row by row
  pub kind_counts_rows : kind_counts rs ≡ rows_of (cell_counts rs)
  unfolding kind_counts rows_of row_from cell_counts
  kind_counts_rows =
      tabulate_agree 6 _ _ (λ row low. ap (λ (counts : List ℕ). record { spans = counts })
      (tabulate_agree 5 (λ span. count (of_row row span) rs) (λ span. get_or (cell_counts rs) (5 * row + span) 0) (λ span small.
      sym (get_d_tabulate 30 (λ cell. count (λ r. eqb (cell_of (mapping r)) cell) rs) (5 * row + span) 0 (omega (arith, low, small)) ∙ count_cell row span small))))

-- no records
pub kind_counts_nil : kind_counts [] ≡ tabulate 6 (λ row. record { spans = tabulate 5 (λ span. 0) })
unfolding kind_counts
kind_counts_nil =
    tabulate_agree 6 _ _ (λ row low. ap (λ (counts : List ℕ). record { spans = counts }) (tabulate_agree 5 _ _ (λ span small. count_nil (of_row row span))))

-- ---- compared

same_made : (xs ys : List ℕ) → pointwise eqb xs ys ≡ same xs ys
unfolding same
same_made [] [] = refl
same_made [] (y ∷ ys) = refl
same_made (x ∷ xs) [] = refl
same_made (x ∷ xs) (y ∷ ys) = ap (λ (b : Bool). eqb x y && b) (same_made xs ys)

-- as the program has it
pub same_kinds_made : (xs ys : List KindCounts) → pointwise (λ (x y : KindCounts). pointwise eqb x.spans y.spans) xs ys ≡ same_kinds xs ys
unfolding same_kinds
same_kinds_made [] [] = refl
same_kinds_made [] (y ∷ ys) = refl
same_kinds_made (x ∷ xs) [] = refl
same_kinds_made (x ∷ xs) (y ∷ ys) = ap₂ ◌&&◌ (same_made x.spans y.spans) (same_kinds_made xs ys)

pub same_kinds_true : (xs ys : List KindCounts) → same_kinds xs ys ≡ true → xs ≡ ys
unfolding same_kinds
same_kinds_true [] [] h = refl
same_kinds_true [] (y ∷ ys) h = absurd (false≢true h)
same_kinds_true (x ∷ xs) [] h = absurd (false≢true h)
same_kinds_true (x ∷ xs) (y ∷ ys) h =
    let both = (and-eq-true_iff (same x.spans y.spans) (same_kinds xs ys)).0 h in
    ap₂ (λ (z : KindCounts) (zs : List KindCounts). z ∷ zs) (ap (λ (counts : List ℕ). record { spans = counts }) (same_true x.spans y.spans both.0)) (same_kinds_true xs ys both.1)

pub same_kinds_refl : (xs : List KindCounts) → same_kinds xs xs ≡ true
unfolding same_kinds
same_kinds_refl [] = refl
same_kinds_refl (x ∷ xs) = rw (same_refl x.spans, same_kinds_refl xs)

-- ---- stored

pub row_made : (cells spans : List ℕ) (at : ℕ) → at + 5 ≤ length cells → spans ≡ take 5 (drop at cells) → ◌≡◌ {A = KindCounts} (record { spans = spans }) (row_from cells at)
unfolding row_from
row_made cells spans at within is =
    ap (λ (counts : List ℕ). record { spans = counts })
    (is
    ∙ ext_get_or 0 (take 5 (drop at cells)) (tabulate 5 (λ span. get_or cells (at + span) 0)) (grind (arith, common_steps, length_tabulate))
    (λ i h.
    let small : i < 5 = grind (arith, common_steps) in
    get_or-take 5 (drop at cells) i 0 small ∙ get_or-drop at cells i 0 ∙ sym (get_d_tabulate 5 (λ span. get_or cells (at + span) 0) i 0 small)))

-- so many rows are stored
pub record Stored (cells : List ℕ) (rows : List KindCounts) (at : ℕ) : Type 0 where
  pub long : length rows ≡ 6
  pub done : (i : ℕ) (d : KindCounts) → i < at → get_or rows i d ≡ row_from cells (5 * i)

pub stored_next : (cells : List ℕ) (rows : List KindCounts) (at : ℕ) (row : KindCounts) → Stored cells rows at → at < 6 → row ≡ row_from cells (5 * at)
    → Stored cells (set rows at row) (at + 1)
stored_next cells rows at row stored within is =
    record {
      long = length-set rows at row ∙ stored.long;
      done = λ i d h. rw (← is) at (fill_by_more (λ (i : ℕ). row_from cells (5 * i)) rows at d (omega (arith, stored.long, within)) (λ k below. stored.done k d below) i h);
    }

pub stored_end : (cells : List ℕ) (rows : List KindCounts) → Stored cells rows 6 → rows ≡ rows_of cells
unfolding rows_of
stored_end cells rows stored =
    ext_get_or none rows (tabulate 6 (λ row. row_from cells (5 * row))) (stored.long ∙ sym (length_tabulate 6 _))
    (λ i h.
    let small : i < 6 = omega (arith, h, stored.long) in
    stored.done i none small ∙ sym (get_d_tabulate 6 (λ row. row_from cells (5 * row)) i none small))
  where
    none : KindCounts
    none = record { spans = [] }
