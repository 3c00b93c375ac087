-- Counts of some records, less those of the ones that a removal takes out, are the counts of what it leaves.
use Rattle.std.specs.Prelude.{ℕ, ◌+◌, ◌-◌, Bool, true, false, ◌≡◌}
use mathlib.Core.List.{List, [], ◌∷◌}
use Rattle.std.proofs.Math.Path.{ap}
use Rattle.std.proofs.Common.{◌∙◌, arith}
use Rattle.std.proofs.Math.ListN.{get_or}
use Rattle.model.specs.Tables.{count}
use Rattle.tallies.specs.Tallies.{tabulate, of_pcid, pcid_counts}
use Rattle.tallies.proofs.Laws.Lists.{tabulate_agree, get_d_tabulate}
use Rattle.tally_rows.specs.declared.KindCounts.{KindCounts}
use Rattle.tally_rows.specs.Rows.{of_row, kind_counts}
use Rattle.laws.specs.Tables.{count_nil, count_cons}
use Rattle.runs.specs.Runs.{without}
use Rattle.counted_runs.specs.Runs.{taken_out, kinds_less, pcids_less}

pub count_without : (p : List ℕ → Bool) (gone : List Bool) (rs : List (List ℕ)) → count p rs ≡ count p (without gone rs) + count p (taken_out gone rs)
unfolding without taken_out
count_without p [] rs = omega (arith, count_nil p)
count_without p (g ∷ gone) [] = omega (arith, count_nil p)
count_without p (true ∷ gone) (r ∷ rs) = omega (arith, count_without p gone rs, count_cons p r rs, count_cons p r (taken_out gone rs))
count_without p (false ∷ gone) (r ∷ rs) = omega (arith, count_without p gone rs, count_cons p r rs, count_cons p r (without gone rs))

-- no records
pub pcid_counts_nil : pcid_counts [] ≡ tabulate 4096 (λ pcid. 0)
unfolding pcid_counts
pcid_counts_nil = tabulate_agree 4096 _ _ (λ pcid low. count_nil (of_pcid pcid))

module _ (gone : List Bool) (rs : List (List ℕ)) where
  one_less : (p : List ℕ → Bool) {n : ℕ} → n ≡ count p rs → n - count p (taken_out gone rs) ≡ count p (without gone rs)
  one_less p is = omega (arith, is, count_without p gone rs)

  pub kinds_less_taken : kinds_less (kind_counts rs) (taken_out gone rs) ≡ kind_counts (without gone rs)
  unfolding kinds_less kind_counts
  kinds_less_taken =
      tabulate_agree 6 _ _ (λ row low. ap (λ (counts : List ℕ). record { spans = counts })
      (tabulate_agree 5 (λ span. get_or (get_or (kind_counts rs) row (record { spans = [] })).spans span 0 - count (of_row row span) (taken_out gone rs)) (λ span. count (of_row row span) (without gone rs)) (λ span small.
      one_less (of_row row span)
      (ap (λ (counts : KindCounts). get_or counts.spans span 0) (get_d_tabulate 6 (λ row. record { spans = tabulate 5 (λ span. count (of_row row span) rs) }) row (record { spans = [] }) low)
      ∙ get_d_tabulate 5 (λ span. count (of_row row span) rs) span 0 small))))

  pub pcids_less_taken : pcids_less (pcid_counts rs) (taken_out gone rs) ≡ pcid_counts (without gone rs)
  unfolding pcids_less pcid_counts
  pcids_less_taken =
      tabulate_agree 4096 _ _ (λ pcid low. one_less (of_pcid pcid) (get_d_tabulate 4096 (λ pcid. count (of_pcid pcid) rs) pcid 0 low))
