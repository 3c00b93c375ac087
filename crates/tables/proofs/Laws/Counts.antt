-- A table judged beside a tally, and a fresh count of it: by the answer, from the counts that the walk leaves.
use Rattle.std.specs.Prelude.{ℕ, ◌<◌, Bool, ◌&&◌, List, [], ◌∷◌, ◌≡◌, Result, Ok, Err, IfOk, length, replicate}
use Rattle.std.proofs.Math.Bool.{false, not, and-false}
use Rattle.std.proofs.Math.Path.{refl, sym, ap}
use Rattle.std.proofs.Common.{◌∙◌, arith}
use borrow.Author.Tests.{ne_eqb, eq-eqb}
use Rattle.std.proofs.Math.Dec.{eqb}
use Rattle.model.specs.declared.Refusal.{Refusal}
use Rattle.model.specs.Refusals.{refusal_number, answer_of}
use Rattle.model.specs.Tables.{records}
use Rattle.model.specs.Answers.{first, stored_grounds}
use Rattle.laws.specs.Tables.{length_joined_records, records_valid, length_valid}
use Rattle.laws.specs.Refusals.{refusal_number_some}
use Rattle.laws.specs.Answers.{first_append_some, first_append_none, stored_valid}
use Rattle.tallies.specs.Tallies.{cell_counts, pcid_counts, struck_off, PcidCounts, Struck}
use Rattle.tallies.proofs.Laws.Lists.{length_tabulate}
use Rattle.tallies.proofs.Laws.Struck.{struck_tallied}
use Rattle.tally_rows.specs.declared.KindCounts.{KindCounts}
use Rattle.tally_rows.specs.Rows.{kind_counts, matching, same, same_kinds, none_left, rows_of}
use Rattle.tally_rows.proofs.Laws.Compared.{same_lengths}
use Rattle.tally_rows.proofs.Laws.Rows.{kind_counts_rows}
use Rattle.tally_rows.proofs.Laws.Left.{none_left_same}
use Rattle.tables.specs.declared.CountedTable.{CountedTable}
use Rattle.tables.specs.Counts.{TableCounts, counted_table, counted_judged, told_judged, uncounted, count_answer, table_counts, table_pcid_counts}

-- judged beside other counts by PCID, where the tally's are not 4,096
pub counted_table_short : (t : List ℕ) (kinds : List KindCounts) (pcids other : List ℕ) → (length pcids ≡ 4096 → ⊥) → {j : CountedTable} → j ≡ counted_table kinds other t
    → record j { matching = false } ≡ counted_table kinds pcids t
unfolding counted_table matching pcid_counts
counted_table_short t kinds pcids other short is =
    let off : (same_kinds kinds (kind_counts (records t)) && same pcids (pcid_counts (records t))) ≡ false =
    rw (same_lengths pcids (pcid_counts (records t)) (λ long. short (long ∙ length_tabulate 4096 _)), and-false)
    in
    λ i. record { records = (is i).records; matching = sym off i; cells = (is i).cells }

module _ (w : ℕ) (t : List ℕ) where
  -- an accepted table has few enough records for a count of 16 bits
  records_few : first (stored_grounds w t) ≡ 0 → length (records t) < 65536
  records_few zero = omega (arith, (stored_valid w t zero).0, length_valid (records_valid t), length_joined_records t)

  pub counted_rows : {cells : List ℕ} → cells ≡ cell_counts (records t) → rows_of cells ≡ kind_counts (records t)
  counted_rows counted = ap rows_of counted ∙ sym (kind_counts_rows (records_valid t))

  -- a table judged beside a tally
  module _ (kinds : List KindCounts) (pcids : List ℕ) where
    -- nothing is left of the tally's counts exactly if they are those of the table
    struck_matching : first (stored_grounds w t) ≡ 0 → PcidCounts pcids → {cells left : List ℕ} → Struck pcids (records t) cells left
        → (same_kinds kinds (rows_of cells) && none_left left) ≡ matching kinds pcids (records t)
    unfolding matching
    struck_matching zero counts struck = rw (counted_rows struck.cells, struck.left, none_left_same (records t) counts (records_few zero))

    pub counted_table_made : first (stored_grounds w t) ≡ 0 → {n : ℕ} → n ≡ length (records t) → PcidCounts pcids
        → {cells left : List ℕ} → Struck pcids (records t) cells left → {m : Bool} → m ≡ (same_kinds kinds (rows_of cells) && none_left left)
        → ◌≡◌ {A = CountedTable} (record { records = n; matching = m; cells = cells }) (counted_table kinds pcids t)
    unfolding counted_table
    counted_table_made zero number counts struck told =
        λ i. record { records = number i; matching = (told ∙ struck_matching zero counts struck) i; cells = struck.cells i }

  -- a fresh count: the answer
  module _ (n : ℕ) where
    pub count_refused : (e : Refusal) → refusal_number e ≡ first (stored_grounds w t) → refusal_number e ≡ count_answer w t n
    unfolding count_answer
    count_refused e is = is ∙ sym (first_append_some (stored_grounds w t) _ (λ z. refusal_number_some e (is ∙ z)))

    pub count_short : first (stored_grounds w t) ≡ 0 → (n ≡ 4096 → ⊥) → ◌≡◌ {A = ℕ} 13 (count_answer w t n)
    unfolding count_answer first
    count_short zero other =
        sym (first_append_none (stored_grounds w t) ((13, not (eqb n 4096)) ∷ []) refl zero ∙ rw (ne_eqb n 4096 other))

    pub count_accepted : first (stored_grounds w t) ≡ 0 → n ≡ 4096 → ◌≡◌ {A = ℕ} 0 (count_answer w t n)
    unfolding count_answer first
    count_accepted zero long =
        sym (first_append_none (stored_grounds w t) ((13, not (eqb n 4096)) ∷ []) refl zero ∙ rw (eq-eqb n 4096 long))

    -- the counts by kind and span
    pub table_counts_refused : (e : Refusal) → refusal_number e ≡ count_answer w t n → uncounted (refusal_number e) ≡ table_counts w t n
    unfolding table_counts
    table_counts_refused e is = rw (← is, ne_eqb _ 0 (refusal_number_some e))

    pub table_counts_accepted : ◌≡◌ {A = ℕ} 0 (count_answer w t n) → {kinds : List KindCounts} → kinds ≡ kind_counts (records t)
        → ◌≡◌ {A = TableCounts} (record { answer = 0; kinds = kinds }) (table_counts w t n)
    unfolding table_counts
    table_counts_accepted is counted = rw (← is, counted)

  -- the counts by PCID
  module _ (pcids : List ℕ) where
    pub pcids_kept : (e : Refusal) → refusal_number e ≡ count_answer w t (length pcids) → pcids ≡ table_pcid_counts w t pcids
    unfolding table_pcid_counts
    pcids_kept e is = rw (← is, ne_eqb _ 0 (refusal_number_some e))

    pub pcids_counted : first (stored_grounds w t) ≡ 0 → length pcids ≡ 4096 → {cells left : List ℕ} → Struck (replicate 4096 0) (records t) cells left → struck_off left ≡ table_pcid_counts w t pcids
    unfolding table_pcid_counts
    pcids_counted zero long struck = rw (← (count_accepted _ zero long)) (struck_tallied (records_few zero) struck).pcids

-- what a result tells of a table judged beside a tally, from its answer and from what it tells of an accepted one
pub told_counted : (w : ℕ) (t : List ℕ) (kinds : List KindCounts) (pcids : List ℕ) (r : Result CountedTable Refusal) → answer_of r ≡ first (stored_grounds w t)
    → IfOk r (λ j. j ≡ counted_table kinds pcids t) → told_judged r ≡ counted_judged w t kinds pcids
unfolding counted_judged counted_table
told_counted w t kinds pcids (Ok j) is told =
    rw (← is) (λ i. record { answer = 0; records = (told i).records; matching = (told i).matching; cells = (told i).cells })
told_counted w t kinds pcids (Err e) is told = rw (← is, ne_eqb _ 0 (refusal_number_some e))
