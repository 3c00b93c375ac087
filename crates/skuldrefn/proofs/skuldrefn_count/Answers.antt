-- A table that is counted has its counts, and a refusal its number and none.
use Rattle.std.proofs.Common.{◌∙◌, ne_eqb}
use Rattle.tables.specs.Counts.{table_counts, uncounted}
use Rattle.laws.specs.Refusals.{refusal_number_some}
use Rattle.skuldrefn.specs.Flat.{flat_counts}
use Rattle.skuldrefn.proofs.skuldrefn_count.Goals as goal

pub returns-in-Ok-clause-value : goal.returns-in-Ok-clause-value
unfolding flat_counts table_counts
returns-in-Ok-clause-value c = rw (← c.in-Ok.ensures.answer_value, c.in-Ok.ensures.counted)

pub returns-in-Err-clause-value : goal.returns-in-Err-clause-value
unfolding flat_counts table_counts uncounted
returns-in-Err-clause-value c =
    let is = c.in-Err.ensures.answer_value in
    rw (c.number.ensures, c.no_rows.ensures, is, ne_eqb _ 0 (λ zero. refusal_number_some c.in-Err.why (is ∙ zero)))
