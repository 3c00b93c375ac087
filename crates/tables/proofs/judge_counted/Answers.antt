-- The records are struck off a copy of the tally's 4,096 counts; off counts of 0 where they are not so many.
use Rattle.tallies.proofs.Laws.Struck.{no_pcid_counts}
use Rattle.std.proofs.Common.{false, Ok, Err}
use Rattle.std.proofs.lemmas.Result.{err_from_is_err_and}
use Rattle.tables.proofs.Laws.Counts.{counted_table_short, told_counted}
use Rattle.tables.proofs.judge_counted.Goals as goal

pub judge_beside-requires-2 : goal.judge_beside-requires-2
judge_beside-requires-2 c = no_pcid_counts

pub returns-clause-counted : goal.returns-clause-counted
returns-clause-counted c = counted_table_short _ _ _ _ c.if-pcids-eq-PCID_COUNTS.false c.in_ok-counted.ensures.counted

pub returns-then-pcids-eq-PCID_COUNTS-clause-told : goal.returns-then-pcids-eq-PCID_COUNTS-clause-told
returns-then-pcids-eq-PCID_COUNTS-clause-told c =
    told_counted _ _ _ _ _ c.judge_beside.ensures.answer_value (rw c.copy_from_slice.ensures.after at c.judge_beside.ensures.counted)

pub returns-in_err-counted-clause-told : goal.returns-in_err-counted-clause-told
returns-in_err-counted-clause-told c =
    let p = err_from_is_err_and c.from_residual.result c.from_residual.ensures.1 in
    rw (p.1, p.2) (told_counted _ _ _ _ (Err c.in_err-counted.field-0.0) c.in_err-counted.ensures.answer_value tt)

pub returns-clause-told : goal.returns-clause-told
returns-clause-told c =
    told_counted _ _ _ _ (Ok (record c.in_ok-counted.counted { matching = false })) c.in_ok-counted.ensures.answer_value (returns-clause-counted c)
