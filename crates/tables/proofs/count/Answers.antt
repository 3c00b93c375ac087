-- The walk strikes the records of the table off counts of 0, and what was struck off is written.
use Rattle.std.proofs.Common.{sym, refl, ◌∙◌}
use Rattle.std.proofs.lemmas.Result.{err_from_is_err_and}
use Rattle.model.specs.declared.Refusal.TheVariants.{WrongTally}
use Rattle.tallies.proofs.Laws.Struck.{struck_nil, no_pcid_counts}
use Rattle.tables.proofs.Laws.Counts.{count_refused, count_short, count_accepted, counted_rows, pcids_kept, pcids_counted}
use Rattle.tables.proofs.count.Goals as goal

pub judge_with-requires : goal.judge_with-requires
judge_with-requires c = λ on. struck_nil no_pcid_counts

pub returns-in_err-judge_with-clause-answer_value :
    goal.returns-in_err-judge_with-clause-answer_value
returns-in_err-judge_with-clause-answer_value c =
    let p = err_from_is_err_and c.from_residual.result c.from_residual.ensures.1 in
    rw (p.1, p.2) (count_refused _ _ _ c.in_err-judge_with.field-0.0 c.in_err-judge_with.ensures.answer_value)

pub returns-in_err-judge_with-clause-pcids_after :
    goal.returns-in_err-judge_with-clause-pcids_after
returns-in_err-judge_with-clause-pcids_after c =
    pcids_kept _ _ _ c.in_err-judge_with.field-0.0 (count_refused _ _ _ _ c.in_err-judge_with.ensures.answer_value)

pub returns-then-pcids-ne-PCID_COUNTS-clause-answer_value :
    goal.returns-then-pcids-ne-PCID_COUNTS-clause-answer_value
returns-then-pcids-ne-PCID_COUNTS-clause-answer_value c =
    count_short _ _ _ (sym c.in_ok-judge_with.ensures.answer_value) c.if-pcids-ne-PCID_COUNTS.true

pub returns-then-pcids-ne-PCID_COUNTS-clause-pcids_after :
    goal.returns-then-pcids-ne-PCID_COUNTS-clause-pcids_after
returns-then-pcids-ne-PCID_COUNTS-clause-pcids_after c =
    pcids_kept _ _ _ WrongTally (returns-then-pcids-ne-PCID_COUNTS-clause-answer_value c)

pub returns-clause-answer_value : goal.returns-clause-answer_value
returns-clause-answer_value c = count_accepted _ _ _ (sym c.in_ok-judge_with.ensures.answer_value) c.if-pcids-ne-PCID_COUNTS.false

pub returns-clause-counted : goal.returns-clause-counted
returns-clause-counted c =
    c.update.ensures ∙ counted_rows c.args.width _ (c.in_ok-judge_with.ensures.struck refl refl).cells

pub returns-clause-pcids_after : goal.returns-clause-pcids_after
returns-clause-pcids_after c =
    c.write_struck.ensures
    ∙ pcids_counted _ _ _ (sym c.in_ok-judge_with.ensures.answer_value) c.if-pcids-ne-PCID_COUNTS.false (c.in_ok-judge_with.ensures.struck refl refl)
