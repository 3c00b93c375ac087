-- Where the walk stopped, and where it passed over all.
use Rattle.std.proofs.Common.{sym}
use Rattle.tables.proofs.Laws.Judged.{judged_stopped, judged_accepted}
use Rattle.tables.proofs.judge_with.Goals as goal

pub returns-then-passed-table-clause-answer_value :
    goal.returns-then-passed-table-clause-answer_value
returns-then-passed-table-clause-answer_value c =
    sym (judged_stopped _ _ _ _ c.walk-passed.ensures.tells c.if-table-gt-TABLE_LIMIT.false c.if-passed-table.true)

pub returns-clause-answer_value : goal.returns-clause-answer_value
returns-clause-answer_value c =
    sym (judged_accepted _ _ _ _ c.walk-passed.ensures.tells c.if-table-gt-TABLE_LIMIT.false c.if-passed-table.false)
