-- A context out of range is refused first; else the table decides.
use Rattle.std.proofs.Common.{sym, ◌∙◌}
use Rattle.laws.specs.Answers.{table_grounds_in_range, table_grounds_out_of_range}
use Rattle.tables.proofs.judge_in.Goals as goal

pub returns-then-not-is_in_range-clause-answer_value :
    goal.returns-then-not-is_in_range-clause-answer_value
returns-then-not-is_in_range-clause-answer_value c = sym (table_grounds_out_of_range _ _ (sym c.if-not-is_in_range.ensures))

pub returns-clause-answer_value : goal.returns-clause-answer_value
returns-clause-answer_value c =
    c.judge.ensures.answer_value ∙ sym (table_grounds_in_range _ _ (sym c.if-not-is_in_range.ensures))
