-- A refused table is none.
use Rattle.std.proofs.Common.{sym, ap, ◌∙◌}
use Rattle.model.specs.Refusals.{answer_of}
use Rattle.tables.proofs.Laws.Judged.{judged_refused}
use Rattle.tables.proofs.is_one_record.Goals as goal

pub returns-in_default-2 : goal.returns-in_default-2
returns-in_default-2 c =
    sym (judged_refused _ _ c.in_default.field-0 (sym c.judge.ensures.answer_value ∙ ap answer_of c.in_default.is))
