-- The walk strikes the records of the table off the tally's counts, and what is left decides.
use Rattle.std.proofs.Common.{sym, refl}
use Rattle.tallies.proofs.Laws.Struck.{struck_nil}
use Rattle.tables.proofs.Laws.Counts.{counted_table_made}
use Rattle.tables.proofs.judge_beside.Goals as goal

pub judge_with-requires : goal.judge_with-requires
judge_with-requires c = λ on. struck_nil c.requires

pub returns-clause-counted : goal.returns-clause-counted
returns-clause-counted c =
    let judged = c.in_ok-records.ensures in
    counted_table_made _ _ _ _ (sym judged.answer_value) judged.number c.requires (judged.struck refl refl) c.is_matching.ensures
