-- Each refusal shows the number of its stage. A tally that matches has the counts of the table, and the answer is the plain
-- step's.
use Rattle.std.proofs.Common.{Bool, true, ◌<◌, ◌≡◌, ap, sym, refl, ◌∙◌, arith}
use Rattle.std.proofs.lemmas.Result.{err_from_is_err_and}
use borrow.Author.Tests.{not-true, not-false}
use Rattle.model.specs.Tables.{records}
use Rattle.model.specs.Answers.{first, table_grounds, rule_with}
use Rattle.model.specs.Refusals.{refusal_number}
use Rattle.laws.specs.Answers.{table_grounds_out_of_range, table_grounds_in_range}
use Rattle.laws.specs.Refusals.{refusal_number_some, refusal_rule_below_8}
use Rattle.laws.specs.Rules.{rule_below_8, table_answer_below_8}
use Rattle.tally_rows.specs.Rows.{matching}
use Rattle.tables.specs.declared.CountedTable.{CountedTable}
use Rattle.tables.specs.Counts.{counted_table}
use Rattle.counted_steps.proofs.Laws.Steps.{counted_of_table, counted_of_other, counted_answer_matching, matching_counts, shown_refused}
use Rattle.counted_steps.proofs.judge.Goals as goal
use Rattle.counted_steps.proofs.judge.Goals.{In_ok-judged, Else-not-judged}

pub returns-then-not-is_in_range : goal.returns-then-not-is_in_range
returns-then-not-is_in_range c =
    let a = c.args in
    let one = table_grounds_out_of_range a.c a.table.now (sym c.if-not-is_in_range.ensures) in
    shown_refused _ _ _ _ _ _ _ (counted_of_table _ _ _ _ _ _ {n = 1} (sym one) (λ z. omega arith)) (rule_below_8 _ _ 1 (omega arith))

pub returns-in_err-judged : goal.returns-in_err-judged
returns-in_err-judged c =
    let a = c.args in
    let p = err_from_is_err_and c.from_residual.result c.from_residual.ensures.1 in
    let is = c.in_err-judged.ensures.answer_value ∙ sym (table_grounds_in_range _ _ (sym c.if-not-is_in_range.ensures)) in
    let low : refusal_number c.in_err-judged.field-0.0 < 8 = rw is (table_answer_below_8 a.c a.table.now) in
    rw (p.1, p.2)
    (shown_refused _ _ _ _ _ _ _ (counted_of_table _ _ _ _ _ _ is (refusal_number_some _)) (refusal_rule_below_8 _ low ∙ rule_below_8 a.c a.raw.now _ low))

-- neither the context nor the table is refused
zero : (c : In_ok-judged) → first (table_grounds c.args.c c.args.table.now) ≡ 0
zero c = table_grounds_in_range _ _ (sym c.if-not-is_in_range.ensures) ∙ sym c.in_ok-judged.ensures.answer_value

pub returns-then-not-judged : goal.returns-then-not-judged
unfolding rule_with counted_table
returns-then-not-judged c =
    let other = sym (ap (λ (j : CountedTable). j.matching) c.in_ok-judged.ensures.counted) ∙ not-true _ c.if-not-judged.true in
    shown_refused _ _ _ _ _ _ _ (counted_of_other _ _ _ _ _ _ (zero (goal.at.returns-then-not-judged c).In_ok-judged) c.requires.raw_value other) refl

-- the tally has the counts of the table
match : (c : Else-not-judged) → matching c.args.kinds c.args.pcids.now (records c.args.table.now) ≡ true
unfolding counted_table
match c = sym (ap (λ (j : CountedTable). j.matching) c.in_ok-judged.ensures.counted) ∙ not-false _ c.if-not-judged.false

pub check_event-requires-clause-table_value : goal.check_event-requires-clause-table_value
check_event-requires-clause-table_value c = zero (goal.at.check_event-requires-clause-table_value c).In_ok-judged

pub returns-in_err-check_event : goal.returns-in_err-check_event
returns-in_err-check_event c =
    let p = err_from_is_err_and c.from_residual-in_err-check_event.result c.from_residual-in_err-check_event.ensures.1 in
    let check = c.in_err-check_event.ensures in
    rw (p.1, p.2)
    (shown_refused _ _ _ _ _ _ _ (counted_answer_matching _ _ _ _ _ _ (match (goal.at.returns-in_err-check_event c).Else-not-judged) ∙ sym check.answer_value) check.rule_value)

pub returns : goal.returns
unfolding counted_table
returns c =
    let judged = c.in_ok-judged.ensures.counted in
    let same = match (goal.at.returns c).Else-not-judged in
    record {
      answer = c.in_ok-check_event.ensures.answer_value ∙ sym (counted_answer_matching _ _ _ _ _ _ same);
      rule = c.in_ok-check_event.ensures.rule_value;
      passed = record {
        grounds = zero (goal.at.returns c).In_ok-judged;
        match = same;
        number = ap (λ (j : CountedTable). j.records) judged;
        tallied = record { cells = ap (λ (j : CountedTable). j.cells) judged; pcids = (matching_counts _ _ _ same).1 };
      };
    }
