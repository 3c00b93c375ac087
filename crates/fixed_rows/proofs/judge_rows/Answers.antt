-- The loop stops at the first bad row, and else adds up the lengths of the records.
use Rattle.std.specs.Prelude.{Some, None}
use Rattle.std.proofs.Common.{rules, ◌≡◌, ◌+◌, ◌<◌, ◌∙◌, arith}
use Rattle.std.proofs.lemmas.Option.{MatchOption-at_none, MatchOption-at_some}
use Rattle.std.proofs.lemmas.Result.{err_from_is_err_and}
use Rattle.row_fields.specs.Rows.{named_length}
use Rattle.fixed_rows.proofs.Laws.Loops.{judging_start, judging_bad, judging_turn, judging_clean, judging_size}
use Rattle.fixed_rows.proofs.judge_rows.Goals as goal

pub loop-i-init : goal.loop-i-init
loop-i-init c = (search rules, search rules, search rules, judging_start _ _ _ _ (cc) (cc))

pub loop-i-preserved : goal.loop-i-preserved
loop-i-preserved c =
    let steps = c.in-Some.ensures.steps in
    let s = c.loop-i.invariant in
    let some : c.length_of_named.result ≡ Some c.in_ok-length.field-0 = grind arith in
    let told = MatchOption-at_some _ (λ n. (0 < n) × (n ≡ named_length c.args.width c.in-Some.row.now)) _ some c.length_of_named.ensures.some in
    (search rules, search rules, search rules, rw steps.2 (judging_turn s.3 _ _ steps.0.1.0 (steps.0.1.1 ∙ s.2) told.0 told.1))

pub overflow_add-length : goal.overflow_add-length
overflow_add-length c = record { fits = omega (arith, (loop-i-preserved c).3.few) }

pub returns-in_err-length-clause-bad : goal.returns-in_err-length-clause-bad
returns-in_err-length-clause-bad c =
    let steps = c.in-Some.ensures.steps in
    let s = c.loop-i.invariant in
    let none : c.length_of_named.result ≡ None = grind arith in
    let here = judging_bad s.3 _ _ steps.0.1.0 (steps.0.1.1 ∙ s.2) (MatchOption-at_none _ (λ _. Unit {0}) none c.length_of_named.ensures.none) in
    let p = err_from_is_err_and c.from_residual.result c.from_residual.ensures.1 in
    let told : c.in_err-length.field-0.0 ≡ c.in-Some.i + 1 = grind arith in
    rw (p.1, p.2, told, steps.1) (omega arith, here)

pub returns-clause-good : goal.returns-clause-good
returns-clause-good c =
    let s = c.loop-i.invariant in
    let done = rw s.2 at c.in-None.ensures.steps.0.1.0 in
    (judging_clean s.3 done, judging_size s.3 done)
