-- The VPID, then the EPTP by its rule.
use Rattle.std.proofs.Common.{◌∙◌, sym, ne_eqb, eq-eqb}
use Rattle.model.specs.Answers.{bad_entry, own_rule}
use Rattle.grounds.proofs.Laws.{good_eptp_broken, good_eptp_unbroken}
use Rattle.grounds.proofs.check_entry.Goals as goal

pub returns-then-n-clause-answer : goal.returns-then-n-clause-answer
unfolding bad_entry
returns-then-n-clause-answer c = rw c.if-n.true

pub returns-then-n-clause-rule : goal.returns-then-n-clause-rule
unfolding own_rule
returns-then-n-clause-rule c = rw c.if-n.true

pub returns-then-n-ne1-clause-answer : goal.returns-then-n-ne1-clause-answer
unfolding bad_entry
returns-then-n-ne1-clause-answer c = rw (c.if-n.false, ne_eqb _ 1 c.if-n-ne1.true)

pub returns-then-n-ne1-clause-rule : goal.returns-then-n-ne1-clause-rule
unfolding own_rule
returns-then-n-ne1-clause-rule c = rw (c.if-n.false, ne_eqb _ 1 c.if-n-ne1.true)

pub returns-in-Some-clause-answer : goal.returns-in-Some-clause-answer
unfolding bad_entry
returns-in-Some-clause-answer c =
    rw (c.if-n.false, eq-eqb _ 1 c.if-n-ne1.false, good_eptp_broken _ _ c.in-Some.rule (rw c.in-Some.is at c.eptp_rule.ensures))

pub returns-in-Some-clause-rule : goal.returns-in-Some-clause-rule
unfolding own_rule
returns-in-Some-clause-rule c =
    rw (c.if-n.false, eq-eqb _ 1 c.if-n-ne1.false) (rw c.in-Some.is at c.eptp_rule.ensures)

pub returns-in-None-clause-answer : goal.returns-in-None-clause-answer
unfolding bad_entry
returns-in-None-clause-answer c =
    rw (c.if-n.false, eq-eqb _ 1 c.if-n-ne1.false, good_eptp_unbroken _ _ (rw c.in-None.is at c.eptp_rule.ensures))

pub returns-in-None-clause-rule : goal.returns-in-None-clause-rule
unfolding own_rule
returns-in-None-clause-rule c =
    rw (c.if-n.false, eq-eqb _ 1 c.if-n-ne1.false) (rw c.in-None.is at c.eptp_rule.ensures)
