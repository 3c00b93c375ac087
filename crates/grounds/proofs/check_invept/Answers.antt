-- The tests before the EPTP, then its rule.
use Rattle.std.proofs.Common.{◌∙◌, sym, ne_eqb, eq-eqb}
use Rattle.model.specs.Answers.{bad_invept, own_rule}
use Rattle.grounds.proofs.Laws.{good_eptp_broken, good_eptp_unbroken}
use Rattle.grounds.proofs.check_invept.Goals as goal

pub returns-then-not-is_invept_supported-clause-answer : goal.returns-then-not-is_invept_supported-clause-answer
unfolding bad_invept
returns-then-not-is_invept_supported-clause-answer c = rw (sym c.is_invept_supported.ensures ∙ c.if-not-is_invept_supported.true)

pub returns-then-not-is_invept_supported-clause-rule : goal.returns-then-not-is_invept_supported-clause-rule
unfolding own_rule
returns-then-not-is_invept_supported-clause-rule c = rw (sym c.is_invept_supported.ensures ∙ c.if-not-is_invept_supported.true)

pub returns-then-o-ne0-clause-answer : goal.returns-then-o-ne0-clause-answer
unfolding bad_invept
returns-then-o-ne0-clause-answer c = rw (sym c.is_invept_supported.ensures ∙ c.if-not-is_invept_supported.false, ne_eqb _ 0 c.if-o-ne0.true)

pub returns-then-o-ne0-clause-rule : goal.returns-then-o-ne0-clause-rule
unfolding own_rule
returns-then-o-ne0-clause-rule c = rw (sym c.is_invept_supported.ensures ∙ c.if-not-is_invept_supported.false, ne_eqb _ 0 c.if-o-ne0.true)

pub returns-then-o-ne1-clause-answer : goal.returns-then-o-ne1-clause-answer
unfolding bad_invept
returns-then-o-ne1-clause-answer c =
    rw (sym c.is_invept_supported.ensures ∙ c.if-not-is_invept_supported.false, eq-eqb _ 0 c.if-o-ne0.false, ne_eqb _ 1 c.if-o-ne1.true)

pub returns-then-o-ne1-clause-rule : goal.returns-then-o-ne1-clause-rule
unfolding own_rule
returns-then-o-ne1-clause-rule c =
    rw (sym c.is_invept_supported.ensures ∙ c.if-not-is_invept_supported.false, eq-eqb _ 0 c.if-o-ne0.false, ne_eqb _ 1 c.if-o-ne1.true)

pub returns-in-Some-clause-answer : goal.returns-in-Some-clause-answer
unfolding bad_invept
returns-in-Some-clause-answer c =
    rw (
      sym c.is_invept_supported.ensures ∙ c.if-not-is_invept_supported.false,
      eq-eqb _ 0 c.if-o-ne0.false,
      eq-eqb _ 1 c.if-o-ne1.false,
      good_eptp_broken _ _ c.in-Some.rule (rw c.in-Some.is at c.eptp_rule.ensures),
    )

pub returns-in-Some-clause-rule : goal.returns-in-Some-clause-rule
unfolding own_rule
returns-in-Some-clause-rule c =
    rw (sym c.is_invept_supported.ensures ∙ c.if-not-is_invept_supported.false, eq-eqb _ 0 c.if-o-ne0.false, eq-eqb _ 1 c.if-o-ne1.false)
    (rw c.in-Some.is at c.eptp_rule.ensures)

pub returns-in-None-clause-answer : goal.returns-in-None-clause-answer
unfolding bad_invept
returns-in-None-clause-answer c =
    rw (
      sym c.is_invept_supported.ensures ∙ c.if-not-is_invept_supported.false,
      eq-eqb _ 0 c.if-o-ne0.false,
      eq-eqb _ 1 c.if-o-ne1.false,
      good_eptp_unbroken _ _ (rw c.in-None.is at c.eptp_rule.ensures),
    )

pub returns-in-None-clause-rule : goal.returns-in-None-clause-rule
unfolding own_rule
returns-in-None-clause-rule c =
    rw (sym c.is_invept_supported.ensures ∙ c.if-not-is_invept_supported.false, eq-eqb _ 0 c.if-o-ne0.false, eq-eqb _ 1 c.if-o-ne1.false)
    (rw c.in-None.is at c.eptp_rule.ensures)
