-- Each arm is the definition's row for its event, by what its callees ensure.
use Rattle.std.specs.Prelude.{refl}
use Rattle.std.proofs.Common.{inl, inr}
use Rattle.model.specs.Answers.{own_ground, own_rule}
use Rattle.grounds.proofs.check_event.Goals as goal

pub returns-in-Creation-clause-answer : goal.returns-in-Creation-clause-answer
unfolding own_ground
returns-in-Creation-clause-answer c = rw (c.in-Creation.is, c.refuse_if.ensures.answer, c.is_creatable.ensures)

pub returns-in-Creation-clause-rule : goal.returns-in-Creation-clause-rule
unfolding own_rule
returns-in-Creation-clause-rule c = rw c.in-Creation.is (c.refuse_if.ensures.rule refl)

pub returns-in-Invvpid-clause-answer : goal.returns-in-Invvpid-clause-answer
unfolding own_ground
returns-in-Invvpid-clause-answer c = rw (c.in-Invvpid.is, c.refuse_if-in-Invvpid.ensures.answer, c.is_bad_invvpid.ensures)

pub returns-in-Invvpid-clause-rule : goal.returns-in-Invvpid-clause-rule
unfolding own_rule
returns-in-Invvpid-clause-rule c = rw c.in-Invvpid.is (c.refuse_if-in-Invvpid.ensures.rule refl)

pub returns-in-Invept-clause-answer : goal.returns-in-Invept-clause-answer
unfolding own_ground
returns-in-Invept-clause-answer c = rw c.in-Invept.is c.check_invept.ensures.answer

pub returns-in-Invept-clause-rule : goal.returns-in-Invept-clause-rule
unfolding own_rule
returns-in-Invept-clause-rule c = rw c.in-Invept.is c.check_invept.ensures.rule

pub returns-in-EptViolation-clause-answer : goal.returns-in-EptViolation-clause-answer
unfolding own_ground
returns-in-EptViolation-clause-answer c = rw (c.in-EptViolation.is, c.refuse_if-in-EptViolation.ensures.answer, c.is_ept_in_use.ensures, c.ept.ensures)

pub returns-in-EptViolation-clause-rule : goal.returns-in-EptViolation-clause-rule
unfolding own_rule
returns-in-EptViolation-clause-rule c = rw c.in-EptViolation.is (c.refuse_if-in-EptViolation.ensures.rule refl)

pub returns-in-Entry-clause-answer : goal.returns-in-Entry-clause-answer
unfolding own_ground
returns-in-Entry-clause-answer c = rw c.in-Entry.is c.check_entry.ensures.answer

pub returns-in-Entry-clause-rule : goal.returns-in-Entry-clause-rule
unfolding own_rule
returns-in-Entry-clause-rule c = rw c.in-Entry.is c.check_entry.ensures.rule

pub returns-in-Exit-clause-answer : goal.returns-in-Exit-clause-answer
unfolding own_ground
returns-in-Exit-clause-answer c = rw (c.in-Exit.is, c.refuse_if-in-Exit.ensures.answer, c.is_in_guest.ensures)

pub returns-in-Exit-clause-rule : goal.returns-in-Exit-clause-rule
unfolding own_rule
returns-in-Exit-clause-rule c = rw c.in-Exit.is (c.refuse_if-in-Exit.ensures.rule refl)

pub returns-in-Vmxon-clause-answer : goal.returns-in-Vmxon-clause-answer
unfolding own_ground
returns-in-Vmxon-clause-answer c = rw (c.in-Vmxon.is, c.refuse_if-in-Vmxon.ensures.answer, c.is_in_root.ensures)

pub returns-in-Vmxon-clause-rule : goal.returns-in-Vmxon-clause-rule
unfolding own_rule
returns-in-Vmxon-clause-rule c = rw c.in-Vmxon.is (c.refuse_if-in-Vmxon.ensures.rule refl)

pub returns-in-Invpcid-clause-answer : goal.returns-in-Invpcid-clause-answer
unfolding own_ground
returns-in-Invpcid-clause-answer c = rw (c.in-Invpcid.is, c.refuse_if-in-Invpcid.ensures.answer, c.is_bad_invpcid.ensures)

pub returns-in-Invpcid-clause-rule : goal.returns-in-Invpcid-clause-rule
unfolding own_rule
returns-in-Invpcid-clause-rule c = rw c.in-Invpcid.is (c.refuse_if-in-Invpcid.ensures.rule refl)

pub returns-in-Invlpg-clause-answer : goal.returns-in-Invlpg-clause-answer
unfolding own_ground
returns-in-Invlpg-clause-answer c =
    elim c.in-Invlpg.is [
      | inl p ↦ rw p.1
      | inr (inl h) ↦ rw h
      | inr (inr (inl p)) ↦ rw p.1
      | inr (inr (inr (inl h))) ↦ rw h
      | inr (inr (inr (inr p))) ↦ rw p.1
    ]

pub returns-in-Invlpg-clause-rule : goal.returns-in-Invlpg-clause-rule
unfolding own_rule
returns-in-Invlpg-clause-rule c =
    elim c.in-Invlpg.is [
      | inl p ↦ rw p.1
      | inr (inl h) ↦ rw h
      | inr (inr (inl p)) ↦ rw p.1
      | inr (inr (inr (inl h))) ↦ rw h
      | inr (inr (inr (inr p))) ↦ rw p.1
    ]
