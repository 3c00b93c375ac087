-- Each early return is the first rule that is broken. Bits 2:0 are a quotient by 1.
use native.Mathlib.Nat.{div-one}
use Rattle.std.proofs.Common.{ap}
use Rattle.std.proofs.Common.{not}
use borrow.Author.Tests.{eq-eqb, ne_eqb}
use Rattle.grounds.proofs.eptp_rule.Goals as goal

pub returns-then-not-memory_type-capability : goal.returns-then-not-memory_type-capability
unfolding Rattle.model.specs.Answers.eptp_rule Rattle.model.specs.Answers.first
returns-then-not-memory_type-capability c = rw (div-one, c.if-not-memory_type-capability.true)

pub returns-then-not-eptp-capability : goal.returns-then-not-eptp-capability
unfolding Rattle.model.specs.Answers.eptp_rule Rattle.model.specs.Answers.first
returns-then-not-eptp-capability c = rw (div-one, c.if-not-memory_type-capability.false, c.if-not-eptp-capability.true)

pub returns-then-not-eptp-capability-2 : goal.returns-then-not-eptp-capability-2
unfolding Rattle.model.specs.Answers.eptp_rule Rattle.model.specs.Answers.first
returns-then-not-eptp-capability-2 c = rw (div-one, c.if-not-memory_type-capability.false, c.if-not-eptp-capability.false, c.if-not-eptp-capability-2.true)

pub returns-then-not-eptp : goal.returns-then-not-eptp
unfolding Rattle.model.specs.Answers.eptp_rule Rattle.model.specs.Answers.first
returns-then-not-eptp c =
    rw (div-one, c.if-not-memory_type-capability.false, c.if-not-eptp-capability.false, c.if-not-eptp-capability-2.false, ap not (ne_eqb _ _ c.if-not-eptp.true))

pub returns-then-not-is_within_width : goal.returns-then-not-is_within_width
unfolding Rattle.model.specs.Answers.eptp_rule Rattle.model.specs.Answers.first
returns-then-not-is_within_width c =
    rw (
      div-one,
      c.if-not-memory_type-capability.false,
      c.if-not-eptp-capability.false,
      c.if-not-eptp-capability-2.false,
      ap not (eq-eqb _ _ c.if-not-eptp.false),
      rw c.is_within_width.ensures at (ap not c.if-not-is_within_width.true),
    )

pub returns : goal.returns
unfolding Rattle.model.specs.Answers.eptp_rule Rattle.model.specs.Answers.first
returns c =
    rw (
      div-one,
      c.if-not-memory_type-capability.false,
      c.if-not-eptp-capability.false,
      c.if-not-eptp-capability-2.false,
      ap not (eq-eqb _ _ c.if-not-eptp.false),
      rw c.is_within_width.ensures at (ap not c.if-not-is_within_width.false),
    )
