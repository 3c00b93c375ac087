-- Behind 5, 6 and 7 the refusal is the event's own.
use Rattle.std.proofs.Common.{◌∙◌, sym}
use Rattle.laws.specs.Answers.{event_answer_own}
use Rattle.laws.specs.Rules.{own_rule_among}
use Rattle.answers.proofs.check_event.Goals as goal

pub returns-then-is_invalid_opcode : goal.returns-then-is_invalid_opcode
returns-then-is_invalid_opcode c =
    let is = rw (sym c.is_invalid_opcode.ensures ∙ c.if-is_invalid_opcode.true) at (event_answer_own c.args.c c.args.e) in
    record { answer = rw is; rule = rw is }

pub returns-then-is_exiting : goal.returns-then-is_exiting
returns-then-is_exiting c =
    let is =
    rw (sym c.is_invalid_opcode.ensures ∙ c.if-is_invalid_opcode.false, sym c.is_exiting.ensures ∙ c.if-is_exiting.true)
    at (event_answer_own c.args.c c.args.e) in
    record { answer = rw is; rule = rw is }

pub returns-then-is_general_protection : goal.returns-then-is_general_protection
returns-then-is_general_protection c =
    let is =
    rw (
      sym c.is_invalid_opcode.ensures ∙ c.if-is_invalid_opcode.false,
      sym c.is_exiting.ensures ∙ c.if-is_exiting.false,
      sym c.is_general_protection.ensures ∙ c.if-is_general_protection.true,
    ) at (event_answer_own c.args.c c.args.e) in
    record { answer = rw is; rule = rw is }

pub returns : goal.returns
returns c =
    let is =
    rw (
      sym c.is_invalid_opcode.ensures ∙ c.if-is_invalid_opcode.false,
      sym c.is_exiting.ensures ∙ c.if-is_exiting.false,
      sym c.is_general_protection.ensures ∙ c.if-is_general_protection.false,
    ) at (event_answer_own c.args.c c.args.e) in
    record {
      answer = c.check_event.ensures.answer ∙ sym is;
      rule = rw is (c.check_event.ensures.rule ∙ sym (own_rule_among c.args.c c.args.e));
    }
