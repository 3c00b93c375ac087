-- Whether an EPTP is good, by the rule that the code finds.
use Rattle.std.specs.Prelude.{ℕ, Option, Some, None, ◌≡◌, true, false, eqb}
use Rattle.std.proofs.Common.{sym, ◌∙◌, ne_eqb, eq-eqb}
use Rattle.model.specs.declared.Context.{Context}
use Rattle.model.specs.declared.EptpRule.{EptpRule}
use Rattle.model.specs.Answers.{good_eptp, eptp_rule}
use Rattle.model.specs.Refusals.{rule_number}
use Rattle.laws.specs.Refusals.{rule_number_some}
use Rattle.laws.specs.Rules.{eptp_rule_good}

pub good_eptp_broken : (c : Context) (eptp : ℕ) (r : EptpRule) → rule_number (Some r) ≡ eptp_rule c eptp → good_eptp c eptp ≡ false
good_eptp_broken c eptp r is =
    sym (eptp_rule_good c eptp) ∙ ne_eqb (eptp_rule c eptp) 0 (λ z. rule_number_some r (is ∙ z))

pub good_eptp_unbroken : (c : Context) (eptp : ℕ) → 0 ≡ eptp_rule c eptp → good_eptp c eptp ≡ true
good_eptp_unbroken c eptp is = sym (eptp_rule_good c eptp) ∙ eq-eqb (eptp_rule c eptp) 0 (sym is)
