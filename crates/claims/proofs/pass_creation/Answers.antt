-- Nothing is added; or a creation, which the claim goes on with or not.
use Rattle.std.proofs.Common.{sym, ◌∙◌}
use Rattle.laws.specs.Tables.{rest_of_drop}
use Rattle.claims.proofs.Laws.Matching.{passes_nothing, passes_creation, passes_no_creation}
use Rattle.claims.proofs.pass_creation.Goals as goal

pub returns-then-created_records-eq0 : goal.returns-then-created_records-eq0
returns-then-created_records-eq0 c =
    passes_nothing _ _ _ _ c.requires.raw_value c.requires.at_in_bounds c.requires.claim_value (sym c.created_records.ensures ∙ c.if-created_records-eq0.true)

pub returns-then-starts_with : goal.returns-then-starts_with
returns-then-starts_with c =
    passes_creation _ _ _ _ c.requires.raw_value c.requires.at_in_bounds c.requires.claim_value (λ z. c.if-created_records-eq0.false (c.created_records.ensures ∙ z))
    (rw rest_of_drop at (sym c.if-starts_with.ensures.value))

pub returns : goal.returns
returns c =
    passes_no_creation _ _ _ _ c.requires.raw_value c.requires.at_in_bounds c.requires.claim_value (λ z. c.if-created_records-eq0.false (c.created_records.ensures ∙ z))
    (rw rest_of_drop at (sym c.if-starts_with.ensures.value))
