-- The records left and the creation match the claim up to a position, which is its end or not.
use mathlib.Core.Path.{◌≡◌, sym, ◌∙◌}
use Rattle.model.specs.Tables.{records}
use Rattle.model.specs.Steps.{new_table}
use Rattle.claims.specs.Claims.{matched}
use Rattle.claims.specs.Matching.{judged_at}
use Rattle.claims.proofs.Laws.Matching.{matched_new_table}
use Rattle.claims.proofs.Laws.Judgements.{judged_at_end, judged_at_record}
use Rattle.claims.proofs.match_claim.Goals as goal
use Rattle.claims.proofs.match_claim.Goals.{After-pass_creation-reached}

-- how far the claim is matched
told : (c : After-pass_creation-reached)
    → matched 0 (records c.args.claim.now) (records (new_table c.args.c c.args.table.now c.args.raw.now)) ≡ judged_at c.args.claim.now c.pass_creation-reached.result
told c =
    matched_new_table c.args.c.linear_width c.args.c c.args.table.now c.args.raw.now c.args.claim.now c.requires.raw_value c.requires.e_value c.pass_left.ensures c.pass_creation-reached.ensures

pub returns-then-reached-claim : goal.returns-then-reached-claim
returns-then-reached-claim c = sym (told (goal.at.returns-then-reached-claim c).After-pass_creation-reached ∙ judged_at_end _ _ c.if-reached-claim.true)

pub returns : goal.returns
returns c = sym (told (goal.at.returns c).After-pass_creation-reached ∙ judged_at_record _ _ c.if-reached-claim.false)
