-- What the lookup finds is written out.
use Rattle.std.specs.Prelude.{◌≡◌, true, not}
use Rattle.std.proofs.Common.{sym, ap, ◌∙◌}
use Rattle.std.proofs.lemmas.Bool.{not-false}
use Rattle.flat_contexts.specs.Contexts.{is_known}
use Rattle.flat_levels.proofs.Laws.{flat_found}
use Rattle.flat_levels.proofs.look_up.Goals as goal
use Rattle.flat_levels.proofs.look_up.Goals.{After-find}

known : (c : After-find) → is_known c.args.context ≡ true
known c = sym c.is_known.ensures ∙ not-false _ (ap not c.if-not-is_known.false)

pub returns-in-Ok-Some-First : goal.returns-in-Ok-Some-First
returns-in-Ok-Some-First c =
    let told = rw (c.in-Ok-Some-First.field-0-is, c.in-Ok-Some-First.field-0-0-is) at c.in-Ok-Some-First.ensures.value in
    c.part_of.ensures ∙ flat_found _ _ _ _ (known (goal.at.returns-in-Ok-Some-First c).After-find) c.from.ensures told

pub returns-in-Ok-Some-Second : goal.returns-in-Ok-Some-Second
returns-in-Ok-Some-Second c =
    let told = rw (c.in-Ok-Some-Second.field-0-is, c.in-Ok-Some-Second.field-0-0-is) at c.in-Ok-Some-Second.ensures.value in
    c.part_of-in-Ok-Some-Second.ensures ∙ flat_found _ _ _ _ (known (goal.at.returns-in-Ok-Some-Second c).After-find) c.from.ensures told

pub returns-in-Ok-None : goal.returns-in-Ok-None
returns-in-Ok-None c =
    let told = rw c.in-Ok-None.field-0-is at c.in-Ok-None.ensures.value in
    c.no_part-in-Ok-None.ensures ∙ flat_found _ _ _ _ (known (goal.at.returns-in-Ok-None c).After-find) c.from.ensures told

pub returns-in-Err : goal.returns-in-Err
returns-in-Err c =
    rw (c.no_part-in-Err.ensures, c.number.ensures) (flat_found _ _ _ _ (known (goal.at.returns-in-Err c).After-find) c.from.ensures c.in-Err.ensures.value)
