-- What the definition reads is at most 24 entries.
use Prim.Native.Nat.{◌≤◌}
use mathlib.Core.Path.{sym, subst, ◌∙◌}
use Rattle.walks.specs.Walks.{read_of}
use Rattle.walks.proofs.Laws.Bounds.{walk_in_reads}
use Rattle.walks.proofs.walk.Goals as goal

pub returns-in-Ok-clause-read_bound : goal.returns-in-Ok-clause-read_bound
returns-in-Ok-clause-read_bound c = subst (λ w. read_of w ≤ 24) (sym c.walk_in.ensures ∙ c.in-Ok.is) (walk_in_reads _ _ _ _ _)

pub returns-in-Err-clause-read_bound : goal.returns-in-Err-clause-read_bound
returns-in-Err-clause-read_bound c = subst (λ w. read_of w ≤ 24) (sym c.walk_in.ensures ∙ c.in-Err.is) (walk_in_reads _ _ _ _ _)
