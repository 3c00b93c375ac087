-- `pass_left` keeps the loop's invariant: a record that is left is matched or passed over, a dropped one is not looked at.
use Rattle.std.proofs.Common.{sym, ◌∙◌}
use Rattle.laws.specs.Tables.{rest_of_drop}
use Rattle.claims.proofs.Laws.Matching.{matching_end, matching_gone, matching_matched, matching_past}
use Rattle.claims.proofs.pass_left.Goals as goal
use Rattle.claims.proofs.pass_left.Goals.{else-not-is_in_scope-via-then-not-is_in_scope+else-starts_with, else-not-is_in_scope-via-else-not-is_in_scope}

pub loop-record-preserved-then-starts_with : goal.loop-record-preserved-then-starts_with
loop-record-preserved-then-starts_with c =
    matching_matched _ c.loop-record.invariant _ _ c.in-Some.ensures.steps (sym c.if-not-is_in_scope.ensures) (rw rest_of_drop at (sym c.if-starts_with.ensures.value))

pub loop-record-preserved : goal.loop-record-preserved
loop-record-preserved c =
    let scoped = sym c.is_in_scope.ensures in
    let first = c.in-Some.ensures.steps in
    elim c.else-not-is_in_scope.branch [
      | else-not-is_in_scope-via-then-not-is_in_scope+else-starts_with w ↦
          matching_past _ c.loop-record.invariant _ _ first (scoped ∙ w.if-not-is_in_scope.true)
          (rw rest_of_drop at (sym w.starts_with.ensures.value ∙ w.if-starts_with.false))
      | else-not-is_in_scope-via-else-not-is_in_scope w ↦
          matching_gone _ c.loop-record.invariant _ _ first (scoped ∙ w.if-not-is_in_scope.false)
    ]

pub returns : goal.returns
returns c = matching_end _ c.loop-record.invariant c.in-None.ensures.steps.0
