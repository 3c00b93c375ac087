-- The part stands in the table of its level, and an empty part in the first.
use native.Mathlib.Nat.{zero-add}
use Rattle.level_lookups.proofs.Laws.Levels.{level_told, start_told}
use Rattle.level_lookups.proofs.look_up.Goals as goal

pub returns-in-Ok-Some-First-clause-ref_ptr_value : goal.returns-in-Ok-Some-First-clause-ref_ptr_value
returns-in-Ok-Some-First-clause-ref_ptr_value c =
    let told = rw (c.in-Ok-Some-First.field-0-is, c.in-Ok-Some-First.field-0-0-is) at c.in-Ok-Some-First.ensures.value in
    rw (level_told _ _ _ _ told, start_told _ _ _ _ told)

pub returns-in-Ok-Some-Second-clause-ref_ptr_value : goal.returns-in-Ok-Some-Second-clause-ref_ptr_value
returns-in-Ok-Some-Second-clause-ref_ptr_value c =
    let told = rw (c.in-Ok-Some-Second.field-0-is, c.in-Ok-Some-Second.field-0-0-is) at c.in-Ok-Some-Second.ensures.value in
    rw (level_told _ _ _ _ told, start_told _ _ _ _ told)

pub returns-in-Ok-None-clause-ref_ptr_value : goal.returns-in-Ok-None-clause-ref_ptr_value
returns-in-Ok-None-clause-ref_ptr_value c =
    let told = rw c.in-Ok-None.field-0-is at c.in-Ok-None.ensures.value in
    rw (level_told _ _ _ _ told, start_told _ _ _ _ told, zero-add)

pub returns-in-Err-clause-ref_ptr_value : goal.returns-in-Err-clause-ref_ptr_value
returns-in-Err-clause-ref_ptr_value c =
    let told = c.in-Err.ensures.value in
    rw (level_told _ _ _ _ told, start_told _ _ _ _ told, zero-add)
