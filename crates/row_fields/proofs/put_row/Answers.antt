-- The five pieces of a row, one behind the other.
use Prim.Native.Nat.{◌≤◌}
use native.Mathlib.Omega.{arith}
use lib.ListN.{length}
use Rattle.row_fields.proofs.Laws.Writing.{wrote_number, wrote_two, wrote_behind, row_pieces}
use Rattle.row_fields.proofs.put_row.Goals as goal

pub returns-clause-rows_after : goal.returns-clause-rows_after
returns-clause-rows_after c =
    let fits : c.args.at ≤ length c.args.rows.now = omega (arith, c.requires) in
    let w =
    wrote_behind fits
    (wrote_behind fits
    (wrote_behind fits
    (wrote_behind fits (wrote_two _ _ _ _ _ _ (c.put_two-global.ensures.value, c.put_two-global.ensures.out_after)) (wrote_two _ _ _ _ _ _ (c.put_two-vpid.ensures.value, c.put_two-vpid.ensures.out_after)))
    (wrote_two _ _ _ _ _ _ (c.put_two-page.ensures.value, c.put_two-page.ensures.out_after)))
    (wrote_two _ _ _ _ _ _ (c.put_two-ep4ta.ensures.value, c.put_two-ep4ta.ensures.out_after)))
    (wrote_number _ _ _ _ (c.put_number.ensures.value, c.put_number.ensures.out_after)) in
    rw (← c.mapping-mapping.ensures, row_pieces) w.made
