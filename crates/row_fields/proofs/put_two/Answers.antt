-- The second number behind the first.
use native.Mathlib.Omega.{arith}
use Rattle.row_fields.proofs.Laws.Writing.{wrote_number, wrote_behind}
use Rattle.row_fields.proofs.put_two.Goals as goal

pub returns : goal.returns
returns c =
    let w = wrote_behind (omega (arith, c.requires)) (wrote_number _ _ _ _ (c.put_number-next.ensures.value, c.put_number-next.ensures.out_after)) (wrote_number _ _ _ _ (c.put_number.ensures.value, c.put_number.ensures.out_after)) in
    record { value = omega (arith, c.put_number-next.ensures.value, c.put_number.ensures.value); out_after = w.made }
