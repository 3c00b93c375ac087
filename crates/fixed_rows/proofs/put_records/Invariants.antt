use Rattle.std.specs.Prelude.{◌≡◌}
use Rattle.std.specs.Slice.Iter.{chunks_exact_rest, chunks_exact_size}
use Rattle.fixed_rows.proofs.Laws.Loops.{Importing}
use Rattle.fixed_rows.proofs.put_records.Given as goal

abbrev pub invariant-loop-row : goal.invariant-loop-row
invariant-loop-row l =
    (chunks_exact_size l.row-iterator ≡ 32)
    × Importing l.fn.rows l.initial.table (chunks_exact_rest l.row-iterator) l.last l.to l.table
