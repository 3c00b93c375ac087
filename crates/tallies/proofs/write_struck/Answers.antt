-- One more count is written.
use Rattle.std.proofs.Common.{ℕ, slice_index, arith}
use Rattle.std.proofs.lemmas.List.Edits.{fill_by_more}
use Rattle.tallies.specs.Tallies.{wrapped_less}
use Rattle.tallies.proofs.Laws.Struck.{wrapped_less_made}
use Rattle.tallies.proofs.write_struck.Goals as goal

pub loop-at-preserved : goal.loop-at-preserved
loop-at-preserved c =
    rw (wrapped_less_made 0 (slice_index c.args.left.now c.loop-at.at) (omega (arith, c.type_inv.left c.loop-at.at)))
    (fill_by_more (λ (i : ℕ). wrapped_less 0 (slice_index c.args.left.now i)) c.loop-at.to c.loop-at.at 0 (omega arith) c.loop-at.invariant)
