use Rattle.std.proofs.Common.{◌≡◌, ℕ, ◌<◌, slice_index}
use Rattle.tallies.specs.Tallies.{wrapped_less}
use Rattle.tallies.proofs.write_struck.Given as goal

-- the counts up to the position are written
abbrev pub invariant-loop-at : goal.invariant-loop-at
invariant-loop-at l = (i : ℕ) → i < l.at → slice_index l.to i ≡ wrapped_less 0 (slice_index l.left i)
