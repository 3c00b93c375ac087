-- The progress stays ready, and each piece but the last takes some of the log.
use Rattle.std.proofs.Common.{length, ◌-◌, ◌≤◌}
use Rattle.lines.specs.Text.{line_limit}
use Rattle.logs.specs.Progress.{Ready}
use Rattle.replay.proofs.write_text.Given as goal

abbrev pub invariant-loop-piece : goal.invariant-loop-piece
invariant-loop-piece g l =
    Ready l.progress l.log l.first l.second × (line_limit ≤ length l.text)

abbrev pub decreases-loop-piece : goal.decreases-loop-piece
decreases-loop-piece g l = length l.log - l.progress.at
