-- The progress stays ready, and each piece but the last takes some of the log.
use Rattle.std.proofs.Common.{arith, ◌<◌}
use Rattle.replay.proofs.write_text.Goals as goal

pub loop-piece-init : goal.loop-piece-init
loop-piece-init g c = (c.start-progress.ensures.ready _ _ _, c.requires)

pub loop-piece-smaller : goal.loop-piece-smaller
loop-piece-smaller g c =
    let further : c.loop-piece.progress.at < c.write_next-piece.result.progress.at =
    c.write_next-piece.ensures.further (omega (arith, c.if-piece-eq0.false)) in
    omega (arith, further, c.write_next-piece.ensures.ready.inside)

pub loop-piece-preserved : goal.loop-piece-preserved
loop-piece-preserved g c =
    let same = c.write_next-piece.auto.out in (
      c.write_next-piece.ensures.ready,
      omega (arith, c.loop-piece.invariant.1, same),
    )
