-- A longer log, and any other.
use Rattle.texts.proofs.Laws.Texts.{lines_told, too_long_told}
use Rattle.texts.proofs.write_next.Goals as goal

pub returns-then-log-gt-LOG_LIMIT : goal.returns-then-log-gt-LOG_LIMIT
returns-then-log-gt-LOG_LIMIT c =
    too_long_told c.requires.ready c.if-log-gt-LOG_LIMIT.true c.write_too_long.ensures

pub returns-else-log-gt-LOG_LIMIT : goal.returns-else-log-gt-LOG_LIMIT
returns-else-log-gt-LOG_LIMIT c =
    lines_told c.requires.ready c.requires.line_limit_in_bounds c.if-log-gt-LOG_LIMIT.false c.write_lines.ensures
