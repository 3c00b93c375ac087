-- The replay starts with the program's context.
use Rattle.texts.proofs.Laws.Texts.{starts}
use Rattle.texts.proofs.start.Goals as goal

pub returns : goal.returns
returns c = starts c.start.ensures
