-- A kind that tells no length is unknown.
use Rattle.std.proofs.Common.{sym, ◌∙◌}
use Rattle.readers.proofs.Laws.Readers.{first_unknown}
use Rattle.readers.proofs.first_of.Goals as goal

pub returns-in-0 : goal.returns-in-0
returns-in-0 c = first_unknown c.args.width c.args.bytes.now (sym c.length_of_event.ensures ∙ c.in-0.is)
