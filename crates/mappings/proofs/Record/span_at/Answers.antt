-- The number of its kind is where the layout has the span.
use Rattle.model.specs.Mappings.{mapping}
use Rattle.mappings.proofs.Laws.Places.{span_at_held}
use Rattle.mappings.proofs.Record.span_at.Goals as goal

pub returns : goal.returns
unfolding mapping
returns c =
    rw (c.place_of_span.ensures, c.kind.ensures) (span_at_held _ c.args.self.held)
