use Rattle.contexts.proofs.is_in_range.Goals as goal

pub returns : goal.returns
unfolding Rattle.model.specs.Context.in_range
returns c = rw c.is_place_in_range.ensures
