use Rattle.contexts.proofs.is_ept_in_range.Goals as goal

pub returns-in-On : goal.returns-in-On
returns-in-On c = rw c.in-On.is
