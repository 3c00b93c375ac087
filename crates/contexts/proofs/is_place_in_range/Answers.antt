use Rattle.contexts.proofs.is_place_in_range.Goals as goal

pub returns-in-Guest : goal.returns-in-Guest
returns-in-Guest c = rw (c.in-Guest.is, c.is_ept_in_range.ensures)
