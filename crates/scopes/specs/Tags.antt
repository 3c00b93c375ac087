-- The EP4TAs that are current.
use Rattle.model.specs.declared.Ept.{Ept}
use Rattle.model.specs.declared.Ept.TheVariants.{Off, On}
use Rattle.queries.specs.declared.Tags.{Tags}
use Rattle.queries.specs.Queries.{only, no_tags}

-- the EP4TA in use; none is while EPT is off
abbrev pub tags_of_ept : Ept → Tags
tags_of_ept Off = no_tags
tags_of_ept (On ep4ta) = only ep4ta
