-- The way of an address through EPT, level by level. The measure is the number of levels left.
use Rattle.walks.proofs.Walker.+ept_level.Given as goal

abbrev pub decreases-ept_level : goal.decreases-ept_level
decreases-ept_level l = l.level
