-- With n levels left the measure of the guest-level step is 2n + 1, of the through-EPT step 2n.
use Rattle.std.proofs.Common.{◌+◌, ◌*◌}
use Rattle.walks.proofs.Walker.+guest_level_through_ept.Given as goal

abbrev pub decreases-guest_level : goal.decreases-guest_level
decreases-guest_level l = 2 * l.level + 1

abbrev pub decreases-through_ept : goal.decreases-through_ept
decreases-through_ept l = 2 * l.level
