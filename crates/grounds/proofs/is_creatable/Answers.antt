-- `is_creatable` tests what its definition says, by what its callees ensure.
use Rattle.grounds.proofs.is_creatable.Goals as goal

pub returns : goal.returns
unfolding Rattle.model.specs.Answers.creatable
returns c =
    rw (
      c.is_linear-linear.ensures,
      c.is_guest_physical-guest_physical.ensures,
      c.is_combined-combined.ensures,
      c.is_current_ep4ta-current.ensures,
      c.is_ept_in_use-in_use.ensures,
      c.vpid.ensures,
      c.ept-ept.ensures,
    )
