-- Issue 30, part 3: "the invalidation that is proposed for a leak", and "a discipline that prevents".
use Rattle.std.specs.Prelude.{ℕ, true, false, cond, ◌≡◌, eqb}
use Rattle.model.specs.declared.Mapping.{Mapping}
use Rattle.model.specs.declared.Entry
use Rattle.model.specs.declared.Event.{Event}
use Rattle.model.specs.declared.Event.TheVariants.{Invvpid, Invept}
use Rattle.model.specs.Mappings.{guest_physical}
use Rattle.model.specs.Scopes.{vpid_tagged}
use Rattle.leaks.specs.Moments.{Owned, mapping_of}

-- for a mapping that a VM entry makes usable: INVEPT of type 1 for the entry's EPTP if it is guest-physical, else INVVPID of
-- type 1 for its VPID
unfoldable pub mending : Entry.Entry → Mapping → Event
mending n m =
    cond (guest_physical m.kind)
    (Invept (record { type_number = 1; low = n.eptp; high = 0 }))
    (Invvpid (record { type_number = 1; low = m.vpid; high = 0 }))

-- the mapping has not the VPID, nor, if it is guest-physical, the EP4TA
pub record Swept (vpid ep4ta : ℕ) (l : Owned) : Type 0 where
  pub tagged : vpid_tagged (mapping_of l) ≡ true → eqb (mapping_of l).vpid vpid ≡ false
  pub physical : guest_physical (mapping_of l).kind ≡ true → eqb (mapping_of l).ep4ta ep4ta ≡ false
