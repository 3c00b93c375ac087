-- Issue 30, part 1, another's mapping: "a standing mapping that is usable at some address in the context in force, with another
-- owner", after an event with a renter in the guest.
use Rattle.std.specs.Prelude.{ℕ, ◌+◌, ◌-◌, ◌*◌, ◌^◌, Bool, true, cond, not, ◌&&◌, ◌||◌, List, [], ◌∷◌, ◌≡◌, eqb, ltb}
use Rattle.model.specs.declared.Context.{Context}
use Rattle.model.specs.declared.Mapping.{Mapping}
use Rattle.model.specs.declared.Address.{Address}
use Rattle.model.specs.declared.Address.TheVariants.{Linear, GuestPhysical}
use Rattle.model.specs.Bits.{linear_bits}
use Rattle.model.specs.Context.{in_guest, current_vpid, current_ept}
use Rattle.model.specs.Mappings.{guest_physical}
use Rattle.model.specs.Scopes.{is_current_ep4ta, current_pcid_or_global}
use Rattle.model.specs.Lookups.{translates_linear, usable}
use Rattle.origins.specs.Standing.{those}
use Rattle.leaks.specs.Moments.{Logged, same_owner, Moment, occupant, Owned, mapping_of, OwnedBook, owned_after, standing_owned}

-- "at some address", "over all addresses, linear and guest-physical, at both widths"
abbrev pub Usable : Context → Mapping → Type 0
Usable c m = (a : Address) × (usable c a m ≡ true)

pub record Leak (m : Moment) (l : Owned) : Type 0 where
  pub guest : in_guest m.context.place ≡ true
  pub usable : Usable m.context (mapping_of l)
  pub other : l.owner ≡ occupant m → ⊥

-- the same as a test. Its tags: what `usable` asks besides the address
unfoldable pub usable_tags : Context → Mapping → Bool
usable_tags c m =
    (eqb m.vpid (current_vpid c.place) && current_pcid_or_global c m && translates_linear (current_ept c.place) m)
    || (guest_physical m.kind && is_current_ep4ta (current_ept c.place) m.ep4ta)

unfoldable pub leaks_here : Moment → Owned → Bool
leaks_here m l = in_guest m.context.place && usable_tags m.context (mapping_of l) && not (same_owner l.owner (occupant m))

-- "a witness: an address at which a lookup shows it": the first of the record's own page, sign_extended if it is a linear one
unfoldable pub sign_extended : ℕ → ℕ → ℕ
sign_extended width page = page * 2 ^ 12 + cond (ltb page (2 ^ (linear_bits width - 13))) 0 (2 ^ 64 - 2 ^ linear_bits width)

unfoldable pub witness : Context → Mapping → Address
witness c m = cond (guest_physical m.kind) (GuestPhysical (m.page * 2 ^ 12)) (Linear (sign_extended c.linear_width m.page))

-- the leaks that there are, "in the table's order", and those that begin with an event
unfoldable pub leaks : OwnedBook → List Owned
leaks d = those (leaks_here d.now) (standing_owned d.notes)

unfoldable pub begins : OwnedBook → Logged → List Owned
begins d e = those (λ l. not (leaks_here d.now l)) (leaks (owned_after d e))

-- "for each event the leaks that begin with it"
unfoldable pub found : OwnedBook → List Logged → List (List Owned)
found d [] = []
found d (e ∷ es) = begins d e ∷ found (owned_after d e) es
