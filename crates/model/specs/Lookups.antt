-- Document 01, "Looking up": the mappings that may be used for an address (000, 29.4.2).
use Rattle.std.specs.Prelude.{ℕ, zero, suc, ◌+◌, Bool, cond, ◌&&◌, List, [], ◌∷◌, eqb, length, get_or}
use Rattle.model.specs.declared.Context.{Context}
use Rattle.model.specs.declared.Ept.{Ept}
use Rattle.model.specs.declared.Ept.TheVariants.{Off, On}
use Rattle.model.specs.declared.Mapping.{Mapping}
use Rattle.model.specs.declared.Address.{Address}
use Rattle.model.specs.declared.Address.TheVariants.{Linear, GuestPhysical}
use Rattle.model.specs.Context.{current_vpid, current_ept}
use Rattle.model.specs.Mappings.{mapping, linear, guest_physical, combined}
use Rattle.model.specs.Tables.{records, only}
use Rattle.model.specs.Events.{canonical, covers_linear, covers_guest_physical, guest_physical_in_range}
use Rattle.model.specs.Scopes.{is_current_ep4ta, current_pcid_or_global}
use Rattle.model.specs.Answers.{first, table_grounds}

-- "kinds 1 and 4 with EPT not in use, kinds 3 and 6 of the current EP4TA with EPT in use"
unfoldable pub translates_linear : Ept → Mapping → Bool
translates_linear Off m = linear m.kind
translates_linear (On current) m = combined m.kind && eqb m.ep4ta current

-- "For a linear address, usable are the records that cover its page and carry the current VPID, with
-- the current PCID (kinds 1, 3: or global 1)"; a non-canonical address has none. "For a guest-physical
-- address with EPT in use: kinds 2 and 5 of the current EP4TA", covering its page; one of 2^48 or
-- more, and any with EPT not in use, has none.
unfoldable pub usable : Context → Address → Mapping → Bool
usable c (Linear address) m =
    canonical c.linear_width address
    && covers_linear c.linear_width address m
    && eqb m.vpid (current_vpid c.place)
    && current_pcid_or_global c m
    && translates_linear (current_ept c.place) m
usable c (GuestPhysical address) m =
    guest_physical_in_range address
    && covers_guest_physical address m
    && guest_physical m.kind
    && is_current_ep4ta (current_ept c.place) m.ep4ta

-- the usable records of a table, in order
unfoldable pub usable_records : Context → Address → List ℕ → List (List ℕ)
usable_records c a t = only (λ r. usable c a (mapping r)) (records t)

-- "the answer number is asked separately": 1, 2 or 3, else 0
unfoldable pub lookup_answer : Context → List ℕ → ℕ
lookup_answer c t = first (table_grounds c t)

-- "The lookup hands back the k-th usable record, from 0": empty where there is none, or where the
-- answer is not 0
unfoldable pub lookup : Context → Address → List ℕ → ℕ → List ℕ
lookup c a t k = cond (eqb (lookup_answer c t) 0) (get_or (usable_records c a t) k []) []

-- where the k-th record of which a test holds starts, the first of the records standing at a
-- position; 0 where there is none
unfoldable pub start_of : (List ℕ → Bool) → ℕ → List (List ℕ) → ℕ → ℕ
start_of p k [] at = 0
start_of p zero (r ∷ rs) at = cond (p r) at (start_of p zero rs (at + length r))
start_of p (suc k) (r ∷ rs) at = cond (p r) (start_of p k rs (at + length r)) (start_of p (suc k) rs (at + length r))

-- "as that very part of the lent table": where the part starts; 0 where it is empty
unfoldable pub lookup_start : Context → Address → List ℕ → ℕ → ℕ
lookup_start c a t k =
    cond (eqb (lookup_answer c t) 0) (start_of (λ r. usable c a (mapping r)) k (records t) 0) 0
