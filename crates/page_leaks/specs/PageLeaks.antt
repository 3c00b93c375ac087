-- Issue 30, part 1, another's page: "a standing translation of whoever is there, usable at some address, that leads to a frame
-- for which the last mapping created, of any guest, was another renter's". "It goes by frame, large pages and frames that are
-- not aligned to their span included".
use Rattle.std.specs.Prelude.{ℕ, zero, suc, ◌+◌, Bool, true, false, cond, not, ◌&&◌, ◌||◌, List, [], ◌∷◌, ◌≡◌, leb, ltb}
use Rattle.model.specs.declared.Mapping.{Mapping}
use Rattle.model.specs.Context.{in_guest}
use Rattle.model.specs.Layouts.{mapping_kind}
use Rattle.model.specs.Mappings.{structure_cache, pages}
use Rattle.origins.specs.Standing.{those}
use Rattle.leaks.specs.Moments.{Logged, Owner, monitor, renter, same_owner, Moment, occupant, Owned, mapping_of, OwnedBook, owned_after, standing_owned}
use Rattle.leaks.specs.Leaks.{Usable, usable_tags}

-- a translation leads to as many frames from its own as its span has pages; nothing else leads to any
unfoldable pub translation : Mapping → Bool
translation m = mapping_kind m.kind && not (structure_cache m.kind)

unfoldable pub leads_to : ℕ → Mapping → Bool
leads_to f m = translation m && leb m.frame f && ltb f (m.frame + pages m.span)

-- the owner of the last mapping created by a renter that leads to a frame, whether it stands or not; the monitor where there is
-- none
abbrev pub or_else : Owner → Owner → Owner
or_else monitor w = w
or_else (renter n) w = renter n

unfoldable pub last_to : List Owned → ℕ → Owner
last_to [] f = monitor
last_to (l ∷ later) f = or_else (last_to later f) (cond (leads_to f (mapping_of l)) l.owner monitor)

-- a test holds of a number below another
unfoldable pub any_below : (ℕ → Bool) → ℕ → Bool
any_below p zero = false
any_below p (suc n) = p n || any_below p n

-- "Pages may be shared by right (an APIC-access page, a zero page): a file of frames that may." These are left out.
pub record PageLeak (shared : ℕ → Bool) (m : Moment) (notes : List Owned) (l : Owned) : Type 0 where
  pub guest : in_guest m.context.place ≡ true
  pub own : l.owner ≡ occupant m
  pub usable : Usable m.context (mapping_of l)
  pub frame : ℕ
  pub leads : leads_to frame (mapping_of l) ≡ true
  pub kept : shared frame ≡ false
  pub other : last_to notes frame ≡ occupant m → ⊥

-- the same as a test
unfoldable pub taken_frame : (ℕ → Bool) → Moment → List Owned → ℕ → Bool
taken_frame shared m notes f = not (shared f) && not (same_owner (last_to notes f) (occupant m))

unfoldable pub page_leaks_here : (ℕ → Bool) → Moment → List Owned → Owned → Bool
page_leaks_here shared m notes l =
    in_guest m.context.place
    && same_owner l.owner (occupant m)
    && usable_tags m.context (mapping_of l)
    && translation (mapping_of l)
    && any_below (λ n. taken_frame shared m notes ((mapping_of l).frame + n)) (pages (mapping_of l).span)

-- those that there are, and those that begin with an event
unfoldable pub page_leaks : (ℕ → Bool) → OwnedBook → List Owned
page_leaks shared d = those (page_leaks_here shared d.now d.notes) (standing_owned d.notes)

unfoldable pub page_begins : (ℕ → Bool) → OwnedBook → Logged → List Owned
page_begins shared d e = those (λ l. not (page_leaks_here shared d.now d.notes l)) (page_leaks shared (owned_after d e))
