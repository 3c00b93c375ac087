-- Issue 30, part 1, stale: "an older usable translation at an address of the new one that leads to another frame there"; and,
-- as a sort of its own, an older structure cache of the same kind, span and page that leads to another structure.
use Rattle.std.specs.Prelude.{ℕ, ◌+◌, ◌-◌, Bool, true, false, cond, not, ◌&&◌, ◌||◌, List, [], ◌≡◌, eqb, ltb}
use Rattle.model.specs.declared.Context.{Context}
use Rattle.model.specs.declared.Mapping.{Mapping}
use Rattle.model.specs.declared.Address.{Address}
use Rattle.model.specs.declared.Address.TheVariants.{Linear, GuestPhysical}
use Rattle.model.specs.Layouts.{kind_of, mapping_kind}
use Rattle.model.specs.Mappings.{mapping, guest_physical, structure_cache, covers}
use Rattle.model.specs.Events.{page_of, guest_physical_page_of}
use Rattle.model.specs.Lookups.{usable}
use Rattle.origins.specs.Standing.{those}
use Rattle.leaks.specs.Moments.{Logged, accepts, Owned, mapping_of, OwnedBook, standing_owned}
use Rattle.leaks.specs.Leaks.{usable_tags}

-- the page of an address, and the frame that a translation leads to there
abbrev pub page_at : Context → Address → ℕ
page_at c (Linear address) = page_of c.linear_width address
page_at c (GuestPhysical address) = guest_physical_page_of address

abbrev pub frame_at : Mapping → ℕ → ℕ
frame_at m page = m.frame + (page - m.page)

pub record Stale (c : Context) (new old : Mapping) : Type 0 where
  pub address : Address
  pub new_usable : usable c address new ≡ true
  pub old_usable : usable c address old ≡ true
  pub translations : (structure_cache new.kind || structure_cache old.kind) ≡ false
  pub elsewhere : frame_at old (page_at c address) ≡ frame_at new (page_at c address) → ⊥

pub record StaleCache (c : Context) (new old : Mapping) : Type 0 where
  pub address : Address
  pub new_usable : usable c address new ≡ true
  pub old_usable : usable c address old ≡ true
  pub caches : (structure_cache new.kind && structure_cache old.kind) ≡ true
  pub kind : old.kind ≡ new.kind
  pub span : old.span ≡ new.span
  pub page : old.page ≡ new.page
  pub elsewhere : old.frame ≡ new.frame → ⊥

-- Tests on fields. Two spans that share a page share the later of the two first pages.
abbrev pub later_page : Mapping → Mapping → ℕ
later_page new old = cond (ltb new.page old.page) old.page new.page

-- both are guest-physical, or neither is
abbrev pub same_addresses : Mapping → Mapping → Bool
same_addresses new old = cond (guest_physical new.kind) (guest_physical old.kind) (not (guest_physical old.kind))

unfoldable pub stale_here : Context → Mapping → Mapping → Bool
stale_here c new old =
    usable_tags c new
    && usable_tags c old
    && same_addresses new old
    && not (structure_cache new.kind || structure_cache old.kind)
    && covers new.span new.page (later_page new old)
    && covers old.span old.page (later_page new old)
    && not (eqb (old.frame + new.page) (new.frame + old.page))

unfoldable pub stale_cache_here : Context → Mapping → Mapping → Bool
stale_cache_here c new old =
    usable_tags c new
    && usable_tags c old
    && (structure_cache new.kind && structure_cache old.kind)
    && eqb old.kind new.kind
    && eqb old.span new.span
    && eqb old.page new.page
    && not (eqb old.frame new.frame)

-- what is stale when an event creates a mapping: the older ones that stand
unfoldable pub made_stale : (Context → Mapping → Mapping → Bool) → OwnedBook → Logged → List Owned
made_stale test d e =
    cond (accepts d.now e && mapping_kind (kind_of e.bytes))
    (those (λ l. test d.now.context (mapping e.bytes) (mapping_of l)) (standing_owned d.notes))
    []
