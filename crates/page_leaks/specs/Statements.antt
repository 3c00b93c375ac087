-- What is proved of another's page (issue 30, part 3). The proofs are in Laws.
use Rattle.std.specs.Prelude.{ℕ, Bool, true, false, List, [], ◌≡◌}
use Rattle.model.specs.declared.Context.{Context}
use Rattle.model.specs.declared.Address.{Address}
use Rattle.model.specs.Context.{in_guest}
use Rattle.model.specs.Layouts.{kind_of}
use Rattle.model.specs.Lookups.{usable}
use Rattle.laws.specs.Lists.{Every}
use Rattle.origins.specs.Standing.{Part}
use Rattle.leaks.specs.Moments.{Logged, Moment, occupant, Owned, mapping_of, OwnedBook, owned_start, owned_of, standing_owned}
use Rattle.page_leaks.specs.PageLeaks.{leads_to, last_to, PageLeak, page_leaks_here, page_leaks, page_begins}

module _ (shared : ℕ → Bool) where
  -- after every log the test is the definition
  pub record PageExactly (m : Moment) (notes : List Owned) (l : Owned) : Type 0 where
    pub sound : page_leaks_here shared m notes l ≡ true → PageLeak shared m notes l
    pub complete : PageLeak shared m notes l → page_leaks_here shared m notes l ≡ true

  abbrev pub page_leaks_exact : Type 0
  page_leaks_exact =
      (c : Context) (es : List Logged)
      → Every (PageExactly (owned_of (owned_start c) es).now (owned_of (owned_start c) es).notes) (standing_owned (owned_of (owned_start c) es).notes)

  -- it begins with a VM entry or kind 24 alone
  abbrev pub page_begins_by_entry_or_24 : Type 0
  page_begins_by_entry_or_24 =
      (d : OwnedBook) (e : Logged) → (kind_of e.bytes ≡ 20 → ⊥) → (kind_of e.bytes ≡ 24 → ⊥) → page_begins shared d e ≡ []

  -- none missed: with no such leak in a state, whatever part of the standing mappings a processor holds, a usable translation of
  -- whoever is in the guest leads to no frame that another was given since
  abbrev pub page_none_missed : Type 0
  page_none_missed =
      (d : OwnedBook) (held : List Owned)
      → Part held (standing_owned d.notes)
      → page_leaks shared d ≡ []
      → in_guest d.now.context.place ≡ true
      → Every
      (λ l.
      (a : Address)
      → usable d.now.context a (mapping_of l) ≡ true
      → l.owner ≡ occupant d.now
      → (f : ℕ)
      → leads_to f (mapping_of l) ≡ true
      → shared f ≡ false
      → last_to d.notes f ≡ occupant d.now)
      held
