-- What a query asks of a mapping, as the tests of document 01's scopes.
use Rattle.std.specs.Prelude.{ℕ, ◌+◌, Bool, true, false, cond, not, ◌&&◌, ◌||◌, List, Option, Some, None, ◌≡◌, eqb}
use Rattle.model.specs.declared.Mapping.{Mapping}
use Rattle.model.specs.declared.Reason.{Reason}
use Rattle.model.specs.declared.Reason.TheVariants.{WrongPcid, WrongEp4ta, NotCovering, SparedAsGlobal, InScope}
use Rattle.model.specs.Bits.{bit, number}
use Rattle.model.specs.Layouts.{mapping_kind}
use Rattle.model.specs.Mappings.{mapping, Held, guest_physical, structure_cache, global_translation, covers}
use Rattle.model.specs.Scopes.{Tests}
use Rattle.model.specs.Reasons.{unless, first_failed}
use Rattle.queries.specs.declared.Tags.{Tags}
use Rattle.queries.specs.declared.Pages.{Pages}
use Rattle.queries.specs.declared.Further.{Further}
use Rattle.queries.specs.declared.Query.{Query}
use Rattle.queries.specs.declared.KindsByVpid.{KindsByVpid}

-- tags by their parts
abbrev pub touching : ℕ → Bool → Bool → Tags
touching tag same others = record { tag = tag; same = same; others = others }

-- any tag, one alone, any but one, and none
abbrev pub any : Tags
any = touching 0 true true

abbrev pub only : ℕ → Tags
only tag = touching tag true false

abbrev pub all_but : ℕ → Tags
all_but tag = touching tag false true

abbrev pub no_tags : Tags
no_tags = touching 0 false false

-- the tag is one of those
unfoldable pub touched : Tags → ℕ → Bool
touched tags tag = cond (eqb tag tags.tag) tags.same tags.others

-- what is asked holds, or nothing is asked
abbrev pub is_none_or : {A : Type 0} → Option A → (A → Bool) → Bool
is_none_or None test = true
is_none_or (Some a) test = test a

-- nothing is asked further
abbrev pub nothing_further : Further
nothing_further = record { pcid = any; global = false; ep4ta = any; page = None; sparing = false }

-- the further tests; a guest-physical mapping is asked for no VPID and no PCID, and a structure cache may be asked
-- for no page
unfoldable pub of_pcid : Further → Mapping → Bool
of_pcid f m = guest_physical m.kind || (touched f.pcid m.pcid || (f.global && global_translation m))

unfoldable pub of_ep4ta : Further → Mapping → Bool
of_ep4ta f m = touched f.ep4ta m.ep4ta

unfoldable pub covers_asked : Pages → Mapping → Bool
covers_asked p m =
    (not p.structures && structure_cache m.kind)
    || covers m.span m.page (cond (guest_physical m.kind) p.physical p.linear)

unfoldable pub at_page : Further → Mapping → Bool
at_page f m = is_none_or f.page (λ p. covers_asked p m)

unfoldable pub not_spared : Further → Mapping → Bool
not_spared f m = not (f.sparing && global_translation m)

-- the first that fails, and whether all are passed
unfoldable pub further_failed : Further → Mapping → Reason
further_failed f m =
    unless (of_pcid f m) WrongPcid
    (unless (of_ep4ta f m) WrongEp4ta (unless (at_page f m) NotCovering (unless (not_spared f m) SparedAsGlobal InScope)))

unfoldable pub further_passed : Further → Mapping → Bool
further_passed f m = of_pcid f m && of_ep4ta f m && at_page f m && not_spared f m

-- all tests of a query
unfoldable pub query_tests : Query → Mapping → Tests
query_tests q m =
    record {
      kind = bit m.kind q.kinds;
      vpid = guest_physical m.kind || touched q.vpid m.vpid;
      pcid = is_none_or q.further (λ f. of_pcid f m);
      ep4ta = is_none_or q.further (λ f. of_ep4ta f m);
      page = is_none_or q.further (λ f. at_page f m);
      global = is_none_or q.further (λ f. not_spared f m);
    }

-- of every mapping of a known kind the query's first failed test is that of the given tests
pub record Meets (tests : Mapping → Tests) (q : Query) : Type 0 where
  pub same : (m : Mapping) → mapping_kind m.kind ≡ true → first_failed (query_tests q m) ≡ first_failed (tests m)

-- the guest-physical kinds of a set of kinds, and what is left of it beside a tag that is touched or not
unfoldable pub guest_physical_of : ℕ → ℕ
guest_physical_of kinds = cond (bit 2 kinds) 4 0 + cond (bit 5 kinds) 32 0

unfoldable pub kinds_where : Bool → ℕ → ℕ
kinds_where tag kinds = cond tag kinds (guest_physical_of kinds)

-- the kinds beside a VPID
unfoldable pub kinds_with : KindsByVpid → ℕ → ℕ
kinds_with s vpid = cond (eqb vpid s.vpid) s.same s.others

-- of the record at the front; the VPID is read off the two bytes where linear and combined mappings have theirs
unfoldable pub of_kind_and_vpid : KindsByVpid → List ℕ → Bool
of_kind_and_vpid s r = bit (mapping r).kind (kinds_with s (number 2 1 r))

-- the kinds by VPID say of every held record what the query's tests of kind and VPID say
pub record Splits (q : Query) (s : KindsByVpid) : Type 0 where
  pub same : (r : List ℕ) → Held r → of_kind_and_vpid s r ≡ ((query_tests q (mapping r)).kind && (query_tests q (mapping r)).vpid)
