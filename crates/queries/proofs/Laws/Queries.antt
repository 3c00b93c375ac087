-- A query that asks what an event asks finds its scope.
use Rattle.std.specs.Prelude.{Bool, true, false, ◌&&◌, ◌≡◌, refl}
use Rattle.std.proofs.Common.{sym, ap, ◌∙◌}
use Rattle.model.specs.declared.Context.{Context}
use Rattle.model.specs.declared.Event.{Event}
use Rattle.model.specs.declared.Mapping.{Mapping}
use Rattle.model.specs.Layouts.{mapping_kind}
use Rattle.model.specs.Scopes.{passed, asked, has_scope, scope}
use Rattle.model.specs.declared.Reason.TheVariants.{WrongPcid, WrongEp4ta, NotCovering, SparedAsGlobal, InScope}
use Rattle.model.specs.Reasons.{unless, drops}
use Rattle.laws.specs.Reasons.{drops_first_failed}
use Rattle.laws.specs.Scopes.{scope_passed}
use Rattle.queries.specs.declared.Further.{Further}
use Rattle.queries.specs.declared.Query.{Query}
use Rattle.queries.specs.Queries.{of_pcid, of_ep4ta, at_page, not_spared, further_failed, further_passed, query_tests, Meets}

-- of an event that has a scope
pub passed_scope : (c : Context) (e : Event) (q : Query) → Meets (asked c e).tests q → has_scope c e ≡ true
    → (m : Mapping) → mapping_kind m.kind ≡ true
    → passed (query_tests q m) ≡ scope c e m
passed_scope c e q meets some m known =
    sym (drops_first_failed (query_tests q m))
    ∙ ap drops (meets.same m known)
    ∙ drops_first_failed ((asked c e).tests m)
    ∙ sym (scope_passed c e some m)

-- a mapping passes the further tests exactly if none of them is the first that fails
pub further_passed_failed : (f : Further) (m : Mapping) → drops (further_failed f m) ≡ further_passed f m
unfolding further_failed further_passed
further_passed_failed f m = go (of_pcid f m) (of_ep4ta f m) (at_page f m) (not_spared f m)
  where
    go : (pcid ep4ta page global : Bool)
        → drops (unless pcid WrongPcid (unless ep4ta WrongEp4ta (unless page NotCovering (unless global SparedAsGlobal InScope))))
        ≡ (pcid && ep4ta && page && global)
    go false ep4ta page global = refl
    go true false page global = refl
    go true true false global = refl
    go true true true false = refl
    go true true true true = refl
