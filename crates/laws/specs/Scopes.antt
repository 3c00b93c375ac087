-- Scopes: the two parts of the question, what is asked of the event and what of the mapping.
use Rattle.std.specs.Prelude.{true, false, ◌≡◌}
use Rattle.model.specs.declared.Context.{Context}
use Rattle.model.specs.declared.Event.{Event}
use Rattle.model.specs.declared.Mapping.{Mapping}
use Rattle.model.specs.Scopes.{passed, asked, has_scope, scope}

module _ (c : Context) (e : Event) where
  -- no mapping is in the scope of an event that has none
  pub out_of_scope : has_scope c e ≡ false → (m : Mapping) → scope c e m ≡ false
  unfolding scope
  out_of_scope none m = rw none

  -- the mappings that pass the tests are in the scope of an event that has one
  pub scope_passed : has_scope c e ≡ true → (m : Mapping) → scope c e m ≡ passed ((asked c e).tests m)
  unfolding scope
  scope_passed some m = rw some
