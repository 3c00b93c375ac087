-- What is proved of stale mappings: the tests on fields are the definitions, for valid mappings, and so after every log for every
-- two that stand. The proofs are in Laws.
use Rattle.std.specs.Prelude.{true, false, List, ◌≡◌}
use Rattle.model.specs.declared.Context.{Context}
use Rattle.model.specs.declared.Mapping.{Mapping}
use Rattle.model.specs.Mappings.{fields_in_range, other_width}
use Rattle.laws.specs.Lists.{Every}
use Rattle.leaks.specs.Moments.{Logged, mapping_of, owned_start, owned_of, standing_owned}
use Rattle.stale_mappings.specs.StaleMappings.{Stale, StaleCache, stale_here, stale_cache_here}

pub record StaleExactly (c : Context) (new old : Mapping) : Type 0 where
  pub sound : stale_here c new old ≡ true → Stale c new old
  pub complete : Stale c new old → stale_here c new old ≡ true
  pub sound_cache : stale_cache_here c new old ≡ true → StaleCache c new old
  pub complete_cache : StaleCache c new old → stale_cache_here c new old ≡ true

-- the mapping's fields are in their ranges, and it is of the context's linear width
pub record ValidMapping (c : Context) (m : Mapping) : Type 0 where
  pub fields : fields_in_range m ≡ true
  pub width : other_width c.linear_width m.kind ≡ false

abbrev pub StaleExact : Type 0
StaleExact = (c : Context) (new old : Mapping) → ValidMapping c new → ValidMapping c old → StaleExactly c new old

abbrev pub StaleExactInLogs : Type 0
StaleExactInLogs =
    (c : Context) (es : List Logged)
    → Every
    (λ new. Every (λ old. StaleExactly (owned_of (owned_start c) es).now.context (mapping_of new) (mapping_of old)) (standing_owned (owned_of (owned_start c) es).notes))
    (standing_owned (owned_of (owned_start c) es).notes)
