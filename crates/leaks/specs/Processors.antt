-- Issue 30, part 3: a processor, which may drop any of the mappings that it holds between two events.
use Rattle.std.specs.Prelude.{ℕ, suc, Bool, cond, List, [], ◌∷◌, ◌++◌}
use Rattle.model.specs.declared.Context.{Context}
use Rattle.origins.specs.Standing.{remaining, kept_by, made_by}
use Rattle.leaks.specs.Moments.{Logged, Moment, start, accepts, moment_after, Owned, owned_note}

pub record Processor : Type 0 where
  pub now : Moment
  pub held : List Owned

unfoldable pub processor_start : Context → Processor
processor_start c = record { now = start c; held = [] }

-- an accepted event leaves what is not in its scope; a creation is added
unfoldable pub processor_after : Processor → Logged → Processor
processor_after p e =
    record {
      now = moment_after p.now e;
      held =
          cond (accepts p.now e)
          (kept_by (λ (l : Owned). l.note) (owned_note p.now e).note p.held ++ made_by (λ (l : Owned). l.note) (owned_note p.now e))
          p.held;
    }

-- after a removal
unfoldable pub processor_without : List Bool → Processor → Processor
processor_without gone p = record { now = p.now; held = remaining gone p.held }

-- the processor before the first event and after each one, before and after the removal there; the n-th is removals n
unfoldable pub processors : (ℕ → List Bool) → Processor → List Logged → List Processor
processors removals p [] = p ∷ processor_without (removals 0) p ∷ []
processors removals p (e ∷ es) =
    p ∷ processor_without (removals 0) p ∷ processors (λ n. removals (suc n)) (processor_after (processor_without (removals 0) p) e) es
