-- Issue 30, part 1: "A log comes with the number of the renter for each VM entry. Who is in the guest after an event; who owns
-- a mapping (who was in the guest when it was created; the monitor's own in root and outside)."
use Rattle.std.specs.Prelude.{ℕ, suc, Bool, true, false, cond, ◌&&◌, List, [], ◌∷◌, ◌++◌, eqb}
use Rattle.model.specs.declared.Context.{Context}
use Rattle.model.specs.declared.Place.{Place}
use Rattle.model.specs.declared.Place.TheVariants.{Outside, Root, Guest}
use Rattle.model.specs.declared.Mapping.{Mapping}
use Rattle.model.specs.Context.{after_reset}
use Rattle.model.specs.Layouts.{kind_of}
use Rattle.model.specs.Mappings.{mapping}
use Rattle.model.specs.Events.{event}
use Rattle.model.specs.Scopes.{next_context}
use Rattle.runs.specs.Book.{Note}
use Rattle.roomy_runs.specs.Books.{roomy_answer}
use Rattle.origins.specs.Standing.{standing_of}

-- an event of a log, and the number of the renter that comes with it: only a VM entry looks at that
pub record Logged : Type 0 where
  pub bytes : List ℕ
  pub renter : ℕ

-- the monitor, or a renter by number
pub data Owner : Type 0 where
  monitor : Owner
  renter : ℕ → Owner

abbrev pub same_owner : Owner → Owner → Bool
same_owner monitor monitor = true
same_owner monitor (renter n) = false
same_owner (renter m) monitor = false
same_owner (renter m) (renter n) = eqb m n

-- who is there, by the place and the renter of the last VM entry: the monitor in root and outside
abbrev pub present : Place → ℕ → Owner
present Outside n = monitor
present Root n = monitor
present (Guest g) n = renter n

-- what is so at a time of a log, whatever is cached: the context in force, the renter of the last accepted VM entry, and how
-- many events there were
pub record Moment : Type 0 where
  pub context : Context
  pub renter : ℕ
  pub events : ℕ

unfoldable pub start : Context → Moment
start c = record { context = after_reset c; renter = 0; events = 0 }

unfoldable pub occupant : Moment → Owner
occupant m = present m.context.place m.renter

-- the event is accepted, by the book with room
unfoldable pub accepts : Moment → Logged → Bool
accepts m e = eqb (roomy_answer m.context e.bytes) 0

unfoldable pub moment_after : Moment → Logged → Moment
moment_after m e =
    record {
      context = cond (accepts m e) (next_context m.context (event e.bytes)) m.context;
      renter = cond (accepts m e && eqb (kind_of e.bytes) 20) e.renter m.renter;
      events = suc m.events;
    }

-- an accepted event: its note, its number in the log from 1 (issue 39, part 3), and who was there just before it, who owns the
-- mapping if it is a creation
pub record Owned : Type 0 where
  pub note : Note
  pub number : ℕ
  pub owner : Owner

unfoldable pub owned_note : Moment → Logged → Owned
owned_note m e = record { note = record { context = m.context; event = e.bytes }; number = suc m.events; owner = occupant m }

-- the mapping of a noted creation
abbrev pub mapping_of : Owned → Mapping
mapping_of l = mapping l.note.event

-- the book with room, with numbers and owners
pub record OwnedBook : Type 0 where
  pub now : Moment
  pub notes : List Owned

unfoldable pub owned_start : Context → OwnedBook
owned_start c = record { now = start c; notes = [] }

unfoldable pub owned_after : OwnedBook → Logged → OwnedBook
owned_after d e = record { now = moment_after d.now e; notes = d.notes ++ cond (accepts d.now e) (owned_note d.now e ∷ []) [] }

unfoldable pub owned_of : OwnedBook → List Logged → OwnedBook
owned_of d [] = d
owned_of d (e ∷ es) = owned_of (owned_after d e) es

-- the standing mappings, each with its origin and its owner
abbrev pub standing_owned : List Owned → List Owned
standing_owned ls = standing_of (λ (l : Owned). l.note) ls
