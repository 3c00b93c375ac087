-- What is proved of leaks of the first sort, another's mapping (issue 30, part 3). The proofs are in Laws.
use Rattle.std.specs.Prelude.{ℕ, ◌≤◌, Bool, true, false, not, ◌&&◌, List, [], map, ◌≡◌, length}
use Rattle.model.specs.declared.Context.{Context}
use Rattle.model.specs.declared.Mapping.{Mapping}
use Rattle.model.specs.declared.Operands.{Operands}
use Rattle.model.specs.declared.Entry
use Rattle.model.specs.declared.Event.TheVariants.{Invvpid, Invept, Entry}
use Rattle.model.specs.declared.Address.{Address}
use Rattle.model.specs.Bits.{bit}
use Rattle.model.specs.Context.{in_range, in_guest}
use Rattle.model.specs.Layouts.{kind_of}
use Rattle.model.specs.Tables.{limit, joined}
use Rattle.model.specs.Events.{event}
use Rattle.model.specs.Scopes.{ep4ta_of, vpid_named, scope, next_context}
use Rattle.model.specs.Answers.{event_answer}
use Rattle.model.specs.Lookups.{usable, lookup}
use Rattle.laws.specs.Lists.{Every}
use Rattle.origins.specs.Origins.{Numbered, NumberedBook, numbered_start, numbered_of, standing_numbered}
use Rattle.leaks.specs.Moments.{Logged, monitor, same_owner, Moment, occupant, accepts, Owned, mapping_of, OwnedBook, owned_start, owned_after, owned_of, standing_owned}
use Rattle.leaks.specs.Leaks.{usable_tags, witness, Leak, leaks_here, leaks, begins, found}
use Rattle.leaks.specs.Processors.{Processor, processor_start, processors}
use Rattle.leaks.specs.Mending.{mending, Swept}

-- "Exact: what is reported after each event is the definition's list, and nothing else." A standing mapping is in `leaks`
-- exactly if it is a leak. "Shown: at the witness that very record is among the usable ones".
pub record Exactly (m : Moment) (l : Owned) : Type 0 where
  pub sound : leaks_here m l ≡ true → Leak m l
  pub complete : Leak m l → leaks_here m l ≡ true
  pub shown : leaks_here m l ≡ true → usable m.context (witness m.context (mapping_of l)) (mapping_of l) ≡ true

abbrev pub LeaksExact : Type 0
LeaksExact = (c : Context) (es : List Logged) → Every (Exactly (owned_of (owned_start c) es).now) (standing_owned (owned_of (owned_start c) es).notes)

-- the standing records as a table
abbrev pub owned_table : OwnedBook → List ℕ
owned_table d = joined (map (λ (l : Owned). l.note.event) (standing_owned d.notes))

-- "where the table is within document 01's limit, its lookup hands it back", for some k, in a context in its ranges
abbrev pub LookupShows : Type 0
LookupShows =
    (c : Context) (es : List Logged)
    → in_range (owned_of (owned_start c) es).now.context ≡ true
    → length (owned_table (owned_of (owned_start c) es)) ≤ limit
    → Every
    (λ l.
    leaks_here (owned_of (owned_start c) es).now l ≡ true
    → (k : ℕ)
    × (lookup (owned_of (owned_start c) es).now.context (witness (owned_of (owned_start c) es).now.context (mapping_of l)) (owned_table (owned_of (owned_start c) es)) k ≡ l.note.event))
    (standing_owned (owned_of (owned_start c) es).notes)

-- without owners it is the book that numbers (issue 39, part 3): its context, its count, its notes, and so its standing records
-- with their origins
abbrev pub numbered : Owned → Numbered
numbered l = record { note = l.note; number = l.number }

pub record Unowned (d : OwnedBook) (b : NumberedBook) : Type 0 where
  pub context : d.now.context ≡ b.context
  pub events : d.now.events ≡ b.events
  pub notes : map numbered d.notes ≡ b.notes
  pub standing : map numbered (standing_owned d.notes) ≡ standing_numbered b

abbrev pub UnownedAlways : Type 0
UnownedAlways = (c : Context) (es : List Logged) → Unowned (owned_of (owned_start c) es) (numbered_of (numbered_start c) (map (λ (e : Logged). e.bytes) es))

-- whatever address is looked up, each usable mapping was created by who is there
unfoldable pub OwnAlone : Processor → Type 0
OwnAlone p = (a : Address) → Every (λ l. usable p.now.context a (mapping_of l) ≡ true → l.owner ≡ occupant p.now) p.held

-- "Complete for every processor: if nothing is reported over a log, then in every run of the same events that also drops
-- mappings between steps, whichever they are, whatever address is looked up and after whichever event, every usable record
-- was created by who is there. No condition on room."
abbrev pub NoLeakMissed : Type 0
NoLeakMissed =
    (c : Context) (es : List Logged)
    → Every (λ ls. ls ≡ []) (found (owned_start c) es)
    → (removals : ℕ → List Bool)
    → Every OwnAlone (processors removals (processor_start c) es)

-- "When another's mapping can become usable: only with a VM entry or kind 24", in whatever state
abbrev pub BeginsByEntryOr24 : Type 0
BeginsByEntryOr24 =
    (d : OwnedBook) (e : Logged) → (kind_of e.bytes ≡ 20 → ⊥) → (kind_of e.bytes ≡ 24 → ⊥) → begins d e ≡ []

-- "From a reset a mapping of the monitor itself is never usable in a guest, nor one of a guest in root."
unfoldable pub HostApart : OwnedBook → Type 0
HostApart d =
    Every (λ l. (a : Address) → usable d.now.context a (mapping_of l) ≡ true → same_owner l.owner monitor ≡ not (in_guest d.now.context.place))
    (standing_owned d.notes)

abbrev pub HostApartAlways : Type 0
HostApartAlways = (c : Context) (es : List Logged) → HostApart (owned_of (owned_start c) es)

-- "Mended: where the processor has INVVPID and INVEPT with type 1 (capability bits 32, 41, 20, 25 ..), the invalidation that
-- is proposed for a leak, put just before the entry, is accepted there and has the mapping in its scope." The mapping may be
-- usable at once or later in that guest, with another PCID.
abbrev pub Mended : Type 0
Mended =
    (c later : Context) (n : Entry.Entry) (m : Mapping)
    → event_answer c (Entry n) ≡ 0
    → n.vpid ≤ 65535
    → (bit 20 c.capability && bit 25 c.capability && bit 32 c.capability && bit 41 c.capability) ≡ true
    → scope c (Entry n) m ≡ false
    → later.place ≡ (next_context c (Entry n)).place
    → usable_tags later m ≡ true
    → (event_answer c (mending n m) ≡ 0) × (scope c (mending n m) m ≡ true)

-- "after an accepted INVVPID of type 1 for its VPID, and INVEPT of type 1 for its EPTP, between the last exit of one renter and
-- the first entry of the next, the next one can use no mapping of the first": the two sweep, events in root and outside leave
-- it so, and who enters with that VPID, and that EP4TA or none, finds no mapping of another
pub record Discipline (d : OwnedBook) (e : Logged) : Type 0 where
  pub sweeps : (o o' : Operands) (e' : Logged)
      → accepts d.now e ≡ true
      → accepts (owned_after d e).now e' ≡ true
      → event e.bytes ≡ Invvpid o
      → o.type_number ≡ 1
      → event e'.bytes ≡ Invept o'
      → o'.type_number ≡ 1
      → Every (Swept (vpid_named o) (ep4ta_of o'.low)) (standing_owned (owned_after (owned_after d e) e').notes)
  pub stays : (vpid ep4ta : ℕ)
      → (vpid ≡ 0 → ⊥)
      → in_guest d.now.context.place ≡ false
      → Every (Swept vpid ep4ta) (standing_owned d.notes)
      → Every (Swept vpid ep4ta) (standing_owned (owned_after d e).notes)
  pub enters : (ep4ta : ℕ) (n : Entry.Entry)
      → event e.bytes ≡ Entry n
      → n.vpids ≡ 1
      → (n.ept ≡ 1 → ep4ta_of n.eptp ≡ ep4ta)
      → Every (Swept n.vpid ep4ta) (standing_owned d.notes)
      → accepts d.now e ≡ true
      → leaks (owned_after d e) ≡ []

abbrev pub DisciplineAlways : Type 0
DisciplineAlways = (d : OwnedBook) (e : Logged) → Discipline d e
