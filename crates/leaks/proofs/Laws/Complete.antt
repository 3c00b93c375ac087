-- None missed: a processor that drops mappings holds a part of the standing notes.
use Rattle.std.specs.Prelude.{ℕ, suc, ◌≡◌, refl, Bool, true, false, cond, not, ◌&&◌, List, [], ◌∷◌, ◌++◌}
use Rattle.std.proofs.Common.{sym, ap, ◌∙◌, append-nil}
use Rattle.std.proofs.Math.Bool.{and-false}
use Rattle.std.proofs.lemmas.Bool.{false≢true, not-false}
use Rattle.model.specs.declared.Address.{Address}
use Rattle.model.specs.Context.{in_guest}
use Rattle.model.specs.Lookups.{usable}
use Rattle.model.specs.Steps.{in_scope}
use Rattle.laws.specs.Lists.{Every, none, more}
use Rattle.origins.proofs.Laws.Standing.{standing_of_append}
use Rattle.origins.proofs.Laws.Lists.{part_every, part_append, part_trans, part_remaining, part_those, those_all}
use Rattle.leaks.specs.Moments.{Logged, monitor, renter, same_owner, present, Moment, start, occupant, accepts, moment_after, Owned, owned_note, OwnedBook, owned_start, owned_after, standing_owned, mapping_of}
use Rattle.leaks.specs.Leaks.{usable_tags, leaks_here, leaks, begins, found}
use Rattle.origins.specs.Standing.{those, remaining, Part, done, standing_of, kept_by, made_by}
use Rattle.leaks.specs.Processors.{Processor, processor_start, processor_after, processor_without, processors}
use Rattle.leaks.specs.Statements.{OwnAlone, NoLeakMissed}
use Rattle.leaks.proofs.Laws.Usable.{usable_tagged}
use Rattle.origins.proofs.Laws.Lists.{every_those, those_fail, every_map}
use Rattle.leaks.proofs.Laws.Moments.{notes_refused, every_standing_after}
use Rattle.leaks.proofs.Laws.Leaks.{same_refl, same_true, present_host, Fits, fits_after, fits_begun, fits_usable}

-- the processor and the book
pub record With (p : Processor) (d : OwnedBook) : Type 0 where
  pub now : p.now ≡ d.now
  pub part : Part p.held (standing_owned d.notes)

pub with_without : (gone : List Bool) (p : Processor) (d : OwnedBook) → With p d → With (processor_without gone p) d
unfolding processor_without
with_without gone p d k = record { now = k.now; part = part_trans (part_remaining gone p.held) k.part }

pub with_after : (p : Processor) (d : OwnedBook) (e : Logged) → With p d → With (processor_after p e) (owned_after d e)
unfolding processor_after owned_after kept_by
with_after p d e k = record { now = ap (λ m. moment_after m e) k.now; part = go (accepts d.now e) refl }
  where
    out : Owned → Bool
    out l = not (in_scope (owned_note d.now e).note.context (owned_note d.now e).note.event l.note.event)

    go : (b : Bool) → accepts d.now e ≡ b → Part (processor_after p e).held (standing_owned (owned_after d e).notes)
    go true taken =
        rw (k.now, taken, standing_of_append (λ (l : Owned). l.note) d.notes (owned_note d.now e))
        (part_append (made_by (λ (l : Owned). l.note) (owned_note d.now e)) (part_those out k.part))
    go false left = rw (k.now, left, append-nil) k.part

-- a mapping that is no leak, and fits, is usable by its owner alone
pub owned : (m : Moment) (l : Owned) → Fits m l → leaks_here m l ≡ false → (a : Address) → usable m.context a (mapping_of l) ≡ true → l.owner ≡ occupant m
unfolding leaks_here occupant
owned m l k none_here a h = go (in_guest m.context.place) refl
  where
    tags : usable_tags m.context (mapping_of l) ≡ true
    tags = usable_tagged m.context (mapping_of l) a h

    go : (b : Bool) → in_guest m.context.place ≡ b → l.owner ≡ occupant m
    go true guest = same_true l.owner (occupant m) (not-false (same_owner l.owner (occupant m)) (rw (guest, tags) at none_here))
    go false guest =
        let host = same_true l.owner monitor (rw guest at (fits_usable m l k tags)) in
        host ∙ sym (same_true (occupant m) monitor (rw guest at (present_host m.context.place m.renter)))

-- no leak before an event, and none that begins with it: none after it
both_ways : (p : Owned → Bool) (ls : List Owned) → Every (λ l. p l ≡ true) ls → Every (λ l. p l ≡ false) ls → ls ≡ []
both_ways p [] h k = refl
both_ways p (l ∷ ls) (more h hs) (more k ks) = absurd (false≢true (sym k ∙ h))

not_own : (m : Moment) (e : Logged) → leaks_here m (owned_note m e) ≡ false
unfolding leaks_here owned_note
not_own m e = rw (same_refl (occupant m)) (and-false (in_guest m.context.place && usable_tags m.context (mapping_of (owned_note m e))))

pub leaks_after : (d : OwnedBook) (e : Logged) → leaks d ≡ [] → begins d e ≡ [] → leaks (owned_after d e) ≡ []
unfolding begins leaks
leaks_after d e before begun =
    both_ways (leaks_here d.now) (leaks (owned_after d e))
    (every_map (leaks (owned_after d e)) (λ l h. not-false (leaks_here d.now l) h) (those_fail (λ l. not (leaks_here d.now l)) (leaks (owned_after d e)) begun))
    (every_those (leaks_here (owned_after d e).now) (standing_owned (owned_after d e).notes) (λ l h leak. h) (go (accepts d.now e) refl))
  where
    clean : Every (λ l. leaks_here d.now l ≡ false) (standing_owned d.notes)
    clean = those_fail (leaks_here d.now) (standing_owned d.notes) before

    go : (b : Bool) → accepts d.now e ≡ b → Every (λ l. leaks_here d.now l ≡ false) (standing_owned (owned_after d e).notes)
    go true taken = every_standing_after d e taken (λ l h out. h) (λ made. not_own d.now e) clean
    go false left = rw (notes_refused d e left) clean

-- so each usable mapping that the processor holds is of who is there
pub own_alone : (p : Processor) (d : OwnedBook) → With p d → Every (Fits d.now) (standing_owned d.notes) → leaks d ≡ [] → OwnAlone p
unfolding OwnAlone leaks
own_alone p d k fits clean a =
    rw k.now
    (part_every k.part (each (standing_owned d.notes) fits (those_fail (leaks_here d.now) (standing_owned d.notes) clean)))
  where
    each : (ls : List Owned) → Every (Fits d.now) ls → Every (λ l. leaks_here d.now l ≡ false) ls
        → Every (λ l. usable d.now.context a (mapping_of l) ≡ true → l.owner ≡ occupant d.now) ls
    each [] f c = none
    each (l ∷ ls) (more f fs) (more c cs) = more (owned d.now l f c a) (each ls fs cs)

pub own_alone_throughout : (removals : ℕ → List Bool) (p : Processor) (d : OwnedBook) (es : List Logged) → With p d → Every (Fits d.now) (standing_owned d.notes) → leaks d ≡ []
    → Every (λ ls. ls ≡ []) (found d es)
    → Every OwnAlone (processors removals p es)
unfolding processors found
own_alone_throughout removals p d [] k fits clean all =
    more (own_alone p d k fits clean) (more (own_alone (processor_without (removals 0) p) d (with_without (removals 0) p d k) fits clean) none)
own_alone_throughout removals p d (e ∷ es) k fits clean (more begun all) =
    let kept = with_without (removals 0) p d k in
    more (own_alone p d k fits clean)
    (more (own_alone (processor_without (removals 0) p) d kept fits clean)
    (own_alone_throughout (λ n. removals (suc n)) (processor_after (processor_without (removals 0) p) e) (owned_after d e) es
    (with_after (processor_without (removals 0) p) d e kept) (fits_after d e fits) (leaks_after d e clean begun) all))

pub no_leak_missed_holds : NoLeakMissed
unfolding owned_start processor_start standing_of leaks those
no_leak_missed_holds c es all removals =
    own_alone_throughout removals (processor_start c) (owned_start c) es (record { now = refl; part = done }) (fits_begun c) refl all

-- ---- for a finder that keeps the standing notes and looks at VM entries and kind 24 alone

-- without removals a processor holds the standing mappings
pub holds_standing : (p : Processor) (d : OwnedBook) (e : Logged) → p.now ≡ d.now → p.held ≡ standing_owned d.notes
    → (processor_after p e).held ≡ standing_owned (owned_after d e).notes
unfolding processor_after owned_after
holds_standing p d e now held = rw (now, held) (go (accepts d.now e) refl)
  where
    go : (b : Bool) → accepts d.now e ≡ b
        → cond b (kept_by (λ (l : Owned). l.note) (owned_note d.now e).note (standing_owned d.notes) ++ made_by (λ (l : Owned). l.note) (owned_note d.now e)) (standing_owned d.notes)
        ≡ standing_owned (d.notes ++ cond b (owned_note d.now e ∷ []) [])
    go true taken = sym (standing_of_append (λ (l : Owned). l.note) d.notes (owned_note d.now e))
    go false left = rw append-nil

-- where no guest was there, all the leaks begin
pub begins_all : (d : OwnedBook) (e : Logged) → in_guest d.now.context.place ≡ false → begins d e ≡ leaks (owned_after d e)
unfolding begins leaks_here
begins_all d e out = those_all (λ l. not (leaks_here d.now l)) (leaks (owned_after d e)) (λ l. rw out)
