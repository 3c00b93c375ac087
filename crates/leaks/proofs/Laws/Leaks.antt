-- Leaks: when they begin, host and guests apart, and none missed.
use Rattle.std.specs.Prelude.{ℕ, suc, ◌≡◌, Bool, cond, ◌&&◌, ◌||◌, List, [], ◌∷◌, map, eqb}
use Rattle.std.proofs.Math.Path.{refl, ap}
use Rattle.std.proofs.Common.{sym, ◌∙◌, arith}
use Rattle.std.proofs.Math.Bool.{true, false, not, and-eq-true_iff}
use Rattle.std.proofs.lemmas.Bool.{false≢true}
use borrow.Author.Tests.{eq-eqb, eqb-true, eqb-false, ne_eqb, not-true}
use Rattle.model.specs.declared.Context.{Context}
use Rattle.model.specs.declared.Place.{Place}
use Rattle.model.specs.declared.Place.TheVariants.{Outside, Root, Guest}
use Rattle.model.specs.declared.Mapping.{Mapping}
use Rattle.model.specs.declared.Event.TheVariants.{Creation, Invvpid, Invept, Invlpg, EptViolation, Exit, Vmxon, Vmxoff, Reset, Invpcid, MovToCr3}
use Rattle.model.specs.Context.{in_guest, current_vpid, current_ept}
use Rattle.model.specs.Layouts.{kind_of, mapping_kind, Field, field}
use Rattle.model.specs.Mappings.{mapping, linear, guest_physical}
use Rattle.model.specs.Tables.{limit}
use Rattle.model.specs.Events.{event, operands, violation, entry}
use Rattle.model.specs.Scopes.{scope, next_context, is_current_ep4ta, current_pcid_or_global}
use Rattle.model.specs.Answers.{first, answer, table_grounds, event_answer}
use Rattle.model.specs.Steps.{in_scope}
use Rattle.model.specs.Lookups.{translates_linear, usable}
use Rattle.laws.specs.Lists.{Every, none}
use Rattle.laws.specs.Events.{event_creation}
use Rattle.laws.specs.Answers.{Accepted, accepted_parts, table_grounds_whole, answer_of_event}
use Rattle.roomy_runs.specs.Books.{roomy_answer}
use Rattle.leaks.specs.Moments.{Logged, Owner, monitor, renter, same_owner, present, Moment, start, occupant, accepts, moment_after, Owned, owned_note, OwnedBook, owned_start, owned_after, owned_of, standing_owned, mapping_of}
use Rattle.leaks.specs.Leaks.{usable_tags, leaks_here, leaks, begins}
use Rattle.origins.specs.Standing.{those, standing_of}
use Rattle.leaks.specs.Statements.{BeginsByEntryOr24, HostApart, HostApartAlways}
use Rattle.roomy_runs.proofs.Laws.Books.{empty_valid}
use Rattle.leaks.proofs.Laws.Usable.{usable_tagged, not_tagged}
use Rattle.leaks.proofs.Laws.Events.{lets_use, usable_before, host_tagged, vpidless, Passes, event_passes, vpidless_kept, created_host, created_guest}
use Rattle.origins.proofs.Laws.Lists.{every_unit, every_those, those_none, every_map}
use Rattle.leaks.proofs.Laws.Moments.{notes_refused, every_standing_after}

-- ---- an accepted event

pub accepted_passes : (c : Context) (e : List ℕ) → roomy_answer c e ≡ 0 → Passes c (event e)
unfolding roomy_answer first
accepted_passes c e h = event_passes c (event e) (go (eqb (event_answer c (event e)) 0) refl)
  where
    parts : Accepted c [] e limit
    parts = accepted_parts c [] e limit h

    passes : first (table_grounds c []) ≡ 0
    passes = rw (table_grounds_whole c [] (empty_valid c.linear_width) (omega arith), parts.context)

    go : (b : Bool) → eqb (event_answer c (event e)) 0 ≡ b → event_answer c (event e) ≡ 0
    go true is = eqb-true (event_answer c (event e)) 0 is
    go false is = sym (answer_of_event c [] e limit passes parts.valid (eqb-false (event_answer c (event e)) 0 is)) ∙ h

module _ (m : Moment) (e : Logged) where
  pub accepts_zero : accepts m e ≡ true → roomy_answer m.context e.bytes ≡ 0
  unfolding accepts
  accepts_zero h = eqb-true (roomy_answer m.context e.bytes) 0 h

  pub moment_accepted : accepts m e ≡ true
      → moment_after m e
      ≡ record {
        context = next_context m.context (event e.bytes);
        renter = cond (eqb (kind_of e.bytes) 20) e.renter m.renter;
        events = suc m.events;
      }
  unfolding moment_after
  moment_accepted h = rw h

  pub moment_refused : accepts m e ≡ false → moment_after m e ≡ record { context = m.context; renter = m.renter; events = suc m.events }
  unfolding moment_after
  moment_refused h = rw h

-- ---- who

pub same_refl : (w : Owner) → same_owner w w ≡ true
same_refl monitor = refl
same_refl (renter n) = eq-eqb n n refl

pub same_true : (v w : Owner) → same_owner v w ≡ true → v ≡ w
same_true monitor monitor h = refl
same_true monitor (renter n) h = absurd (false≢true h)
same_true (renter n) monitor h = absurd (false≢true h)
same_true (renter m) (renter n) h = ap renter (eqb-true m n h)

pub present_guest : (p : Place) (n : ℕ) → in_guest p ≡ true → present p n ≡ renter n
present_guest Outside n h = absurd (false≢true h)
present_guest Root n h = absurd (false≢true h)
present_guest (Guest g) n h = refl

pub present_host : (p : Place) (n : ℕ) → same_owner (present p n) monitor ≡ not (in_guest p)
present_host Outside n = refl
present_host Root n = refl
present_host (Guest g) n = refl

-- ---- (a) a leak begins with a VM entry or kind 24

pub lets_use_kind : (e : List ℕ) → (kind_of e ≡ 20 → ⊥) → (kind_of e ≡ 24 → ⊥) → lets_use (event e) ≡ false
unfolding event mapping
lets_use_kind e h k =
    rw (ne_eqb (kind_of e) 20 h, ne_eqb (kind_of e) 24 k)
    (go (mapping_kind (kind_of e)) (eqb (kind_of e) 16) (eqb (kind_of e) 17) (eqb (kind_of e) 18) (eqb (kind_of e) 19) (eqb (kind_of e) 21) (eqb (kind_of e) 22) (eqb (kind_of e) 23) (eqb (kind_of e) 26) (eqb (kind_of e) 27))
  where
    go : (a b c d f g i j l n : Bool)
        → lets_use
        (cond a (Creation (mapping e))
        (cond b (Invvpid (operands e))
        (cond c (Invept (operands e))
        (cond d (Invlpg (field Field.linear_address e))
        (cond f (EptViolation (violation e))
        (cond g (Exit (field Field.pcid e))
        (cond i Vmxon
        (cond j Vmxoff
        (cond l (Invpcid (operands e)) (cond n (MovToCr3 (field Field.pcid e)) Reset)))))))))) ≡ false
    go true b c d f g i j l n = rw (ne_eqb (kind_of e) 20 h, ne_eqb (kind_of e) 24 k)
    go false true c d f g i j l n = refl
    go false false true d f g i j l n = refl
    go false false false true f g i j l n = refl
    go false false false false true g i j l n = refl
    go false false false false false true i j l n = refl
    go false false false false false false true j l n = refl
    go false false false false false false false true l n = refl
    go false false false false false false false false true n = refl
    go false false false false false false false false false true = refl
    go false false false false false false false false false false = refl

-- a leak, taken apart and put together
pub leak_parts : (m : Moment) (l : Owned) → leaks_here m l ≡ true
    → (in_guest m.context.place ≡ true) × (usable_tags m.context (mapping_of l) ≡ true) × (same_owner l.owner (occupant m) ≡ false)
unfolding leaks_here
leak_parts m l h =
    let both = (and-eq-true_iff (in_guest m.context.place && usable_tags m.context (mapping_of l)) (not (same_owner l.owner (occupant m)))).0 h in
    let front = (and-eq-true_iff (in_guest m.context.place) (usable_tags m.context (mapping_of l))).0 both.0 in
    (front.0, front.1, not-true _ both.1)

pub leak_made : (m : Moment) (l : Owned) → in_guest m.context.place ≡ true → usable_tags m.context (mapping_of l) ≡ true → same_owner l.owner (occupant m) ≡ false
    → leaks_here m l ≡ true
unfolding leaks_here
leak_made m l g u s = rw (g, u, s)

-- what is a leak after an event of another kind was one before it
module _ (m : Moment) (e : Logged) (h : kind_of e.bytes ≡ 20 → ⊥) (k : kind_of e.bytes ≡ 24 → ⊥) where
  leak_before : accepts m e ≡ true → (l : Owned) → in_scope m.context e.bytes l.note.event ≡ false → leaks_here (moment_after m e) l ≡ true → leaks_here m l ≡ true
  unfolding occupant
  leak_before taken l out leak =
      let parts = leak_parts (moment_after m e) l leak in
      let now = moment_accepted m e taken in
      let guest : in_guest (next_context m.context (event e.bytes)).place ≡ true = rw now at parts.0 in
      let tags : usable_tags (next_context m.context (event e.bytes)) (mapping_of l) ≡ true = rw now at parts.1 in
      let before = usable_before m.context (event e.bytes) (mapping_of l) (lets_use_kind e.bytes h k) guest out tags in
      let other : same_owner l.owner (present (next_context m.context (event e.bytes)).place m.renter) ≡ false = rw (now, ne_eqb (kind_of e.bytes) 20 h) at parts.2 in
      leak_made m l before.0 before.1
      (rw (present_guest m.context.place m.renter before.0, ← present_guest (next_context m.context (event e.bytes)).place m.renter guest) other)

  -- a creation of who is there is none
  created_own : accepts m e ≡ true → mapping_kind (kind_of e.bytes) ≡ true → leaks_here (moment_after m e) (owned_note m e) ≡ true → leaks_here m (owned_note m e) ≡ true
  unfolding occupant owned_note next_context
  created_own taken made leak =
      let parts = leak_parts (moment_after m e) (owned_note m e) leak in
      let other : same_owner (present m.context.place m.renter) (present m.context.place m.renter) ≡ false =
      rw (moment_accepted m e taken, ne_eqb (kind_of e.bytes) 20 h, event_creation e.bytes made) at parts.2 in
      absurd (false≢true (sym other ∙ same_refl (present m.context.place m.renter)))

  leak_refused : accepts m e ≡ false → (l : Owned) → leaks_here (moment_after m e) l ≡ true → leaks_here m l ≡ true
  unfolding leaks_here occupant
  leak_refused left l leak = rw (moment_refused m e left) at leak

pub begins_by_entry_or_24_holds : BeginsByEntryOr24
unfolding begins leaks owned_after
begins_by_entry_or_24_holds d e h k = those_none (λ l. not (leaks_here d.now l)) (every_those (leaks_here (owned_after d e).now) (standing_owned (owned_after d e).notes) (λ l before leak. rw (before leak)) (go (accepts d.now e) refl))
  where
    Before : Owned → Type 0
    Before l = leaks_here (moment_after d.now e) l ≡ true → leaks_here d.now l ≡ true

    go : (b : Bool) → accepts d.now e ≡ b → Every Before (standing_owned (owned_after d e).notes)
    go true taken = every_standing_after d e taken (λ l u out. leak_before d.now e h k taken l out) (created_own d.now e h k taken) (every_unit (standing_owned d.notes))
    go false left = rw (notes_refused d e left) (every_map (standing_owned d.notes) (λ l u. leak_refused d.now e h k left l) (every_unit (standing_owned d.notes)))

-- ---- (c) host and guests apart

-- what is so of every standing mapping: the monitor's have the host's tags, and while no guest without a VPID is there, only they
pub record Fits (m : Moment) (l : Owned) : Type 0 where
  pub host : same_owner l.owner monitor ≡ true → host_tagged (mapping_of l) ≡ true
  pub guest : host_tagged (mapping_of l) ≡ true → same_owner l.owner monitor ≡ not (vpidless m.context.place)

module _ (m : Moment) (e : Logged) (taken : accepts m e ≡ true) where
  passes : Passes m.context (event e.bytes)
  passes = accepted_passes m.context e.bytes (accepts_zero m e taken)

  fits_kept : (l : Owned) → Fits m l → in_scope m.context e.bytes l.note.event ≡ false → Fits (moment_after m e) l
  fits_kept l k out =
      record {
        host = k.host;
        guest = λ host. rw (moment_accepted m e taken, vpidless_kept m.context (mapping_of l) host (event e.bytes) passes out) (k.guest host);
      }

  fits_made : mapping_kind (kind_of e.bytes) ≡ true → Fits (moment_after m e) (owned_note m e)
  unfolding owned_note occupant next_context
  fits_made made =
      let creation : Passes c (Creation n) = rw (event_creation e.bytes made) at passes in
      record {
        host = λ who. created_host c n creation (not-true (in_guest c.place) (sym (present_host c.place m.renter) ∙ who));
        guest = λ host. rw (moment_accepted m e taken, event_creation e.bytes made) (present_host c.place m.renter ∙ ap not (go (in_guest c.place) refl creation host));
      }
    where
      c : Context
      c = m.context

      n : Mapping
      n = mapping e.bytes

      go : (b : Bool) → in_guest c.place ≡ b → Passes c (Creation n) → host_tagged n ≡ true → in_guest c.place ≡ vpidless c.place
      go true is creation host = is ∙ sym (created_guest c n creation is host)
      go false is creation host = rw is

pub fits_after : (d : OwnedBook) (e : Logged) → Every (Fits d.now) (standing_owned d.notes) → Every (Fits (owned_after d e).now) (standing_owned (owned_after d e).notes)
unfolding owned_after
fits_after d e all = go (accepts d.now e) refl
  where
    refused : accepts d.now e ≡ false → (l : Owned) → Fits d.now l → Fits (moment_after d.now e) l
    refused left l k = record { host = k.host; guest = λ host. rw (moment_refused d.now e left) (k.guest host) }

    go : (b : Bool) → accepts d.now e ≡ b → Every (Fits (moment_after d.now e)) (standing_owned (owned_after d e).notes)
    go true taken = every_standing_after d e taken (fits_kept d.now e taken) (fits_made d.now e taken) all
    go false left = rw (notes_refused d e left) (every_map (standing_owned d.notes) (refused left) all)

pub fits_of : (d : OwnedBook) (es : List Logged) → Every (Fits d.now) (standing_owned d.notes) → Every (Fits (owned_of d es).now) (standing_owned (owned_of d es).notes)
unfolding owned_of
fits_of d [] all = all
fits_of d (e ∷ es) all = fits_of (owned_after d e) es (fits_after d e all)

pub fits_begun : (c : Context) → Every (Fits (owned_start c).now) (standing_owned (owned_start c).notes)
unfolding owned_start standing_of
fits_begun c = none

-- so a usable mapping is the monitor's exactly if no guest is there
pub fits_usable : (m : Moment) (l : Owned) → Fits m l → usable_tags m.context (mapping_of l) ≡ true → same_owner l.owner monitor ≡ not (in_guest m.context.place)
unfolding usable_tags translates_linear
fits_usable m l k tags = by_owner (same_owner l.owner monitor) (in_guest m.context.place) refl refl
  where
    n : Mapping
    n = mapping_of l

    place : Place
    place = m.context.place

    by_tags : (v pc li g : Bool) → ((v && pc && li) || (g && false)) ≡ true → (li && v) ≡ true
    by_tags true true true g h = refl
    by_tags true true false true h = h
    by_tags true true false false h = h
    by_tags true false li true h = absurd (false≢true h)
    by_tags true false li false h = absurd (false≢true h)
    by_tags false pc li true h = absurd (false≢true h)
    by_tags false pc li false h = absurd (false≢true h)

    by_vpid : (v x t g y : Bool) → (g ≡ true → ⊥) → ((v && x && t) || (g && y)) ≡ true → v ≡ true
    by_vpid true x t g y apart h = refl
    by_vpid false x t true y apart h = absurd (apart refl)
    by_vpid false x t false y apart h = h

    -- usable outside a guest: the host's tags
    outside_guest : (p : Place) → in_guest p ≡ false
        → ((eqb n.vpid (current_vpid p) && current_pcid_or_global m.context n && translates_linear (current_ept p) n)
        || (guest_physical n.kind && is_current_ep4ta (current_ept p) n.ep4ta)) ≡ true
        → host_tagged n ≡ true
    outside_guest Outside out = by_tags (eqb n.vpid 0) (current_pcid_or_global m.context n) (linear n.kind) (guest_physical n.kind)
    outside_guest Root out = by_tags (eqb n.vpid 0) (current_pcid_or_global m.context n) (linear n.kind) (guest_physical n.kind)
    outside_guest (Guest g) out = absurd (false≢true (sym out))

    -- usable with the host's tags: the current VPID is 0
    vpid_zero : host_tagged n ≡ true → eqb (current_vpid place) 0 ≡ true
    vpid_zero host =
        let both = (and-eq-true_iff (linear n.kind) (eqb n.vpid 0)).0 host in
        let apart : guest_physical n.kind ≡ true → ⊥ = λ is. false≢true (sym (not_tagged n.kind is) ∙ rw both.0) in
        let current = by_vpid (eqb n.vpid (current_vpid place)) (current_pcid_or_global m.context n) (translates_linear (current_ept place) n) (guest_physical n.kind) (is_current_ep4ta (current_ept place) n.ep4ta) apart tags in
        eq-eqb (current_vpid place) 0 (sym (eqb-true n.vpid (current_vpid place) current) ∙ eqb-true n.vpid 0 both.1)

    by_owner : (b g : Bool) → same_owner l.owner monitor ≡ b → in_guest place ≡ g → b ≡ not g
    by_owner true true is guest =
        let host = k.host is in
        let off : true ≡ not (vpidless place) = sym is ∙ k.guest host in
        rw (guest, vpid_zero host) at off
    by_owner true false is guest = refl
    by_owner false true is guest = refl
    by_owner false false is guest =
        let off : false ≡ not (vpidless place) = sym is ∙ k.guest (outside_guest place guest tags) in
        rw guest at off

pub host_apart_holds : HostApartAlways
unfolding HostApart
host_apart_holds c es =
    every_map (standing_owned (owned_of (owned_start c) es).notes)
    (λ l k a h. fits_usable (owned_of (owned_start c) es).now l k (usable_tagged (owned_of (owned_start c) es).now.context (mapping_of l) a h))
    (fits_of (owned_start c) es (fits_begun c))
