-- The discipline that prevents leaks between two renters of one VPID and EP4TA.
use Rattle.std.specs.Prelude.{ℕ, refl, Bool, false, cond, not, ◌&&◌, ◌||◌, [], eqb}
use Rattle.std.proofs.Math.Path.{◌≡◌}
use Rattle.std.proofs.Common.{sym, ◌∙◌, eqb-true, ne_eqb}
use Rattle.std.proofs.Math.Bool.{true, and-false, and-eq-true_iff}
use Rattle.std.proofs.lemmas.Bool.{false≢true}
use native.Mathlib.Omega.{arith}
use Rattle.model.specs.declared.Context.{Context}
use Rattle.model.specs.declared.Ept.{Ept}
use Rattle.model.specs.declared.Ept.TheVariants.{Off, On}
use Rattle.model.specs.declared.Mapping.{Mapping}
use Rattle.model.specs.declared.Operands.{Operands}
use Rattle.model.specs.declared.Entry
use Rattle.model.specs.declared.Event.TheVariants.{Creation, Invvpid, Invept, Entry}
use Rattle.model.specs.Context.{in_guest}
use Rattle.model.specs.Layouts.{kind_of, mapping_kind}
use Rattle.model.specs.Mappings.{mapping, linear, guest_physical, global_translation}
use Rattle.model.specs.Events.{event}
use Rattle.model.specs.Scopes.{vpid_tagged, ep4ta_of, vpid_named, scope, has_scope, invvpid_tests, invept_tests, next_context, entered, is_current_ep4ta}
use Rattle.model.specs.Lookups.{translates_linear}
use Rattle.laws.specs.Lists.{Every, none}
use Rattle.laws.specs.Events.{event_creation}
use Rattle.leaks.specs.Moments.{Logged, Moment, accepts, Owned, owned_note, OwnedBook, owned_after, standing_owned, mapping_of}
use Rattle.leaks.specs.Leaks.{usable_tags, leaks_here, leaks}
use Rattle.leaks.specs.Mending.{Swept}
use Rattle.leaks.specs.Statements.{DisciplineAlways}
use Rattle.leaks.proofs.Laws.Usable.{translates_tagged, not_tagged}
use Rattle.leaks.proofs.Laws.Events.{host_tagged, Passes, created_host}
use Rattle.origins.proofs.Laws.Lists.{those_none, every_unit}
use Rattle.leaks.proofs.Laws.Moments.{notes_refused, every_standing_after}
use Rattle.leaks.proofs.Laws.Leaks.{accepted_passes, accepts_zero, moment_accepted}

-- what INVVPID and INVEPT of type 1 leave
invvpid_leaves : (c : Context) (o : Operands) (m : Mapping) → o.type_number ≡ 1 → scope c (Invvpid o) m ≡ false → vpid_tagged m ≡ true → eqb m.vpid (vpid_named o) ≡ false
unfolding scope has_scope invvpid_tests
invvpid_leaves c o m type out tagged = go (eqb m.vpid (vpid_named o)) (rw (type, tagged) at out)
  where
    go : (v : Bool) → (v && true && true && true && true) ≡ false → v ≡ false
    go true h = h
    go false h = refl

invept_leaves : (c : Context) (o : Operands) (m : Mapping) → o.type_number ≡ 1 → scope c (Invept o) m ≡ false → guest_physical m.kind ≡ true → eqb m.ep4ta (ep4ta_of o.low) ≡ false
unfolding scope has_scope invept_tests
invept_leaves c o m type out physical = go (eqb m.ep4ta (ep4ta_of o.low)) (rw (type, physical) at out)
  where
    go : (v : Bool) → (true && true && true && v && true && true) ≡ false → v ≡ false
    go true h = h
    go false h = refl

-- what is swept is not usable after an entry with that VPID, and that EP4TA or none
entered_unusable : (c : Context) (n : Entry.Entry) (ep4ta : ℕ) (l : Owned) → n.vpids ≡ 1 → (n.ept ≡ 1 → ep4ta_of n.eptp ≡ ep4ta) → Swept n.vpid ep4ta l
    → usable_tags (next_context c (Entry n)) (mapping_of l) ≡ false
unfolding usable_tags next_context entered
entered_unusable c n ep4ta l vpids ept k = rw vpids (go (translates_linear on (mapping_of l)) (eqb (mapping_of l).vpid n.vpid) (guest_physical (mapping_of l).kind) (is_current_ep4ta on (mapping_of l).ep4ta) (eqb (mapping_of l).pcid n.pcid || global_translation (mapping_of l)) vpid_differs ep4ta_differs)
  where
    on : Ept
    on = cond (eqb n.ept 1) (On (ep4ta_of n.eptp)) Off

    vpid_differs : translates_linear on (mapping_of l) ≡ true → eqb (mapping_of l).vpid n.vpid ≡ false
    vpid_differs h = k.tagged (translates_tagged on (mapping_of l) h)

    ep4ta_differs : guest_physical (mapping_of l).kind ≡ true → is_current_ep4ta on (mapping_of l).ep4ta ≡ false
    ep4ta_differs h = by_ept (eqb n.ept 1) refl
      where
        by_ept : (b : Bool) → eqb n.ept 1 ≡ b → is_current_ep4ta (cond b (On (ep4ta_of n.eptp)) Off) (mapping_of l).ep4ta ≡ false
        by_ept true is = rw (ept (eqb-true n.ept 1 is)) (k.physical h)
        by_ept false is = refl

    physical : (g x : Bool) → (g ≡ true → x ≡ false) → (g && x) ≡ false
    physical true x q = q refl
    physical false x q = refl

    go : (t v g x w : Bool) → (t ≡ true → v ≡ false) → (g ≡ true → x ≡ false) → ((v && w && t) || (g && x)) ≡ false
    go true v g x w p q = rw (p refl) (physical g x q)
    go false v g x w p q = rw (and-false (v && w)) (physical g x q)

-- the note of a mapping that is swept
note_swept : (vpid ep4ta : ℕ) (m : Moment) (e : Logged) → (vpid_tagged (mapping e.bytes) ≡ true → eqb (mapping e.bytes).vpid vpid ≡ false) × (guest_physical (mapping e.bytes).kind ≡ true → eqb (mapping e.bytes).ep4ta ep4ta ≡ false)
    → Swept vpid ep4ta (owned_note m e)
unfolding owned_note
note_swept vpid ep4ta m e both = record { tagged = both.0; physical = both.1 }

module _ (d : OwnedBook) (e : Logged) where
  context_after : accepts d.now e ≡ true → (owned_after d e).now.context ≡ next_context d.now.context (event e.bytes)
  unfolding owned_after
  context_after taken = rw (moment_accepted d.now e taken)

  -- an event that is none of a creation, and another, leave what they do not drop
  sweeps : (o o' : Operands) (e' : Logged) → accepts d.now e ≡ true → accepts (owned_after d e).now e' ≡ true
      → event e.bytes ≡ Invvpid o → o.type_number ≡ 1 → event e'.bytes ≡ Invept o' → o'.type_number ≡ 1
      → Every (Swept (vpid_named o) (ep4ta_of o'.low)) (standing_owned (owned_after (owned_after d e) e').notes)
  sweeps o o' e' taken taken' is type is' type' =
      every_standing_after (owned_after d e) e' taken'
      (λ l tagged out. record { tagged = tagged; physical = λ h. invept_leaves (owned_after d e).now.context o' (mapping_of l) type' (rw is' at out) h })
      (λ made. absurd (no_creation made is'))
      (every_standing_after d e taken
      (λ l u out h. invvpid_leaves d.now.context o (mapping_of l) type (rw is at out) h)
      (λ made. absurd (no_creation' made is))
      (every_unit (standing_owned d.notes)))
    where
      no_creation : mapping_kind (kind_of e'.bytes) ≡ true → event e'.bytes ≡ Invept o' → ⊥
      no_creation made is = let z : ◌≡◌ {A = ℕ} 0 1 = cc (event_creation e'.bytes made) in omega arith

      no_creation' : mapping_kind (kind_of e.bytes) ≡ true → event e.bytes ≡ Invvpid o → ⊥
      no_creation' made is = let z : ◌≡◌ {A = ℕ} 0 1 = cc (event_creation e.bytes made) in omega arith

  stays : (vpid ep4ta : ℕ) → (vpid ≡ 0 → ⊥) → in_guest d.now.context.place ≡ false → Every (Swept vpid ep4ta) (standing_owned d.notes)
      → Every (Swept vpid ep4ta) (standing_owned (owned_after d e).notes)
  stays vpid ep4ta some out all = go (accepts d.now e) refl
    where
      m : Mapping
      m = mapping e.bytes

      -- in root a mapping has the host's tags
      made : accepts d.now e ≡ true → mapping_kind (kind_of e.bytes) ≡ true → host_tagged m ≡ true
      made taken known =
          let passes : Passes d.now.context (Creation m) = rw (event_creation e.bytes known) at (accepted_passes d.now.context e.bytes (accepts_zero d.now e taken)) in
          created_host d.now.context m passes out

      swept : host_tagged m ≡ true → (vpid_tagged m ≡ true → eqb m.vpid vpid ≡ false) × (guest_physical m.kind ≡ true → eqb m.ep4ta ep4ta ≡ false)
      swept host =
          let both = (and-eq-true_iff (linear m.kind) (eqb m.vpid 0)).0 host in (
            λ h. ne_eqb m.vpid vpid (λ z. some (sym z ∙ eqb-true m.vpid 0 both.1)),
            λ h. absurd (false≢true (sym (not_tagged m.kind h) ∙ rw both.0)),
          )

      go : (b : Bool) → accepts d.now e ≡ b → Every (Swept vpid ep4ta) (standing_owned (owned_after d e).notes)
      go true taken =
          every_standing_after d e taken (λ l k out. k) (λ known. note_swept vpid ep4ta d.now e (swept (made taken known))) all
      go false left = rw (notes_refused d e left) all

  enters : (ep4ta : ℕ) (n : Entry.Entry) → event e.bytes ≡ Entry n → n.vpids ≡ 1 → (n.ept ≡ 1 → ep4ta_of n.eptp ≡ ep4ta)
      → Every (Swept n.vpid ep4ta) (standing_owned d.notes)
      → accepts d.now e ≡ true
      → leaks (owned_after d e) ≡ []
  unfolding leaks leaks_here
  enters ep4ta n is vpids ept all taken =
      those_none (leaks_here (owned_after d e).now)
      (every_standing_after d e taken (λ l k out. unused l k) (λ known. absurd (no_creation known is)) all)
    where
      no_creation : mapping_kind (kind_of e.bytes) ≡ true → event e.bytes ≡ Entry n → ⊥
      no_creation made is = let z : ◌≡◌ {A = ℕ} 0 1 = cc (event_creation e.bytes made) in omega arith

      unused : (l : Owned) → Swept n.vpid ep4ta l → leaks_here (owned_after d e).now l ≡ false
      unused l k = rw (context_after taken, is, entered_unusable d.now.context n ep4ta l vpids ept k, and-false (in_guest (next_context d.now.context (Entry n)).place))

pub discipline_holds : DisciplineAlways
discipline_holds d e = record { sweeps = sweeps d e; stays = stays d e; enters = enters d e }
