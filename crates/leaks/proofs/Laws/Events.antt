-- What an accepted event makes usable: nothing, but for a VM entry and kind 24; and that host and guests stay apart.
use Rattle.std.specs.Prelude.{ℕ, ◌≡◌, Bool, cond, ◌&&◌, ◌||◌, [], ◌∷◌}
use Rattle.std.proofs.Math.Path.{refl, sym}
use Rattle.std.proofs.Common.{◌∙◌, arith, eq-eqb, eqb-true}
use Rattle.std.proofs.Math.Bool.{true, false, not, and-false, and-eq-true_iff}
use Rattle.std.proofs.lemmas.Bool.{false≢true}
use Rattle.std.proofs.Math.Dec.{eqb}
use Rattle.model.specs.declared.Context.{Context}
use Rattle.model.specs.declared.Place.{Place}
use Rattle.model.specs.declared.Place.TheVariants.{Outside, Root, Guest}
use Rattle.model.specs.declared.Entry
use Rattle.model.specs.declared.Mapping.{Mapping}
use Rattle.model.specs.declared.Event.{Event}
use Rattle.model.specs.declared.Event.TheVariants.{Creation, Invvpid, Invept, Invlpg, EptViolation, Entry, Exit, Vmxon, Vmxoff, NewPcid, Reset, Invpcid, MovToCr3}
use Rattle.model.specs.Context.{in_guest, current_vpid, current_ept, after_reset}
use Rattle.model.specs.Mappings.{linear, guest_physical, combined, global_translation}
use Rattle.model.specs.Scopes.{passed, vpid_tagged, is_current_ep4ta, has_scope, scope, entered, next_context, mov_to_cr3_tests, transition_tests}
use Rattle.model.specs.Answers.{among, kind_number, invalid_opcode, exits, general_protection, own_ground, event_answer, bad_entry, good_eptp, creatable, ept_in_use}
use Rattle.model.specs.Lookups.{translates_linear}
use Rattle.laws.specs.Answers.{event_answer_own}
use Rattle.leaks.specs.Leaks.{usable_tags}
use Rattle.leaks.proofs.Laws.Usable.{right, translates_tagged, not_tagged}

-- the event is a VM entry or of kind 24
abbrev pub lets_use : Event → Bool
lets_use e = among (kind_number e) (20 ∷ 24 ∷ [])

-- kind 27: what it makes current it drops, but for globals, which were usable before
mov_to_cr3_usable : (c : Context) (pcid : ℕ) (m : Mapping) → scope c (MovToCr3 pcid) m ≡ false → usable_tags (next_context c (MovToCr3 pcid)) m ≡ true
    → usable_tags c m ≡ true
unfolding scope has_scope next_context usable_tags mov_to_cr3_tests
mov_to_cr3_usable c pcid m =
    go (eqb m.vpid (current_vpid c.place)) (global_translation m) (eqb m.pcid pcid) (vpid_tagged m) (translates_linear (current_ept c.place) m)
    (guest_physical m.kind && is_current_ep4ta (current_ept c.place) m.ep4ta) (eqb m.pcid c.pcid) (translates_tagged (current_ept c.place) m)
  where
    go : (v g p k t q o : Bool) → (t ≡ true → k ≡ true) → (k && v && p && true && true && not g) ≡ false → ((v && (p || g) && t) || q) ≡ true
        → ((v && (o || g) && t) || q) ≡ true
    go false g p k t q o tagged out h = h
    go true true true k t q true tagged out h = h
    go true true true k t q false tagged out h = h
    go true true false k t q true tagged out h = h
    go true true false k t q false tagged out h = h
    go true false false k t q o tagged out h = rw h (right ((o || false) && t))
    go true false true true t q o tagged out h = absurd (false≢true (sym out))
    go true false true false true q o tagged out h = absurd (false≢true (tagged refl))
    go true false true false false q true tagged out h = h
    go true false true false false q false tagged out h = h

-- what is usable in a guest after any other event was so before
pub usable_before : (c : Context) (e : Event) (m : Mapping) → lets_use e ≡ false → in_guest (next_context c e).place ≡ true → scope c e m ≡ false
    → usable_tags (next_context c e) m ≡ true
    → (in_guest c.place ≡ true) × (usable_tags c m ≡ true)
unfolding next_context after_reset
usable_before c (Creation n) m other guest out h = (guest, h)
usable_before c (Invvpid o) m other guest out h = (guest, h)
usable_before c (Invept o) m other guest out h = (guest, h)
usable_before c (Invlpg address) m other guest out h = (guest, h)
usable_before c (EptViolation v) m other guest out h = (guest, h)
usable_before c (Entry n) m other guest out h = absurd (false≢true (sym other))
usable_before c (Exit pcid) m other guest out h = absurd (false≢true guest)
usable_before c Vmxon m other guest out h = absurd (false≢true guest)
usable_before c Vmxoff m other guest out h = absurd (false≢true guest)
usable_before c (NewPcid n) m other guest out h = absurd (false≢true (sym other))
usable_before c Reset m other guest out h = absurd (false≢true guest)
usable_before c (Invpcid o) m other guest out h = (guest, h)
usable_before c (MovToCr3 pcid) m other guest out h = (guest, mov_to_cr3_usable c pcid m out h)

-- ---- host and guests

-- the tags of the host's mappings: a linear mapping of VPID 0
abbrev pub host_tagged : Mapping → Bool
host_tagged m = linear m.kind && eqb m.vpid 0

-- a guest without a VPID is there
abbrev pub vpidless : Place → Bool
vpidless place = in_guest place && eqb (current_vpid place) 0

-- what an accepted event is
pub record Passes (c : Context) (e : Event) : Type 0 where
  pub exits : exits c e ≡ false
  pub own : own_ground c e ≡ 0

pub event_passes : (c : Context) (e : Event) → event_answer c e ≡ 0 → Passes c e
event_passes c e h = go (invalid_opcode c e) (exits c e) (general_protection c e) refl (sym (event_answer_own c e) ∙ h)
  where
    go : (five six seven : Bool) → exits c e ≡ six → cond five 5 (cond six 6 (cond seven 7 (own_ground c e))) ≡ 0 → Passes c e
    go true six seven is k = absurd (omega arith)
    go false true seven is k = absurd (omega arith)
    go false false true is k = absurd (omega arith)
    go false false false is k = record { exits = is; own = k }

-- an accepted event that leaves a mapping with the host's tags neither brings in nor lets out a guest without a VPID
module _ (c : Context) (m : Mapping) (host : host_tagged m ≡ true) where
  -- such a mapping is in the scope of a transition without VPIDs
  dropped : passed (transition_tests m) ≡ true
  unfolding transition_tests
  dropped =
      let both = (and-eq-true_iff (linear m.kind) (eqb m.vpid 0)).0 host in
      rw (both.0, both.1)

  not_vpidless : (place : Place) → in_guest place ≡ false → vpidless place ≡ false
  not_vpidless place h = rw h

  not_ten : (b : Bool) → ◌≡◌ {A = ℕ} (cond b 10 0) 0 → b ≡ false
  not_ten true h = absurd (omega arith)
  not_ten false h = refl

  vpidless_entered : (n : Entry.Entry) → Passes c (Entry n) → scope c (Entry n) m ≡ false → vpidless (entered n) ≡ false
  unfolding entered own_ground bad_entry scope has_scope
  vpidless_entered n k = go (eqb n.vpids 1) (eqb n.vpid 0) refl (not_ten (bad_entry c n) k.own)
    where
      go : (enabled zero : Bool) → eqb n.vpid 0 ≡ zero → ((enabled && zero) || (eqb n.ept 1 && not (good_eptp c n.eptp))) ≡ false
          → (not enabled && true && passed (transition_tests m)) ≡ false
          → eqb (cond enabled n.vpid 0) 0 ≡ false
      go true true is bad out = absurd (false≢true (sym bad))
      go true false is bad out = is
      go false zero is bad out = absurd (false≢true (sym out ∙ dropped))

  vpidless_left : (pcid : ℕ) → scope c (Exit pcid) m ≡ false → vpidless c.place ≡ false
  unfolding scope has_scope
  vpidless_left pcid = go (eqb (current_vpid c.place) 0) (in_guest c.place)
    where
      go : (zero guest : Bool) → (zero && true && passed (transition_tests m)) ≡ false → (guest && zero) ≡ false
      go true guest out = absurd (false≢true (sym out ∙ dropped))
      go false true out = refl
      go false false out = refl

  pub vpidless_kept : (e : Event) → Passes c e → scope c e m ≡ false → vpidless (next_context c e).place ≡ vpidless c.place
  unfolding next_context after_reset scope has_scope exits
  vpidless_kept (Creation n) k out = refl
  vpidless_kept (Invvpid o) k out = refl
  vpidless_kept (Invept o) k out = refl
  vpidless_kept (Invlpg address) k out = refl
  vpidless_kept (EptViolation v) k out = refl
  vpidless_kept (Entry n) k out = vpidless_entered n k out ∙ sym (not_vpidless c.place k.exits)
  vpidless_kept (Exit pcid) k out = sym (vpidless_left pcid out)
  vpidless_kept Vmxon k out = sym (not_vpidless c.place k.exits)
  vpidless_kept Vmxoff k out = sym (not_vpidless c.place k.exits)
  vpidless_kept (NewPcid n) k out = refl
  vpidless_kept Reset k out = absurd (false≢true (sym out))
  vpidless_kept (Invpcid o) k out = refl
  vpidless_kept (MovToCr3 pcid) k out = refl

-- ---- a creation: the monitor's has the host's tags, and a renter's has them only in a guest without a VPID
not_eleven : (b : Bool) → ◌≡◌ {A = ℕ} (cond (not b) 11 0) 0 → b ≡ true
not_eleven true h = refl
not_eleven false h = absurd (omega arith)

pub created_host : (c : Context) (m : Mapping) → Passes c (Creation m) → in_guest c.place ≡ false → host_tagged m ≡ true
unfolding own_ground creatable
created_host c m k out = at_place c.place out (not_eleven (creatable c m) k.own)
  where
    go : (l v p g co x y : Bool) → ((l && true && v && p) || (g && false) || (co && false && x && y)) ≡ true → (l && v) ≡ true
    go true true p g co x y h = refl
    go true false p true true x y h = h
    go true false p true false x y h = h
    go true false p false true x y h = h
    go true false p false false x y h = h
    go false v p true true x y h = h
    go false v p true false x y h = h
    go false v p false true x y h = h
    go false v p false false x y h = h

    at_place : (place : Place) → in_guest place ≡ false
        → ((linear m.kind && not (ept_in_use (current_ept place)) && eqb m.vpid (current_vpid place) && eqb m.pcid c.pcid)
        || (guest_physical m.kind && is_current_ep4ta (current_ept place) m.ep4ta)
        || (combined m.kind && is_current_ep4ta (current_ept place) m.ep4ta && eqb m.vpid (current_vpid place) && eqb m.pcid c.pcid)) ≡ true
        → host_tagged m ≡ true
    at_place Outside out = go (linear m.kind) (eqb m.vpid 0) (eqb m.pcid c.pcid) (guest_physical m.kind) (combined m.kind) (eqb m.vpid 0) (eqb m.pcid c.pcid)
    at_place Root out = go (linear m.kind) (eqb m.vpid 0) (eqb m.pcid c.pcid) (guest_physical m.kind) (combined m.kind) (eqb m.vpid 0) (eqb m.pcid c.pcid)
    at_place (Guest g) out = absurd (false≢true (sym out))

pub created_guest : (c : Context) (m : Mapping) → Passes c (Creation m) → in_guest c.place ≡ true → host_tagged m ≡ true → vpidless c.place ≡ true
unfolding own_ground creatable
created_guest c m k guest host = rw guest (eq-eqb (current_vpid c.place) 0 (sym (eqb-true m.vpid (current_vpid c.place) current) ∙ eqb-true m.vpid 0 both.1))
  where
    both : (linear m.kind ≡ true) × (eqb m.vpid 0 ≡ true)
    both = (and-eq-true_iff (linear m.kind) (eqb m.vpid 0)).0 host

    go : (v g l u p e co : Bool) → (g ≡ true → (l || co) ≡ false) → l ≡ true → ((l && u && v && p) || (g && e) || (co && e && v && p)) ≡ true → v ≡ true
    go true g l u p e co apart is h = refl
    go false true l u p e co apart is h = absurd (false≢true (sym (apart refl) ∙ rw is))
    go false false l u p e co apart is h = rw (and-false (l && u), and-false (co && e)) at h

    current : eqb m.vpid (current_vpid c.place) ≡ true
    current =
        go (eqb m.vpid (current_vpid c.place)) (guest_physical m.kind) (linear m.kind) (not (ept_in_use (current_ept c.place))) (eqb m.pcid c.pcid)
        (is_current_ep4ta (current_ept c.place) m.ep4ta) (combined m.kind) (not_tagged m.kind) both.0 (not_eleven (creatable c m) k.own)
