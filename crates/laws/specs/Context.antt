-- Contexts: an event of bytes leaves a context in its ranges.
use Rattle.std.specs.Prelude.{ℕ, ◌≤◌, ◌^◌, ◌≡◌, refl, Bool, true, false, cond, ◌&&◌, List, eqb, leb}
use Rattle.std.proofs.Math.Bool.{and-eq-true_iff}
use Rattle.std.proofs.Common.{arith, eqb-true, le-leb, lt-ltb}
use Rattle.model.specs.declared.Context.{Context}
use Rattle.model.specs.declared.Place.{Place}
use Rattle.model.specs.declared.Place.TheVariants.{Outside, Root}
use Rattle.model.specs.declared.Ept.TheVariants.{Off, On}
use Rattle.model.specs.declared.Entry
use Rattle.model.specs.declared.Event.{Event}
use Rattle.model.specs.declared.Event.TheVariants.{Creation, Invvpid, Invept, Invlpg, EptViolation, Entry, Exit, Vmxon, Vmxoff, NewPcid, Reset, Invpcid, MovToCr3}
use Rattle.model.specs.Context.{in_range, linear_width_in_range, pcid_in_range, cpl_in_range, ept_in_range, place_in_range, moved, after_reset}
use Rattle.model.specs.Layouts.{Field, field, kind_of, mapping_kind, body_of}
use Rattle.model.specs.Mappings.{mapping}
use Rattle.model.specs.Events.{event, operands, violation, entry, new_pcid, flag_in_range, event_in_range}
use Rattle.model.specs.Scopes.{entered, ep4ta_of, next_context}
use Rattle.laws.specs.Lists.{Bytes, getD_bytes}

-- what it is that a context is in its ranges, part by part
pub record InRange (c : Context) : Type 0 where
  pub low : leb 36 c.width ≡ true
  pub high : leb c.width 52 ≡ true
  pub linear_width : linear_width_in_range c.linear_width ≡ true
  pub pcid : pcid_in_range c.pcid ≡ true
  pub cpl : cpl_in_range c.cpl ≡ true
  pub place : place_in_range c.place ≡ true

pub in_range_parts : (c : Context) → in_range c ≡ true → InRange c
unfolding in_range
in_range_parts c h =
    let five = (and-eq-true_iff _ _).0 h in
    let four = (and-eq-true_iff _ _).0 five.0 in
    let three = (and-eq-true_iff _ _).0 four.0 in
    let two = (and-eq-true_iff _ _).0 three.0 in
    let one = (and-eq-true_iff _ _).0 two.0 in
    record { low = one.0; high = one.1; linear_width = two.1; pcid = three.1; cpl = four.1; place = five.1 }

pub in_range_moved : (c : Context) (pcid cpl : ℕ) (place : Place) → in_range c ≡ true → pcid_in_range pcid ≡ true → cpl_in_range cpl ≡ true
    → place_in_range place ≡ true
    → in_range (moved c pcid cpl place) ≡ true
unfolding in_range
in_range_moved c pcid cpl place h p q r =
    let parts = in_range_parts c h in
    rw (parts.low, parts.high, parts.linear_width, p, q, r)

-- the VPID that a VM entry of bytes names
vpid_of_entry : (e : List ℕ) → Bytes e → kind_of e ≡ 20 → (entry e).vpid ≤ 65535
unfolding entry field body_of
vpid_of_entry e bytes is = rw is (omega (arith, getD_bytes bytes 2, getD_bytes bytes 3))

-- a VM entry's VPID has two bytes
abbrev pub VpidInRange : Event → Type 0
VpidInRange (Creation m) = Unit {0}
VpidInRange (Invvpid o) = Unit {0}
VpidInRange (Invept o) = Unit {0}
VpidInRange (Invlpg address) = Unit {0}
VpidInRange (EptViolation v) = Unit {0}
VpidInRange (Entry n) = n.vpid ≤ 65535
VpidInRange (Exit pcid) = Unit {0}
VpidInRange Vmxon = Unit {0}
VpidInRange Vmxoff = Unit {0}
VpidInRange (NewPcid n) = Unit {0}
VpidInRange Reset = Unit {0}
VpidInRange (Invpcid o) = Unit {0}
VpidInRange (MovToCr3 pcid) = Unit {0}

pub vpid_of_event : (e : List ℕ) → Bytes e → VpidInRange (event e)
unfolding event
vpid_of_event e bytes =
    go (mapping_kind (kind_of e)) (eqb (kind_of e) 16) (eqb (kind_of e) 17) (eqb (kind_of e) 18) (eqb (kind_of e) 19)
    (eqb (kind_of e) 20) refl
  where
    -- no event behind a VM entry has a VPID
    behind : (h i j k l m : Bool)
        → VpidInRange
        (cond h (Exit (field Field.pcid e))
        (cond i Vmxon
        (cond j Vmxoff (cond k (NewPcid (new_pcid e)) (cond l (Invpcid (operands e)) (cond m (MovToCr3 (field Field.pcid e)) Reset))))))
    behind true i j k l m = tt
    behind false true j k l m = tt
    behind false false true k l m = tt
    behind false false false true l m = tt
    behind false false false false true m = tt
    behind false false false false false true = tt
    behind false false false false false false = tt

    rest : Event
    rest =
        cond (eqb (kind_of e) 21) (Exit (field Field.pcid e))
        (cond (eqb (kind_of e) 22) Vmxon
        (cond (eqb (kind_of e) 23) Vmxoff
        (cond (eqb (kind_of e) 24) (NewPcid (new_pcid e))
        (cond (eqb (kind_of e) 26) (Invpcid (operands e)) (cond (eqb (kind_of e) 27) (MovToCr3 (field Field.pcid e)) Reset)))))

    go : (a b c d f g : Bool) → eqb (kind_of e) 20 ≡ g
        → VpidInRange
        (cond a (Creation (mapping e))
        (cond b (Invvpid (operands e))
        (cond c (Invept (operands e))
        (cond d (Invlpg (field Field.linear_address e)) (cond f (EptViolation (violation e)) (cond g (Entry (entry e)) rest))))))
    go true b c d f g is = tt
    go false true c d f g is = tt
    go false false true d f g is = tt
    go false false false true f g is = tt
    go false false false false true g is = tt
    go false false false false false true is = vpid_of_entry e bytes (eqb-true (kind_of e) 20 is)
    go false false false false false false is =
        behind (eqb (kind_of e) 21) (eqb (kind_of e) 22) (eqb (kind_of e) 23) (eqb (kind_of e) 24) (eqb (kind_of e) 26) (eqb (kind_of e) 27)

entered_in_range : (n : Entry.Entry) → n.vpid ≤ 65535 → place_in_range (entered n) ≡ true
unfolding entered
entered_in_range n small = go (eqb n.vpids 1) (eqb n.ept 1)
  where
    go : (vpids ept : Bool) → (leb (cond vpids n.vpid 0) 65535 && ept_in_range (cond ept (On (ep4ta_of n.eptp)) Off)) ≡ true
    go true true = rw (le-leb n.vpid 65535 small) (lt-ltb (ep4ta_of n.eptp) (2 ^ 40) (omega arith))
    go true false = rw (le-leb n.vpid 65535 small)
    go false true = lt-ltb (ep4ta_of n.eptp) (2 ^ 40) (omega arith)
    go false false = refl

pub next_context_in_range : (c : Context) (w : ℕ) (e : Event) → VpidInRange e → event_in_range w e ≡ true → in_range c ≡ true → in_range (next_context c e) ≡ true
unfolding next_context event_in_range after_reset
next_context_in_range c w (Creation m) v fits h = h
next_context_in_range c w (Invvpid o) v fits h = h
next_context_in_range c w (Invept o) v fits h = h
next_context_in_range c w (Invlpg address) v fits h = h
next_context_in_range c w (EptViolation violation) v fits h = h
next_context_in_range c w (Entry n) v fits h =
    let flags = flag_in_range n.vpids && flag_in_range n.ept in
    let cpl = (and-eq-true_iff (flags && pcid_in_range n.pcid) (cpl_in_range n.cpl)).0 fits in
    let pcid = (and-eq-true_iff flags (pcid_in_range n.pcid)).0 cpl.0 in
    in_range_moved c n.pcid n.cpl (entered n) h pcid.1 cpl.1 (entered_in_range n v)
next_context_in_range c w (Exit pcid) v fits h = in_range_moved c pcid 0 Root h fits refl refl
next_context_in_range c w Vmxon v fits h =
    let parts = in_range_parts c h in
    in_range_moved c c.pcid c.cpl Root h parts.pcid parts.cpl refl
next_context_in_range c w Vmxoff v fits h =
    let parts = in_range_parts c h in
    in_range_moved c c.pcid c.cpl Outside h parts.pcid parts.cpl refl
next_context_in_range c w (NewPcid n) v fits h =
    let both = (and-eq-true_iff (pcid_in_range n.pcid) (cpl_in_range n.cpl)).0 fits in
    in_range_moved c n.pcid n.cpl c.place h both.0 both.1 (in_range_parts c h).place
next_context_in_range c w Reset v fits h = in_range_moved c 0 0 Outside h refl refl refl
next_context_in_range c w (Invpcid o) v fits h = h
next_context_in_range c w (MovToCr3 pcid) v fits h =
    let parts = in_range_parts c h in in_range_moved c pcid c.cpl c.place h fits parts.cpl parts.place

-- no event changes the linear width
pub linear_width_next : (c : Context) (e : Event) → (next_context c e).linear_width ≡ c.linear_width
unfolding next_context after_reset
linear_width_next c (Creation m) = refl
linear_width_next c (Invvpid o) = refl
linear_width_next c (Invept o) = refl
linear_width_next c (Invlpg address) = refl
linear_width_next c (EptViolation violation) = refl
linear_width_next c (Entry n) = refl
linear_width_next c (Exit pcid) = refl
linear_width_next c Vmxon = refl
linear_width_next c Vmxoff = refl
linear_width_next c (NewPcid n) = refl
linear_width_next c Reset = refl
linear_width_next c (Invpcid o) = refl
linear_width_next c (MovToCr3 pcid) = refl
