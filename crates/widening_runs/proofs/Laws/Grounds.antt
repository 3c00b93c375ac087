-- An event and its twin of 57 bits: it is valid, and has the same grounds, the same rule of an EPTP, and the same context
-- after it but for the width.
use Rattle.std.specs.Prelude.{ℕ, Bool, ◌&&◌, ◌||◌, List, [], ◌∷◌, ◌≡◌, eqb, length}
use Rattle.std.proofs.Math.Bool.{true, false, cond, not, and-eq-true_iff, false≢true}
use Rattle.std.proofs.Math.Path.{refl, sym, ap}
use Rattle.std.proofs.Common.{◌∙◌}
use borrow.Author.Tests.{not-true, eq-eqb}
use Rattle.std.proofs.Math.Dec.{ltb}
use Rattle.model.specs.declared.Context.{Context}
use Rattle.model.specs.declared.Mapping.{Mapping}
use Rattle.model.specs.declared.Event.{Event}
use Rattle.model.specs.declared.Event.TheVariants.{Creation, Invvpid, Invept, Invlpg, EptViolation, Entry, Exit, Vmxon, Vmxoff, NewPcid, Reset, Invpcid, MovToCr3}
use Rattle.model.specs.Bits.{bit}
use Rattle.model.specs.Context.{outside, in_guest, after_reset}
use Rattle.model.specs.Layouts.{kind_of, mapping_kind, event_kind, length_of}
use Rattle.model.specs.Mappings.{mapping, other_width, fields_in_range}
use Rattle.model.specs.Events.{canonical, guest_physical_in_range, flag_in_range, event, event_in_range, valid_event}
use Rattle.model.specs.Scopes.{next_context, scope}
use Rattle.model.specs.Answers.{among, bad_invvpid, bad_invept, bad_invpcid, good_eptp, eptp_rule, bad_entry, creatable, invalid_opcode, exits, general_protection, own_ground, own_rule, event_grounds}
use Rattle.model.specs.Reasons.{reason}
use Rattle.laws.specs.Layouts.{of_mapping_kind}
use Rattle.laws.specs.Mappings.{Valid, starts_parts, valid_starts, record_length_starts}
use Rattle.laws.specs.Events.{valid_event_parts, event_creation, event_creation_kind, creation_fields, creation_valid}
use Rattle.laws.specs.Answers.{OfWidth}
use Rattle.widening.specs.Widening.{widened}
use Rattle.widening.specs.Theorem.{with_width}
use Rattle.widening.proofs.Laws.Pages.{canonical_57}
use Rattle.widening.proofs.Laws.Tables.{Sibling, widened_sibling, widened_valid, widened_of_width}
use Rattle.widening_runs.specs.Simulation.{widened_event, canonical_where_looked_at}
use Rattle.widening_runs.proofs.Laws.Reasons.{reason_alike, scope_by_reason}

-- ---- the event of bytes and of the widened bytes

-- the same event, or the creations of a mapping and of its sibling
pub data Twins : Event → Event → Type 0 where
  same : (e : Event) → Twins e e
  created : {m n : Mapping} → Sibling m n → Twins (Creation m) (Creation n)

pub widened_creation : (e : List ℕ) → mapping_kind (kind_of e) ≡ true → widened_event e ≡ widened e
unfolding widened_event
widened_creation e known = rw known

pub widened_other_event : (e : List ℕ) → mapping_kind (kind_of e) ≡ false → widened_event e ≡ e
unfolding widened_event
widened_other_event e other = rw other

creations_are_events : (k : ℕ) → mapping_kind k ≡ true → event_kind k ≡ true
unfolding event_kind
creations_are_events k known = of_mapping_kind event_kind refl k known

-- an exactly valid record of a width is a valid creation at it
valid_creation : (w : ℕ) (r : List ℕ) → Valid r → OfWidth w r → valid_event w r ≡ true
unfolding valid_event event_in_range mapping
valid_creation w r v own =
    let starts = valid_starts r v in
    let parts = starts_parts r starts in
    let known = parts.held.known in
    let exact : length r ≡ length_of (kind_of r) = sym v.exact ∙ record_length_starts r starts in
    rw (creations_are_events (kind_of r) known, eq-eqb (length r) (length_of (kind_of r)) exact, event_creation r known)
    ((and-eq-true_iff (fields_in_range (mapping r)) (not (other_width w (kind_of r)))).1 (parts.fields, own))

-- the ranges of an event that is no creation are wider at 57 bits
in_range_57 : (e : Event) → ((m : Mapping) → e ≡ Creation m → ⊥) → event_in_range 48 e ≡ true → event_in_range 57 e ≡ true
unfolding event_in_range
in_range_57 (Creation m) other h = absurd (other m refl)
in_range_57 (Invvpid o) other h = h
in_range_57 (Invept o) other h = h
in_range_57 (Invlpg a) other h = h
in_range_57 (EptViolation v) other h =
    let front = guest_physical_in_range v.physical && flag_in_range v.flag in
    let both = (and-eq-true_iff front (eqb v.flag 0 || canonical 48 v.linear)).0 h in
    (and-eq-true_iff front (eqb v.flag 0 || canonical 57 v.linear)).1 (both.0, go (eqb v.flag 0) both.1)
  where
    go : (b : Bool) → (b || canonical 48 v.linear) ≡ true → (b || canonical 57 v.linear) ≡ true
    go true k = refl
    go false k = canonical_57 v.linear k
in_range_57 (Entry n) other h = h
in_range_57 (Exit pcid) other h = h
in_range_57 Vmxon other h = h
in_range_57 Vmxoff other h = h
in_range_57 (NewPcid n) other h = h
in_range_57 Reset other h = h
in_range_57 (Invpcid o) other h = h
in_range_57 (MovToCr3 pcid) other h = h

module _ (e : List ℕ) (valid : valid_event 48 e ≡ true) where
  pub creation_sibling : mapping_kind (kind_of e) ≡ true → Sibling (mapping e) (mapping (widened e))
  creation_sibling known = widened_sibling e (creation_valid 48 e valid known) (creation_fields 48 e valid known).1

  -- the widened event is valid at 57 bits
  pub widened_event_valid : valid_event 57 (widened_event e) ≡ true
  unfolding valid_event
  widened_event_valid = go (mapping_kind (kind_of e)) refl
    where
      go : (b : Bool) → mapping_kind (kind_of e) ≡ b → valid_event 57 (widened_event e) ≡ true
      go true known =
          let v = creation_valid 48 e valid known in
          let own = (creation_fields 48 e valid known).1 in
          rw (widened_creation e known) (valid_creation 57 (widened e) (widened_valid e v own) (widened_of_width e v own))
      go false other =
          let parts = valid_event_parts 48 e valid in
          rw (widened_other_event e other)
          (rw (parts.kind, eq-eqb (length e) (length_of (kind_of e)) parts.exact)
          (in_range_57 (event e) (λ m is. false≢true (sym other ∙ event_creation_kind e m is)) parts.fields))

  pub twin_events : Twins (event e) (event (widened_event e))
  unfolding mapping
  twin_events = go (mapping_kind (kind_of e)) refl
    where
      go : (b : Bool) → mapping_kind (kind_of e) ≡ b → Twins (event e) (event (widened_event e))
      go true known =
          let s = creation_sibling known in
          rw (widened_creation e known, event_creation e known, event_creation (widened e) s.sibling_known) (created s)
      go false other = rw (widened_other_event e other) (same (event e))

-- ---- the grounds of an event

-- no mapping's kind is that of an instruction
module _ (c : Context) (m : Mapping) (known : mapping_kind m.kind ≡ true) where
  creation_not_5 : invalid_opcode c (Creation m) ≡ false
  unfolding invalid_opcode
  creation_not_5 =
      not-true _
      (of_mapping_kind
      (λ k. not ((among k (16 ∷ 17 ∷ 20 ∷ 23 ∷ []) && outside c.place) || (eqb k 16 && not (bit 32 c.capability)) || (eqb k 17 && not (bit 20 c.capability))))
      refl m.kind known)

  creation_not_6 : exits c (Creation m) ≡ false
  unfolding exits
  creation_not_6 = not-true _ (of_mapping_kind (λ k. not (among k (16 ∷ 17 ∷ 20 ∷ 22 ∷ 23 ∷ []) && in_guest c.place)) refl m.kind known)

  creation_not_7 : general_protection c (Creation m) ≡ false
  unfolding general_protection
  creation_not_7 =
      not-true _
      (of_mapping_kind (λ k. not (among k (16 ∷ 17 ∷ 18 ∷ 20 ∷ 22 ∷ 23 ∷ 26 ∷ 27 ∷ []) && ltb 0 c.cpl)) refl m.kind known)

module _ (c : Context) where
  -- an address with type 0, canonical at 48 bits, is no ground at either width
  no_ground_of_address : (b : Bool) (a : ℕ) → cond b (canonical 48 a) true ≡ true → (b && not (canonical 57 a)) ≡ (b && not (canonical 48 a))
  no_ground_of_address true a here = rw (canonical_57 a here, here)
  no_ground_of_address false a here = refl

  creatable_alike : {m n : Mapping} → Sibling m n → creatable (with_width 57 c) n ≡ creatable (with_width 48 c) m
  unfolding creatable
  creatable_alike s = rw (s.is_linear, s.is_physical, s.is_combined, s.vpid, s.pcid, s.ep4ta)

  own_ground_same : (e : Event) → canonical_where_looked_at e ≡ true → own_ground (with_width 57 c) e ≡ own_ground (with_width 48 c) e
  unfolding own_ground canonical_where_looked_at creatable bad_invvpid bad_invept bad_invpcid bad_entry good_eptp
  own_ground_same (Creation m) here = refl
  own_ground_same (Invvpid o) here = rw (no_ground_of_address (eqb o.type_number 0) o.high here)
  own_ground_same (Invept o) here = refl
  own_ground_same (Invlpg a) here = refl
  own_ground_same (EptViolation v) here = refl
  own_ground_same (Entry n) here = refl
  own_ground_same (Exit pcid) here = refl
  own_ground_same Vmxon here = refl
  own_ground_same Vmxoff here = refl
  own_ground_same (NewPcid n) here = refl
  own_ground_same Reset here = refl
  own_ground_same (Invpcid o) here = rw (no_ground_of_address (eqb o.type_number 0) o.high here)
  own_ground_same (MovToCr3 pcid) here = refl

  own_ground_alike : {e e' : Event} → Twins e e' → canonical_where_looked_at e ≡ true → own_ground (with_width 57 c) e' ≡ own_ground (with_width 48 c) e
  unfolding own_ground
  own_ground_alike (same e) here = own_ground_same e here
  own_ground_alike (created s) here = ap (λ (b : Bool). cond (not b) 11 0) (creatable_alike s)

  five : {e e' : Event} → Twins e e' → invalid_opcode (with_width 57 c) e' ≡ invalid_opcode (with_width 48 c) e
  unfolding invalid_opcode
  five (same e) = refl
  five (created {m} {n} s) = creation_not_5 (with_width 57 c) n s.sibling_known ∙ sym (creation_not_5 (with_width 48 c) m s.known)

  six : {e e' : Event} → Twins e e' → exits (with_width 57 c) e' ≡ exits (with_width 48 c) e
  unfolding exits
  six (same e) = refl
  six (created {m} {n} s) = creation_not_6 (with_width 57 c) n s.sibling_known ∙ sym (creation_not_6 (with_width 48 c) m s.known)

  seven : {e e' : Event} → Twins e e' → general_protection (with_width 57 c) e' ≡ general_protection (with_width 48 c) e
  unfolding general_protection
  seven (same e) = refl
  seven (created {m} {n} s) = creation_not_7 (with_width 57 c) n s.sibling_known ∙ sym (creation_not_7 (with_width 48 c) m s.known)

  -- 5 to 11
  pub event_grounds_alike : {e e' : Event} → Twins e e' → canonical_where_looked_at e ≡ true
      → event_grounds (with_width 57 c) e' ≡ event_grounds (with_width 48 c) e
  unfolding event_grounds
  event_grounds_alike {e} {e'} twins here =
      rw (five twins, six twins, seven twins, own_ground_alike twins here)

  -- the rule of an EPTP
  pub own_rule_alike : {e e' : Event} → Twins e e' → own_rule (with_width 57 c) e' ≡ own_rule (with_width 48 c) e
  unfolding own_rule eptp_rule
  own_rule_alike (same e) = go e
    where
      go : (e : Event) → own_rule (with_width 57 c) e ≡ own_rule (with_width 48 c) e
      go (Creation m) = refl
      go (Invvpid o) = refl
      go (Invept o) = refl
      go (Invlpg a) = refl
      go (EptViolation v) = refl
      go (Entry n) = refl
      go (Exit pcid) = refl
      go Vmxon = refl
      go Vmxoff = refl
      go (NewPcid n) = refl
      go Reset = refl
      go (Invpcid o) = refl
      go (MovToCr3 pcid) = refl
  own_rule_alike (created s) = refl

  -- the context after it
  pub next_context_alike : {e e' : Event} → Twins e e' → next_context (with_width 57 c) e' ≡ with_width 57 (next_context (with_width 48 c) e)
  unfolding next_context after_reset
  next_context_alike (same e) = go e
    where
      go : (e : Event) → next_context (with_width 57 c) e ≡ with_width 57 (next_context (with_width 48 c) e)
      go (Creation m) = refl
      go (Invvpid o) = refl
      go (Invept o) = refl
      go (Invlpg a) = refl
      go (EptViolation v) = refl
      go (Entry n) = refl
      go (Exit pcid) = refl
      go Vmxon = refl
      go Vmxoff = refl
      go (NewPcid n) = refl
      go Reset = refl
      go (Invpcid o) = refl
      go (MovToCr3 pcid) = refl
  next_context_alike (created s) = refl

  -- the reason that it gives of a mapping's sibling
  module _ {m n : Mapping} (s : Sibling m n) where
    pub reason_of_twin : {e e' : Event} → Twins e e' → canonical_where_looked_at e ≡ true
        → reason (with_width 57 c) e' n ≡ reason (with_width 48 c) e m
    unfolding reason
    reason_of_twin (same e) here = reason_alike c s e here
    reason_of_twin (created t) here = refl

    pub scope_of_twin : {e e' : Event} → Twins e e' → canonical_where_looked_at e ≡ true
        → scope (with_width 57 c) e' n ≡ scope (with_width 48 c) e m
    scope_of_twin {e} {e'} twins here = scope_by_reason (with_width 48 c) (with_width 57 c) e e' m n (reason_of_twin twins here)
