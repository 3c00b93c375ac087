-- An event says of a mapping's 57-bit sibling what it says of the mapping: the same reason, and so the same scope.
use Rattle.std.specs.Prelude.{ℕ, Bool, ◌&&◌, ◌||◌, ◌≡◌, leb}
use Rattle.std.proofs.Math.Bool.{true, false, cond, not, and-eq-true_iff}
use Rattle.std.proofs.Math.Path.{refl, ap}
use Rattle.std.proofs.Common.{sym, ap₂, ◌∙◌}
use Rattle.std.proofs.Math.Dec.{eqb}
use Rattle.model.specs.declared.Context.{Context}
use Rattle.model.specs.declared.Mapping.{Mapping}
use Rattle.model.specs.declared.Operands.{Operands}
use Rattle.model.specs.declared.Violation.{Violation}
use Rattle.model.specs.declared.Event.{Event}
use Rattle.model.specs.declared.Event.TheVariants.{Creation, Invvpid, Invept, Invlpg, EptViolation, Entry, Exit, Vmxon, Vmxoff, NewPcid, Reset, Invpcid, MovToCr3}
use Rattle.model.specs.Context.{current_vpid, current_ept}
use Rattle.model.specs.Mappings.{linear, guest_physical, combined, global_translation}
use Rattle.model.specs.Events.{canonical, covers_linear}
use Rattle.model.specs.Scopes.{Tests, vpid_tagged, ep4ta_of, is_current_ep4ta, vpid_named, pcid_named, invvpid_tests, invept_tests, invlpg_tests, guest_physical_violation_tests, combined_violation_tests, violation_tests, transition_tests, invpcid_tests, mov_to_cr3_tests, scope}
use Rattle.model.specs.Reasons.{first_failed, drops, reason}
use Rattle.laws.specs.Reasons.{drops_reason}
use Rattle.widening.specs.Theorem.{with_width}
use Rattle.widening.proofs.Laws.Pages.{canonical_57}
use Rattle.widening.proofs.Laws.Tables.{Sibling}
use Rattle.widening_runs.specs.Simulation.{canonical_where_looked_at}

-- tests that agree on the kind, and on all else where the kind passes, fail alike
first_failed_alike : (k : Bool) (t t' : Tests) → t.kind ≡ k → t'.kind ≡ k → (k ≡ true → t' ≡ t) → first_failed t' ≡ first_failed t
unfolding first_failed
first_failed_alike true t t' p q same = ap first_failed (same refl)
first_failed_alike false t t' p q same = rw (p, q)

module _ (c : Context) {m n : Mapping} (s : Sibling m n) where
  tagged_alike : vpid_tagged n ≡ vpid_tagged m
  tagged_alike = ap₂ (λ (a b : Bool). a || b) s.is_linear s.is_combined

  global_alike : global_translation n ≡ global_translation m
  global_alike = ap₂ (λ (a : Bool) (g : ℕ). a && eqb g 1) s.is_marked s.global

  -- the cover test, where an event puts it
  covering_if : (b : Bool) (a : ℕ) → cond b (canonical 48 a) true ≡ true → vpid_tagged m ≡ true
      → cond b (covers_linear 57 a n) true ≡ cond b (covers_linear 48 a m) true
  covering_if true a here tagged = s.covering tagged a here
  covering_if false a here tagged = refl

  invvpid_alike : (o : Operands) → cond (eqb o.type_number 0) (canonical 48 o.high) true ≡ true
      → first_failed (invvpid_tests (with_width 57 c) o n) ≡ first_failed (invvpid_tests (with_width 48 c) o m)
  unfolding invvpid_tests
  invvpid_alike o here =
      first_failed_alike (vpid_tagged m) (invvpid_tests (with_width 48 c) o m) (invvpid_tests (with_width 57 c) o n) refl tagged_alike (λ tagged i.
      record {
        kind = tagged_alike i;
        vpid = ap (λ (v : ℕ). cond (eqb o.type_number 2) (not (eqb v 0)) (eqb v (vpid_named o))) s.vpid i;
        pcid = true;
        ep4ta = true;
        page = covering_if (eqb o.type_number 0) o.high here tagged i;
        global = ap (λ (g : Bool). cond (leb o.type_number 2) true (not g)) global_alike i;
      })

  invpcid_alike : (o : Operands) → cond (eqb o.type_number 0) (canonical 48 o.high) true ≡ true
      → first_failed (invpcid_tests (with_width 57 c) o n) ≡ first_failed (invpcid_tests (with_width 48 c) o m)
  unfolding invpcid_tests
  invpcid_alike o here =
      first_failed_alike (vpid_tagged m) (invpcid_tests (with_width 48 c) o m) (invpcid_tests (with_width 57 c) o n) refl tagged_alike (λ tagged i.
      record {
        kind = tagged_alike i;
        vpid = eqb (s.vpid i) (current_vpid c.place);
        pcid = cond (leb o.type_number 1) (eqb (s.pcid i) (pcid_named o)) true;
        ep4ta = true;
        page = covering_if (eqb o.type_number 0) o.high here tagged i;
        global = cond (eqb o.type_number 2) true (not (global_alike i));
      })

  invlpg_alike : (a : ℕ) → canonical 48 a ≡ true
      → first_failed (invlpg_tests (with_width 57 c) a n) ≡ first_failed (invlpg_tests (with_width 48 c) a m)
  unfolding invlpg_tests
  invlpg_alike a here =
      first_failed_alike (vpid_tagged m) (invlpg_tests (with_width 48 c) a m) (invlpg_tests (with_width 57 c) a n) refl tagged_alike (λ tagged i.
      record {
        kind = tagged_alike i;
        vpid = eqb (s.vpid i) (current_vpid c.place);
        pcid = eqb (s.pcid i) c.pcid || global_alike i;
        ep4ta = true;
        page = s.is_cache i || s.covering tagged a here i;
        global = true;
      })

  invept_alike : (o : Operands) → first_failed (invept_tests o n) ≡ first_failed (invept_tests o m)
  unfolding invept_tests
  invept_alike o =
      ap first_failed (λ i.
      record {
        kind = s.is_physical i || s.is_combined i;
        vpid = true;
        pcid = true;
        ep4ta = cond (eqb o.type_number 1) (eqb (s.ep4ta i) (ep4ta_of o.low)) true;
        page = true;
        global = true;
      })

  transition_alike : first_failed (transition_tests n) ≡ first_failed (transition_tests m)
  unfolding transition_tests
  transition_alike =
      ap first_failed
      (λ i. record { kind = tagged_alike i; vpid = eqb (s.vpid i) 0; pcid = true; ep4ta = true; page = true; global = true })

  mov_to_cr3_alike : (pcid : ℕ) → first_failed (mov_to_cr3_tests (with_width 57 c) pcid n) ≡ first_failed (mov_to_cr3_tests (with_width 48 c) pcid m)
  unfolding mov_to_cr3_tests
  mov_to_cr3_alike pcid =
      ap first_failed (λ i.
      record {
        kind = tagged_alike i;
        vpid = eqb (s.vpid i) (current_vpid c.place);
        pcid = eqb (s.pcid i) pcid;
        ep4ta = true;
        page = true;
        global = not (global_alike i);
      })

  -- the two sentences of an EPT violation
  guest_physical_violation_alike : (v : Violation)
      → first_failed (guest_physical_violation_tests (with_width 57 c) v n) ≡ first_failed (guest_physical_violation_tests (with_width 48 c) v m)
  unfolding guest_physical_violation_tests
  guest_physical_violation_alike v =
      first_failed_alike (guest_physical m.kind) (guest_physical_violation_tests (with_width 48 c) v m) (guest_physical_violation_tests (with_width 57 c) v n) refl s.is_physical (λ physical i.
      record {
        kind = s.is_physical i;
        vpid = true;
        pcid = true;
        ep4ta = is_current_ep4ta (current_ept c.place) (s.ep4ta i);
        page = s.covering_physical physical v.physical i;
        global = true;
      })

  combined_violation_alike : (v : Violation) → cond (eqb v.flag 1) (canonical 48 v.linear) true ≡ true
      → first_failed (combined_violation_tests (with_width 57 c) v n) ≡ first_failed (combined_violation_tests (with_width 48 c) v m)
  unfolding combined_violation_tests
  combined_violation_alike v here =
      let kind_alike : (eqb v.flag 1 && combined n.kind) ≡ (eqb v.flag 1 && combined m.kind) = ap (λ (b : Bool). eqb v.flag 1 && b) s.is_combined in
      first_failed_alike (eqb v.flag 1 && combined m.kind) (combined_violation_tests (with_width 48 c) v m) (combined_violation_tests (with_width 57 c) v n) refl kind_alike (λ holds i.
      record {
        kind = kind_alike i;
        vpid = eqb (s.vpid i) (current_vpid c.place);
        pcid = eqb (s.pcid i) c.pcid;
        ep4ta = is_current_ep4ta (current_ept c.place) (s.ep4ta i);
        page = page_alike holds i;
        global = true;
      })
    where
      page_alike : (eqb v.flag 1 && combined m.kind) ≡ true → covers_linear 57 v.linear n ≡ covers_linear 48 v.linear m
      page_alike holds =
          let both = (and-eq-true_iff (eqb v.flag 1) (combined m.kind)).0 holds in
          let looked : canonical 48 v.linear ≡ true = rw both.0 at here in
          s.covering (tagged (linear m.kind) both.1) v.linear looked
        where
          tagged : (b : Bool) → combined m.kind ≡ true → (b || combined m.kind) ≡ true
          tagged true is = refl
          tagged false is = is

  violation_alike : (v : Violation) → cond (eqb v.flag 1) (canonical 48 v.linear) true ≡ true
      → first_failed (violation_tests (with_width 57 c) v n) ≡ first_failed (violation_tests (with_width 48 c) v m)
  unfolding violation_tests
  violation_alike v here = rw s.is_physical (go (guest_physical m.kind))
    where
      go : (b : Bool)
          → first_failed (cond b (guest_physical_violation_tests (with_width 57 c) v n) (combined_violation_tests (with_width 57 c) v n))
          ≡ first_failed (cond b (guest_physical_violation_tests (with_width 48 c) v m) (combined_violation_tests (with_width 48 c) v m))
      go true = guest_physical_violation_alike v
      go false = combined_violation_alike v here

  -- the reason that an event gives
  pub reason_alike : (e : Event) → canonical_where_looked_at e ≡ true → reason (with_width 57 c) e n ≡ reason (with_width 48 c) e m
  unfolding reason canonical_where_looked_at
  reason_alike (Creation created) here = refl
  reason_alike (Invvpid o) here = invvpid_alike o here
  reason_alike (Invept o) here = invept_alike o
  reason_alike (Invlpg a) here = rw (canonical_57 a here, here) (invlpg_alike a here)
  reason_alike (EptViolation v) here = violation_alike v here
  reason_alike (Entry x) here = rw transition_alike
  reason_alike (Exit pcid) here = rw transition_alike
  reason_alike Vmxon here = refl
  reason_alike Vmxoff here = refl
  reason_alike (NewPcid x) here = refl
  reason_alike Reset here = refl
  reason_alike (Invpcid o) here = invpcid_alike o here
  reason_alike (MovToCr3 pcid) here = mov_to_cr3_alike pcid

-- a scope follows its reason
pub scope_by_reason : (c c' : Context) (e e' : Event) (m n : Mapping) → reason c' e' n ≡ reason c e m → scope c' e' n ≡ scope c e m
scope_by_reason c c' e e' m n is = sym (drops_reason c' e' n) ∙ ap drops is ∙ drops_reason c e m
