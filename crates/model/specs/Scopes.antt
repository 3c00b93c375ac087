-- Document 01, "Required scopes": which mappings an accepted event invalidates (000, 29.4.3.1), judged
-- in the context just before it ("Whole runs"), and how the event changes the context. Kinds 7 to 10 go with 1, 3, 4 and 6
-- by their sort (document 02, Ask 12).
use Rattle.std.specs.Prelude.{ℕ, Bool, true, false, cond, not, ◌&&◌, ◌||◌, eqb, leb}
use Rattle.model.specs.declared.Context.{Context}
use Rattle.model.specs.declared.Place.{Place}
use Rattle.model.specs.declared.Place.TheVariants.{Outside, Root, Guest}
use Rattle.model.specs.declared.Ept.{Ept}
use Rattle.model.specs.declared.Ept.TheVariants.{Off, On}
use Rattle.model.specs.declared.Mapping.{Mapping}
use Rattle.model.specs.declared.Event.{Event}
use Rattle.model.specs.declared.Event.TheVariants.{Creation, Invvpid, Invept, Invlpg, EptViolation, Entry, Exit, Vmxon, Vmxoff, NewPcid, Reset, Invpcid, MovToCr3}
use Rattle.model.specs.declared.Operands.{Operands}
use Rattle.model.specs.declared.Violation.{Violation}
use Rattle.model.specs.declared.Entry
use Rattle.model.specs.Bits.{bits}
use Rattle.model.specs.Context.{current_vpid, current_ept, moved, after_reset}
use Rattle.model.specs.Mappings.{linear, guest_physical, combined, structure_cache, global_translation}
use Rattle.model.specs.Events.{canonical, covers_linear, covers_guest_physical}

-- the mapping carries a VPID and a PCID: a linear or combined mapping, kinds 1, 3, 4 and 6, and 7 to 10
abbrev pub vpid_tagged : Mapping → Bool
vpid_tagged m = linear m.kind || combined m.kind

-- "EP4TA is EPTP bits 51 to 12"
abbrev pub ep4ta_of : ℕ → ℕ
ep4ta_of eptp = bits 51 12 eptp

-- the EP4TA is the current one; none is while EPT is off
abbrev pub is_current_ep4ta : Ept → ℕ → Bool
is_current_ep4ta Off ep4ta = false
is_current_ep4ta (On current) ep4ta = eqb ep4ta current

-- the mapping carries the current PCID, or is a global translation
abbrev pub current_pcid_or_global : Context → Mapping → Bool
current_pcid_or_global c m = eqb m.pcid c.pcid || global_translation m

-- the INVVPID descriptor (002, Figure 31-2): VPID in bits 15:0, linear address in bits 127:64
abbrev pub vpid_named : Operands → ℕ
vpid_named o = bits 15 0 o.low

-- the INVPCID descriptor (document 02, Ask 5): PCID in bits 11:0, linear address in bits 127:64
abbrev pub pcid_named : Operands → ℕ
pcid_named o = bits 11 0 o.low

-- The tests that an event puts to a mapping, in the order of document 02's reasons (Ask 1). Each is true
-- where the mapping passes it, and where the event does not put it.
pub record Tests : Type 0 where
  pub kind : Bool
  pub vpid : Bool
  pub pcid : Bool
  pub ep4ta : Bool
  pub page : Bool
  pub global : Bool

-- the mapping passes every test
abbrev pub passed : Tests → Bool
passed t = t.kind && t.vpid && t.pcid && t.ep4ta && t.page && t.global

-- no test is put
abbrev pub no_tests : Tests
no_tests = record { kind = true; vpid = true; pcid = true; ep4ta = true; page = true; global = true }

-- "INVVPID touches kinds 1, 3, 4, 6 only, for all PCIDs and EP4TAs. Type 0: the named VPID, covering the
-- address, global or not. Type 1: the named VPID. Type 2: every VPID but 0. Type 3: the named VPID,
-- except kinds 1 and 3 with global 1". A type above 3 is refused with 8, so that its tests are never
-- asked.
unfoldable pub invvpid_tests : Context → Operands → Mapping → Tests
invvpid_tests c o m =
    record {
      kind = vpid_tagged m;
      vpid = cond (eqb o.type_number 2) (not (eqb m.vpid 0)) (eqb m.vpid (vpid_named o));
      pcid = true;
      ep4ta = true;
      page = cond (eqb o.type_number 0) (covers_linear c.linear_width o.high m) true;
      global = cond (leb o.type_number 2) true (not (global_translation m));
    }

-- "INVEPT touches kinds 2, 3, 5, 6 only. Type 1: those whose EP4TA is EPTP bits 51 to 12. Type 2: all
-- of them." Any other type is refused with 8.
unfoldable pub invept_tests : Operands → Mapping → Tests
invept_tests o m =
    record {
      kind = guest_physical m.kind || combined m.kind;
      vpid = true;
      pcid = true;
      ep4ta = cond (eqb o.type_number 1) (eqb m.ep4ta (ep4ta_of o.low)) true;
      page = true;
      global = true;
    }

-- "INVLPG, canonical address: kinds 1 and 3 of the current VPID covering the page, with the current PCID
-- or global 1; kinds 4 and 6 of the current VPID and PCID. .. Any EP4TA." Document 02, Ask 2, takes
-- the cover test from kinds 4 and 6 (Volume 3A, 4.10.4).
unfoldable pub invlpg_tests : Context → ℕ → Mapping → Tests
invlpg_tests c address m =
    record {
      kind = vpid_tagged m;
      vpid = eqb m.vpid (current_vpid c.place);
      pcid = current_pcid_or_global c m;
      ep4ta = true;
      page = structure_cache m.kind || covers_linear c.linear_width address m;
      global = true;
    }

-- "EPT violation: kinds 2 and 5 of the current EP4TA covering the guest-physical page."
unfoldable pub guest_physical_violation_tests : Context → Violation → Mapping → Tests
guest_physical_violation_tests c v m =
    record {
      kind = guest_physical m.kind;
      vpid = true;
      pcid = true;
      ep4ta = is_current_ep4ta (current_ept c.place) m.ep4ta;
      page = covers_guest_physical v.physical m;
      global = true;
    }

-- "With linear flag 1 also kinds 3 and 6 of the current VPID, PCID and EP4TA covering the linear
-- page."
unfoldable pub combined_violation_tests : Context → Violation → Mapping → Tests
combined_violation_tests c v m =
    record {
      kind = eqb v.flag 1 && combined m.kind;
      vpid = eqb m.vpid (current_vpid c.place);
      pcid = eqb m.pcid c.pcid;
      ep4ta = is_current_ep4ta (current_ept c.place) m.ep4ta;
      page = covers_linear c.linear_width v.linear m;
      global = true;
    }

-- the two sentences: the first speaks of guest-physical mappings, the second of all others
unfoldable pub violation_tests : Context → Violation → Mapping → Tests
violation_tests c v m =
    cond (guest_physical m.kind) (guest_physical_violation_tests c v m) (combined_violation_tests c v m)

-- "VM entry, VM exit: if VPIDs are not enabled for that guest, kinds 1, 3, 4, 6 of VPID 0."
unfoldable pub transition_tests : Mapping → Tests
transition_tests m =
    record { kind = vpid_tagged m; vpid = eqb m.vpid 0; pcid = true; ep4ta = true; page = true; global = true }

-- Document 02, Ask 5: "INVPCID type 0: that PCID, covering the address, not global; type 1: that PCID, not global;
-- type 2: all, global too; type 3: all but global. All act on the current VPID, kinds 1, 3, 4, 6, any EP4TA;
-- structure caches count as not global." A type above 3 is refused with 7.
unfoldable pub invpcid_tests : Context → Operands → Mapping → Tests
invpcid_tests c o m =
    record {
      kind = vpid_tagged m;
      vpid = eqb m.vpid (current_vpid c.place);
      pcid = cond (leb o.type_number 1) (eqb m.pcid (pcid_named o)) true;
      ep4ta = true;
      page = cond (eqb o.type_number 0) (covers_linear c.linear_width o.high m) true;
      global = cond (eqb o.type_number 2) true (not (global_translation m));
    }

-- "Kind 27 does type 1's work for its PCID"
unfoldable pub mov_to_cr3_tests : Context → ℕ → Mapping → Tests
mov_to_cr3_tests c pcid m =
    record {
      kind = vpid_tagged m;
      vpid = eqb m.vpid (current_vpid c.place);
      pcid = eqb m.pcid pcid;
      ep4ta = true;
      page = true;
      global = not (global_translation m);
    }

-- What an event asks: whether it has a scope, whether its address is canonical, which INVLPG alone asks,
-- and the tests that it then puts to a mapping.
pub record Asked : Type 0 where
  pub scoped : Bool
  pub addressed : Bool
  pub tests : Mapping → Tests

-- a scope where a test of the event holds
abbrev pub asked_if : Bool → (Mapping → Tests) → Asked
asked_if test tests = record { scoped = test; addressed = true; tests = tests }

-- "Reset: everything. Kinds 22 to 24 and creations: nothing"
abbrev pub everything : Asked
everything = asked_if true (λ m. no_tests)

abbrev pub nothing : Asked
nothing = asked_if false (λ m. no_tests)

-- Each event in its turn. An entry asks the event's own flag whether VPIDs are enabled for that guest; an
-- exit asks the context, whose VPID is 0 exactly if they were not enabled at entry. "A non-canonical
-- address has nothing in scope".
abbrev pub asked : Context → Event → Asked
asked c (Creation created) = nothing
asked c (Invvpid o) = asked_if true (invvpid_tests c o)
asked c (Invept o) = asked_if true (invept_tests o)
asked c (Invlpg address) = record { scoped = true; addressed = canonical c.linear_width address; tests = invlpg_tests c address }
asked c (EptViolation v) = asked_if true (violation_tests c v)
asked c (Entry n) = asked_if (not (eqb n.vpids 1)) transition_tests
asked c (Exit pcid) = asked_if (eqb (current_vpid c.place) 0) transition_tests
asked c Vmxon = nothing
asked c Vmxoff = nothing
asked c (NewPcid n) = nothing
asked c Reset = everything
asked c (Invpcid o) = asked_if true (invpcid_tests c o)
asked c (MovToCr3 pcid) = asked_if true (mov_to_cr3_tests c pcid)

-- some mapping may be in scope: the event has a scope, and its address is canonical
unfoldable pub has_scope : Context → Event → Bool
has_scope c e = (asked c e).scoped && (asked c e).addressed

-- The required scope of an event: the mappings that pass its tests.
unfoldable pub scope : Context → Event → Mapping → Bool
scope c e m = has_scope c e && passed ((asked c e).tests m)

-- "a disabled VPID or EPT field is not looked at"
unfoldable pub entered : Entry.Entry → Place
entered n =
    Guest
    (record {
      vpid = cond (eqb n.vpids 1) n.vpid 0;
      ept = cond (eqb n.ept 1) (On (ep4ta_of n.eptp)) Off;
    })

-- "Entry sets place, PCID and CPL. Exit gives root, the host PCID, CPL 0. VMXON gives root, VMXOFF
-- outside. Kind 24 sets PCID and CPL; reset gives the context named above. The other events leave the
-- context." Kind 27 "makes that [PCID] current" (Ask 5).
unfoldable pub next_context : Context → Event → Context
next_context c (Creation created) = c
next_context c (Invvpid o) = c
next_context c (Invept o) = c
next_context c (Invlpg address) = c
next_context c (EptViolation v) = c
next_context c (Entry n) = moved c n.pcid n.cpl (entered n)
next_context c (Exit pcid) = moved c pcid 0 Root
next_context c Vmxon = moved c c.pcid c.cpl Root
next_context c Vmxoff = moved c c.pcid c.cpl Outside
next_context c (NewPcid n) = moved c n.pcid n.cpl c.place
next_context c Reset = after_reset c
next_context c (Invpcid o) = c
next_context c (MovToCr3 pcid) = moved c pcid c.cpl c.place
