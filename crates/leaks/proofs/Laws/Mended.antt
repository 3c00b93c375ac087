-- The invalidation that is proposed for a leak mends it.
use Rattle.std.specs.Prelude.{ℕ, ◌≤◌, ◌≡◌, Bool, cond, ◌&&◌, ◌||◌, ltb}
use Rattle.std.proofs.Math.Path.{refl}
use Rattle.std.proofs.Common.{sym, ◌∙◌}
use Rattle.std.proofs.Math.Bool.{true, false, not, and-false, and-eq-true_iff}
use Rattle.std.proofs.lemmas.Bool.{false≢true}
use mathlib.Mathlib.Data.Bool.Basic.{or-eq-false-eq-eq-false-and-eq-false}
use native.Mathlib.Omega.{arith}
use Rattle.std.proofs.Math.Dec.{eqb}
use borrow.Author.Tests.{eq-eqb, eqb-true, not-false}
use Rattle.model.specs.declared.Context.{Context}
use Rattle.model.specs.declared.Ept.TheVariants.{Off, On}
use Rattle.model.specs.declared.Mapping.{Mapping}
use Rattle.model.specs.declared.Operands.{Operands}
use Rattle.model.specs.declared.Entry
use Rattle.model.specs.declared.Event.TheVariants.{Invvpid, Invept, Entry}
use Rattle.model.specs.Bits.{bit, bits}
use Rattle.model.specs.Context.{outside, in_guest, current_vpid, current_ept}
use Rattle.model.specs.Mappings.{linear, guest_physical}
use Rattle.model.specs.Scopes.{vpid_tagged, ep4ta_of, has_scope, scope, invvpid_tests, invept_tests, transition_tests, entered, next_context, is_current_ep4ta, current_pcid_or_global}
use Rattle.model.specs.Answers.{event_answer, invalid_opcode, exits, general_protection, own_ground, bad_entry, bad_invvpid, bad_invept, invvpid_supported, invept_supported, good_eptp}
use Rattle.model.specs.Lookups.{translates_linear}
use Rattle.laws.specs.Answers.{event_answer_own}
use Rattle.leaks.specs.Leaks.{usable_tags}
use Rattle.leaks.specs.Mending.{mending}
use Rattle.leaks.specs.Statements.{Mended}
use Rattle.leaks.proofs.Laws.Usable.{translates_tagged, not_tagged}

-- what an accepted VM entry says
record Entered (c : Context) (n : Entry.Entry) : Type 0 where
  outside : outside c.place ≡ false
  guest : in_guest c.place ≡ false
  cpl : ltb 0 c.cpl ≡ false
  good : bad_entry c n ≡ false

entered_parts : (c : Context) (n : Entry.Entry) → event_answer c (Entry n) ≡ 0 → Entered c n
unfolding invalid_opcode exits general_protection own_ground
entered_parts c n h = go (outside c.place) (in_guest c.place) (ltb 0 c.cpl) (bad_entry c n) refl refl refl refl (sym (event_answer_own c (Entry n)) ∙ h)
  where
    go : (o g p b : Bool) → outside c.place ≡ o → in_guest c.place ≡ g → ltb 0 c.cpl ≡ p → bad_entry c n ≡ b
        → ◌≡◌ {A = ℕ} (cond (o || false || false) 5 (cond g 6 (cond p 7 (cond b 10 0)))) 0 → Entered c n
    go true g p b io ig ip ib k = absurd (omega arith)
    go false true p b io ig ip ib k = absurd (omega arith)
    go false false true b io ig ip ib k = absurd (omega arith)
    go false false false true io ig ip ib k = absurd (omega arith)
    go false false false false io ig ip ib k = record { outside = io; guest = ig; cpl = ip; good = ib }

module _ (c : Context) (k : (outside c.place ≡ false) × (in_guest c.place ≡ false) × (ltb 0 c.cpl ≡ false)) where
  invvpid_accepted : (o : Operands) → bit 32 c.capability ≡ true → bad_invvpid c o ≡ false → event_answer c (Invvpid o) ≡ 0
  unfolding invalid_opcode exits general_protection own_ground
  invvpid_accepted o has good = event_answer_own c (Invvpid o) ∙ rw (k.0, k.1, k.2, has, good)

  invept_accepted : (o : Operands) → bit 20 c.capability ≡ true → bad_invept c o ≡ false → event_answer c (Invept o) ≡ 0
  unfolding invalid_opcode exits general_protection own_ground
  invept_accepted o has good = event_answer_own c (Invept o) ∙ rw (k.0, k.1, k.2, has, good)

-- the two cases
module _ (c : Context) (n : Entry.Entry) (m : Mapping) (k : Entered c n) (small : n.vpid ≤ 65535) where
  -- a guest-physical mapping of the entry's EP4TA
  by_invept : bit 20 c.capability ≡ true → bit 25 c.capability ≡ true → guest_physical m.kind ≡ true → is_current_ep4ta (current_ept (entered n)) m.ep4ta ≡ true
      → (event_answer c (Invept (record { type_number = 1; low = n.eptp; high = 0 })) ≡ 0)
      × (scope c (Invept (record { type_number = 1; low = n.eptp; high = 0 })) m ≡ true)
  unfolding entered bad_entry bad_invept invept_supported scope has_scope invept_tests
  by_invept has type physical current = go (eqb n.ept 1) refl current
    where
      go : (b : Bool) → eqb n.ept 1 ≡ b → is_current_ep4ta (cond b (On (ep4ta_of n.eptp)) Off) m.ep4ta ≡ true
          → (event_answer c (Invept (record { type_number = 1; low = n.eptp; high = 0 })) ≡ 0)
          × (scope c (Invept (record { type_number = 1; low = n.eptp; high = 0 })) m ≡ true)
      go true is same =
          let good = not-false (good_eptp c n.eptp) ((or-eq-false-eq-eq-false-and-eq-false (eqb n.vpids 1 && eqb n.vpid 0) (not (good_eptp c n.eptp))).0 (rw is at k.good)).1 in
          (invept_accepted c (k.outside, k.guest, k.cpl) (record { type_number = 1; low = n.eptp; high = 0 }) has (rw (type, good)), rw (physical, same))
      go false is same = absurd (false≢true same)

  -- a linear or combined mapping of the entry's VPID
  by_invvpid : bit 32 c.capability ≡ true → bit 41 c.capability ≡ true → vpid_tagged m ≡ true → eqb m.vpid (current_vpid (entered n)) ≡ true → scope c (Entry n) m ≡ false
      → (event_answer c (Invvpid (record { type_number = 1; low = m.vpid; high = 0 })) ≡ 0)
      × (scope c (Invvpid (record { type_number = 1; low = m.vpid; high = 0 })) m ≡ true)
  unfolding entered bad_entry bad_invvpid invvpid_supported scope has_scope invvpid_tests transition_tests
  by_invvpid has type tagged current out = go (eqb n.vpids 1) refl current (rw tagged at out)
    where
      go : (b : Bool) → eqb n.vpids 1 ≡ b → eqb m.vpid (cond b n.vpid 0) ≡ true → (not b && true && (true && eqb m.vpid 0 && true && true && true && true)) ≡ false
          → (event_answer c (Invvpid (record { type_number = 1; low = m.vpid; high = 0 })) ≡ 0)
          × (scope c (Invvpid (record { type_number = 1; low = m.vpid; high = 0 })) m ≡ true)
      go true is same out =
          let vpid : m.vpid ≡ n.vpid = eqb-true m.vpid n.vpid same in
          let some : eqb n.vpid 0 ≡ false = ((or-eq-false-eq-eq-false-and-eq-false (eqb n.vpid 0) (eqb n.ept 1 && not (good_eptp c n.eptp))).0 (rw is at k.good)).0 in
          let low : bits 63 16 n.vpid ≡ 0 = omega arith in
          let named : bits 15 0 n.vpid ≡ n.vpid = omega arith in (
            invvpid_accepted c (k.outside, k.guest, k.cpl) (record { type_number = 1; low = m.vpid; high = 0 }) has (rw (vpid, type, low, named, some)),
            rw (tagged, vpid, named, eq-eqb n.vpid n.vpid refl),
          )
      go false is same out = absurd (false≢true (sym (rw same at out)))

pub mended_holds : Mended
unfolding mending usable_tags next_context
mended_holds c later n m accepted small has out place tags =
    go (guest_physical m.kind) (translates_linear (current_ept (entered n)) m) (eqb m.vpid (current_vpid (entered n))) (current_pcid_or_global later m)
    (is_current_ep4ta (current_ept (entered n)) m.ep4ta) refl refl refl refl (rw place at tags)
  where
    three : ((bit 20 c.capability && bit 25 c.capability && bit 32 c.capability) ≡ true) × (bit 41 c.capability ≡ true)
    three = (and-eq-true_iff (bit 20 c.capability && bit 25 c.capability && bit 32 c.capability) (bit 41 c.capability)).0 has

    two : ((bit 20 c.capability && bit 25 c.capability) ≡ true) × (bit 32 c.capability ≡ true)
    two = (and-eq-true_iff (bit 20 c.capability && bit 25 c.capability) (bit 32 c.capability)).0 three.0

    one : (bit 20 c.capability ≡ true) × (bit 25 c.capability ≡ true)
    one = (and-eq-true_iff (bit 20 c.capability) (bit 25 c.capability)).0 two.0

    go : (g t v w x : Bool) → guest_physical m.kind ≡ g → translates_linear (current_ept (entered n)) m ≡ t → eqb m.vpid (current_vpid (entered n)) ≡ v
        → is_current_ep4ta (current_ept (entered n)) m.ep4ta ≡ x
        → ((v && w && t) || (g && x)) ≡ true
        → (event_answer c (cond g (Invept (record { type_number = 1; low = n.eptp; high = 0 })) (Invvpid (record { type_number = 1; low = m.vpid; high = 0 }))) ≡ 0)
        × (scope c (cond g (Invept (record { type_number = 1; low = n.eptp; high = 0 })) (Invvpid (record { type_number = 1; low = m.vpid; high = 0 }))) m ≡ true)
    go true true v w x ig it iv ix h = absurd (false≢true (sym (not_tagged m.kind ig) ∙ translates_tagged (current_ept (entered n)) m it))
    go true false v w true ig it iv ix h = by_invept c n m (entered_parts c n accepted) small one.0 one.1 ig ix
    go true false v w false ig it iv ix h = absurd (false≢true (rw (and-false (v && w)) at h))
    go false true true w x ig it iv ix h = by_invvpid c n m (entered_parts c n accepted) small two.1 three.1 (translates_tagged (current_ept (entered n)) m it) iv out
    go false true false w x ig it iv ix h = absurd (false≢true h)
    go false false v w x ig it iv ix h = absurd (false≢true (rw (and-false (v && w)) at h))
