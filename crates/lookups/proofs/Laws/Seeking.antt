-- What a lookup asks, as data, finds exactly the usable records.
use Rattle.std.specs.Prelude.{ℕ, Bool, not, ◌&&◌, ◌||◌, List, Option, Some, None, ◌≡◌}
use Rattle.std.proofs.Math.Bool.{true, false, cond, and-true, and-false, and-eq-true_iff}
use Rattle.std.proofs.Math.Path.{refl, ap}
use Rattle.std.proofs.Common.{sym, ◌∙◌}
use borrow.Author.Tests.{eq-eqb, not-true}
use Rattle.std.proofs.Math.Dec.{eqb}
use Rattle.model.specs.declared.Context.{Context}
use Rattle.model.specs.declared.Ept.TheVariants.{Off, On}
use Rattle.model.specs.declared.Address.TheVariants.{Linear, GuestPhysical}
use Rattle.model.specs.declared.Mapping.{Mapping}
use Rattle.model.specs.Bits.{bit, number}
use Rattle.model.specs.Context.{current_vpid, current_ept}
use Rattle.model.specs.Layouts.{Field, body_of, mapping_bodies, kind_of}
use Rattle.model.specs.Mappings.{mapping, Held, linear, guest_physical, combined}
use Rattle.model.specs.Events.{canonical, page_of, guest_physical_page_of, guest_physical_in_range}
use Rattle.model.specs.Lookups.{translates_linear, usable}
use Rattle.laws.specs.Layouts.{at_rows, of_mapping_kind, agrees, agrees_true, lacks_field, field_lacks}
use Rattle.laws.specs.Mappings.{vpid_held, pcid_held}
use Rattle.lookups.specs.declared.Sought.{Sought}
use Rattle.queries.specs.Queries.{kinds_with, of_kind_and_vpid}
use Rattle.lookups.specs.Search.{of_pcid_and_ep4ta, seeks, AsksFor, usable_of, Sets}

-- ---- kinds and their fields

module _ (r : List ℕ) (held : Held r) where
  -- a computed test of the kinds holds of the record's
  of_held : (test : ℕ → Bool) → at_rows test mapping_bodies ≡ true → test (mapping r).kind ≡ true
  unfolding mapping
  of_held test all = of_mapping_kind test all (kind_of r) held.known

  -- a set has the kinds of which a test holds
  set_of : (set : ℕ) (test : ℕ → Bool) → at_rows (λ k. agrees (bit k set) (test k)) mapping_bodies ≡ true
      → bit (mapping r).kind set ≡ test (mapping r).kind
  set_of set test all = agrees_true _ _ (of_held (λ k. agrees (bit k set) (test k)) all)

  -- the kinds of a set beside one VPID, and none beside any other
  one_vpid : (set : ℕ) (b : Bool) → bit (mapping r).kind (cond b set 0) ≡ (bit (mapping r).kind set && b)
  one_vpid set true = sym (and-true (bit (mapping r).kind set))
  one_vpid set false = set_of 0 (λ k. false) refl ∙ sym (and-false (bit (mapping r).kind set))

  -- the bytes of a VPID are one where the kind is not guest-physical
  own_vpid : (sort : ℕ → Bool) → at_rows (λ k. cond (sort k) (not (guest_physical k)) true) mapping_bodies ≡ true
      → sort (mapping r).kind ≡ true
      → number 2 1 r ≡ (mapping r).vpid
  own_vpid sort all is =
      let other = not-true (guest_physical (mapping r).kind) (rw is at (of_held (λ k. cond (sort k) (not (guest_physical k)) true) all)) in
      sym (vpid_held r held ∙ rw other)

  linear_vpid : (wanted : Bool) → (linear (mapping r).kind && wanted) ≡ true → number 2 1 r ≡ (mapping r).vpid
  unfolding linear guest_physical
  linear_vpid wanted is = own_vpid linear refl ((and-eq-true_iff (linear (mapping r).kind) wanted).0 is).0

  combined_vpid : (wanted : Bool) → (combined (mapping r).kind && wanted) ≡ true → number 2 1 r ≡ (mapping r).vpid
  unfolding combined guest_physical
  combined_vpid wanted is = own_vpid combined refl ((and-eq-true_iff (combined (mapping r).kind) wanted).0 is).0

  -- a guest-physical mapping has no PCID, and a linear one no EP4TA
  no_pcid : guest_physical (mapping r).kind ≡ true → (mapping r).pcid ≡ 0
  no_pcid is = pcid_held r held ∙ rw is

  no_ep4ta : linear (mapping r).kind ≡ true → (mapping r).ep4ta ≡ 0
  unfolding mapping linear body_of
  no_ep4ta is = field_lacks Field.ep4ta r (rw is at (of_held (λ k. cond (linear k) (lacks_field Field.ep4ta k) true) refl))

cond_same : (b : Bool) (x : ℕ) → cond b x x ≡ x
cond_same true x = refl
cond_same false x = refl

-- ---- what is asked

abbrev asking : ℕ → ℕ → ℕ → ℕ → ℕ → ℕ → Sought
asking vpid kinds others pcid ep4ta page =
    record { kinds = record { vpid = vpid; same = kinds; others = others }; pcid = pcid; ep4ta = ep4ta; page = page }

-- nothing is asked for where the test holds of no record
pub seeks_nothing : (p : Mapping → Bool) → ((m : Mapping) → p m ≡ false) → AsksFor p None
seeks_nothing p never = record { same = λ r held. sym (never (mapping r)) }

-- the tests in the order of the code and in that of the definition; the VPID counts for kinds that have one
in_order : (kind covers vpid bytes pcid ep4ta : Bool) → (kind ≡ true → bytes ≡ vpid)
    → (kind && bytes && covers && (pcid && ep4ta)) ≡ (true && covers && vpid && pcid && (kind && ep4ta))
in_order true true vpid bytes pcid ep4ta own = rw (own refl) (go vpid pcid)
  where
    go : (v p : Bool) → (v && true && (p && ep4ta)) ≡ (v && p && ep4ta)
    go true true = refl
    go true false = refl
    go false p = refl
in_order true false vpid bytes pcid ep4ta own = rw (own refl) (go vpid)
  where
    go : (v : Bool) → (v && false && (pcid && ep4ta)) ≡ false
    go true = refl
    go false = refl
in_order false true true bytes true ep4ta own = refl
in_order false true true bytes false ep4ta own = refl
in_order false true false bytes pcid ep4ta own = refl
in_order false false vpid bytes pcid ep4ta own = refl

-- the same where the kind has no EP4TA
without_ep4ta : (kind covers vpid bytes pcid ep4ta : Bool) → (kind ≡ true → bytes ≡ vpid) → (kind ≡ true → ep4ta ≡ true)
    → (kind && bytes && covers && (pcid && ep4ta)) ≡ (true && covers && vpid && pcid && kind)
without_ep4ta kind covers vpid bytes pcid ep4ta own none =
    in_order kind covers vpid bytes pcid ep4ta own ∙ ap (λ (b : Bool). true && covers && vpid && pcid && b) (go kind none)
  where
    go : (k : Bool) → (k ≡ true → ep4ta ≡ true) → (k && ep4ta) ≡ k
    go true holds = holds refl
    go false holds = refl

-- the same where the kind is also to be wanted
of_wanted : (kind own covers vpid bytes pcid ep4ta : Bool) → ((kind && own) ≡ true → bytes ≡ vpid)
    → ((kind && own) && bytes && covers && (pcid && ep4ta)) ≡ ((true && covers && vpid && pcid && (kind && ep4ta)) && own)
of_wanted kind own covers vpid bytes pcid ep4ta holds = in_order (kind && own) covers vpid bytes pcid ep4ta holds ∙ go covers vpid pcid
  where
    last : (k e : Bool) → ((k && own) && e) ≡ ((k && e) && own)
    last true true = and-true own
    last true false = and-false own
    last false e = refl

    go : (c v p : Bool) → (true && c && v && p && ((kind && own) && ep4ta)) ≡ ((true && c && v && p && (kind && ep4ta)) && own)
    go true true true = last kind ep4ta
    go true true false = refl
    go true false p = refl
    go false v p = refl

of_wanted_without_ep4ta : (kind own covers vpid bytes pcid ep4ta : Bool) → ((kind && own) ≡ true → bytes ≡ vpid) → ((kind && own) ≡ true → ep4ta ≡ true)
    → ((kind && own) && bytes && covers && (pcid && ep4ta)) ≡ ((true && covers && vpid && pcid && kind) && own)
of_wanted_without_ep4ta kind own covers vpid bytes pcid ep4ta holds none =
    without_ep4ta (kind && own) covers vpid bytes pcid ep4ta holds none ∙ go covers vpid pcid
  where
    go : (c v p : Bool) → (true && c && v && p && (kind && own)) ≡ ((true && c && v && p && kind) && own)
    go true true true = refl
    go true true false = refl
    go true false p = refl
    go false v p = refl

-- the kinds that any lookup asks for
pub every_set : Sets (λ k. true) 0x292 0x548
unfolding linear combined
every_set = record { linears = refl; combineds = refl }

module _ (c : Context) (address : ℕ) where
  module _ (wanted : ℕ → Bool) where
    pub not_canonical : canonical c.linear_width address ≡ false → (m : Mapping) → usable_of wanted c (Linear address) m ≡ false
    unfolding usable
    not_canonical is m = rw is

    module _ (linears combineds : ℕ) (sets : Sets wanted linears combineds) (canonically : canonical c.linear_width address ≡ true) where
      pub seeks_linear : current_ept c.place ≡ Off
          → AsksFor (usable_of wanted c (Linear address)) (Some (asking (current_vpid c.place) linears 0 c.pcid 0 (page_of c.linear_width address)))
      unfolding seeks of_kind_and_vpid kinds_with of_pcid_and_ep4ta usable translates_linear
      seeks_linear off =
          record {
            same = λ r held.
                let vpid = current_vpid c.place in
                rw (canonically, off, one_vpid r held linears, set_of r held linears (λ k. linear k && wanted k) sets.linears)
                (of_wanted_without_ep4ta (linear (mapping r).kind) (wanted (mapping r).kind) _ _ _ _ _
                (λ is. ap (λ (n : ℕ). eqb n vpid) (linear_vpid r held (wanted (mapping r).kind) is))
                (λ is. eq-eqb (mapping r).ep4ta 0 (no_ep4ta r held ((and-eq-true_iff (linear (mapping r).kind) (wanted (mapping r).kind)).0 is).0)));
          }

      pub seeks_combined : (ep4ta : ℕ) → current_ept c.place ≡ On ep4ta
          → AsksFor (usable_of wanted c (Linear address)) (Some (asking (current_vpid c.place) combineds 0 c.pcid ep4ta (page_of c.linear_width address)))
      unfolding seeks of_kind_and_vpid kinds_with of_pcid_and_ep4ta usable translates_linear
      seeks_combined ep4ta on =
          record {
            same = λ r held.
                let vpid = current_vpid c.place in
                rw (canonically, on, one_vpid r held combineds, set_of r held combineds (λ k. combined k && wanted k) sets.combineds)
                (of_wanted (combined (mapping r).kind) (wanted (mapping r).kind) _ _ _ _ _
                (λ is. ap (λ (n : ℕ). eqb n vpid) (combined_vpid r held (wanted (mapping r).kind) is)));
          }

  -- every kind is wanted
  pub every_linear : {s : Option Sought} → AsksFor (usable_of (λ k. true) c (Linear address)) s → AsksFor (usable c (Linear address)) s
  every_linear asks = record { same = λ r held. asks.same r held ∙ and-true (usable c (Linear address) (mapping r)) }

  pub too_high : guest_physical_in_range address ≡ false → (m : Mapping) → usable c (GuestPhysical address) m ≡ false
  unfolding usable
  too_high is m = rw is

  pub ept_off : current_ept c.place ≡ Off → (m : Mapping) → usable c (GuestPhysical address) m ≡ false
  unfolding usable
  ept_off off m = rw (off, and-false)

  pub seeks_guest_physical : (ep4ta : ℕ) → guest_physical_in_range address ≡ true → current_ept c.place ≡ On ep4ta
      → AsksFor (usable c (GuestPhysical address)) (Some (asking 0 0x24 0x24 0 ep4ta (guest_physical_page_of address)))
  unfolding seeks of_kind_and_vpid kinds_with of_pcid_and_ep4ta usable guest_physical
  seeks_guest_physical ep4ta within on =
      record {
        same = λ r held.
            rw (within, on, cond_same, set_of r held 0x24 guest_physical refl)
            (go (guest_physical (mapping r).kind) _ _ _ _ (λ is. eq-eqb _ 0 (no_pcid r held is)));
      }
    where
      go : (kind covers pcid global ep4ta : Bool) → (kind ≡ true → pcid ≡ true)
          → (kind && covers && ((pcid || global) && ep4ta)) ≡ (true && covers && kind && ep4ta)
      go true true pcid global ep4ta holds = rw (holds refl)
      go true false pcid global ep4ta holds = refl
      go false true pcid global ep4ta holds = refl
      go false false pcid global ep4ta holds = refl
