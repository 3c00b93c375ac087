-- A valid record is usable at some address exactly if its tags are those in force; its own page is the witness.
use Rattle.std.specs.Prelude.{ℕ, ◌+◌, ◌-◌, ◌*◌, ◌/◌, ◌%◌, ◌^◌, ◌<◌, ◌≡◌, not, ◌&&◌, ◌||◌, leb, ltb}
use Rattle.std.proofs.Math.Path.{refl}
use Rattle.std.proofs.Common.{sym, ◌∙◌, eq-eqb, ltb-true, ltb-false, lt-ltb}
use Rattle.std.proofs.Math.Bool.{Bool, true, false, cond, and-eq-true_iff}
use Rattle.std.proofs.lemmas.Bool.{false≢true, not-true}
use mathlib.Mathlib.Data.Bool.Basic.{or-eq-false-eq-eq-false-and-eq-false}
use native.Mathlib.Omega.{arith}
use Rattle.std.proofs.Math.Dec.{eqb}
use Rattle.model.specs.declared.Context.{Context}
use Rattle.model.specs.declared.Ept.{Ept}
use Rattle.model.specs.declared.Ept.TheVariants.{Off, On}
use Rattle.model.specs.declared.Mapping.{Mapping}
use Rattle.model.specs.declared.Address.{Address}
use Rattle.model.specs.declared.Address.TheVariants.{Linear, GuestPhysical}
use Rattle.model.specs.Bits.{bits, linear_bits}
use Rattle.model.specs.Context.{pcid_in_range, current_vpid, current_ept}
use Rattle.model.specs.Mappings.{linear, guest_physical, combined, wide, other_width, fields_in_range, span_in_range, page_in_range, covers, pages}
use Rattle.model.specs.Events.{canonical, covers_linear, covers_guest_physical, page_of, guest_physical_page_of, guest_physical_in_range}
use Rattle.model.specs.Scopes.{is_current_ep4ta, current_pcid_or_global}
use Rattle.model.specs.Lookups.{translates_linear, usable}
use Rattle.laws.specs.Layouts.{of_mapping_kind}
use Rattle.laws.specs.Mappings.{guest_physical_known}
use Rattle.leaks.specs.Leaks.{Usable, usable_tags, sign_extended, witness}

pub right : (x : Bool) → (x || true) ≡ true
right true = refl
right false = refl

-- the sign_extended address of a page is canonical, and its page is that page
module _ (w page : ℕ) where
  pub sign_extended_canonical : page < 2 ^ (linear_bits w - 12) → canonical w (sign_extended w page) ≡ true
  unfolding canonical sign_extended
  sign_extended_canonical = go (eqb w 57) (ltb page (2 ^ (linear_bits w - 13))) refl
    where
      low_half : (x n : ℕ) → x ≡ 0 → (eqb x 0 || eqb x n) ≡ true
      low_half x n h = rw h

      high_half : (x n : ℕ) → x ≡ n → (eqb x 0 || eqb x n) ≡ true
      high_half x n h = rw (eq-eqb x n h) (right (eqb x 0))

      go : (b t : Bool) → ltb page (2 ^ (cond b 57 48 - 13)) ≡ t → page < 2 ^ (cond b 57 48 - 12)
          → (eqb (bits 63 (cond b 57 48 - 1) (page * 2 ^ 12 + cond t 0 (2 ^ 64 - 2 ^ cond b 57 48))) 0
          || eqb (bits 63 (cond b 57 48 - 1) (page * 2 ^ 12 + cond t 0 (2 ^ 64 - 2 ^ cond b 57 48))) (2 ^ (65 - cond b 57 48) - 1)) ≡ true
      go true true low fits = low_half (bits 63 56 (page * 2 ^ 12 + 0)) 255 (omega (arith, ltb-true page (2 ^ 44) low))
      go true false low fits = high_half (bits 63 56 (page * 2 ^ 12 + (2 ^ 64 - 2 ^ 57))) 255 (omega (arith, ltb-false page (2 ^ 44) low))
      go false true low fits = low_half (bits 63 47 (page * 2 ^ 12 + 0)) 131071 (omega (arith, ltb-true page (2 ^ 35) low))
      go false false low fits = high_half (bits 63 47 (page * 2 ^ 12 + (2 ^ 64 - 2 ^ 48))) 131071 (omega (arith, ltb-false page (2 ^ 35) low))

  pub sign_extended_page : page < 2 ^ (linear_bits w - 12) → page_of w (sign_extended w page) ≡ page
  unfolding sign_extended
  sign_extended_page = go (eqb w 57) (ltb page (2 ^ (linear_bits w - 13)))
    where
      go : (b t : Bool) → page < 2 ^ (cond b 57 48 - 12)
          → bits (cond b 57 48 - 1) 12 (page * 2 ^ 12 + cond t 0 (2 ^ 64 - 2 ^ cond b 57 48)) ≡ page
      go true true fits = omega arith
      go true false fits = omega arith
      go false true fits = omega arith
      go false false fits = omega arith

-- a guest-physical mapping is no other, and not wide
pub sorts_apart : (k : ℕ) → guest_physical k ≡ true → (linear k || combined k || wide k) ≡ false
unfolding guest_physical linear combined wide
sorts_apart k is = not-true _ (go (of_mapping_kind (λ k. not (guest_physical k) || not (linear k || combined k || wide k)) refl k (guest_physical_known k is)))
  where
    go : (not (guest_physical k) || not (linear k || combined k || wide k)) ≡ true → not (linear k || combined k || wide k) ≡ true
    go h = rw is at h

pub not_wide : (k : ℕ) → guest_physical k ≡ true → wide k ≡ false
not_wide k is = ((or-eq-false-eq-eq-false-and-eq-false (linear k || combined k) (wide k)).0 (sorts_apart k is)).1

pub not_tagged : (k : ℕ) → guest_physical k ≡ true → (linear k || combined k) ≡ false
not_tagged k is = ((or-eq-false-eq-eq-false-and-eq-false (linear k || combined k) (wide k)).0 (sorts_apart k is)).0

-- the page of a valid record is below its limit: its kind's, and so the linear width's for a linear address
pub page_below : (m : Mapping) → fields_in_range m ≡ true → m.page < 2 ^ (cond (wide m.kind) 57 48 - 12)
unfolding fields_in_range
page_below m h =
    let front = leb m.global 1 && pcid_in_range m.pcid && span_in_range m.kind m.span in
    let last = ((and-eq-true_iff front (page_in_range m.kind m.span m.page)).0 h).1 in
    let bound = 2 ^ (cond (wide m.kind) 57 48 - 12) in
    ltb-true m.page bound ((and-eq-true_iff (ltb m.page bound) (eqb (m.page % pages m.span) 0)).0 last).0

pub linear_page_below : (w : ℕ) (m : Mapping) → fields_in_range m ≡ true → other_width w m.kind ≡ false → (linear m.kind || combined m.kind) ≡ true
    → m.page < 2 ^ (linear_bits w - 12)
unfolding other_width
linear_page_below w m fields = go (eqb w 57) (wide m.kind) (linear m.kind || combined m.kind) (page_below m fields)
  where
    go : (b v t : Bool) → m.page < 2 ^ (cond v 57 48 - 12) → cond b (t && not v) v ≡ false → t ≡ true → m.page < 2 ^ (cond b 57 48 - 12)
    go true true t below h k = below
    go true false true below h k = absurd (false≢true (sym h))
    go true false false below h k = absurd (false≢true k)
    go false true t below h k = absurd (false≢true (sym h))
    go false false t below h k = below

-- what translates a linear address is a linear or combined mapping
pub translates_tagged : (x : Ept) (m : Mapping) → translates_linear x m ≡ true → (linear m.kind || combined m.kind) ≡ true
unfolding translates_linear
translates_tagged Off m h = rw h
translates_tagged (On current) m h = rw ((and-eq-true_iff (combined m.kind) (eqb m.ep4ta current)).0 h).0 (right (linear m.kind))

-- a page lies in its own span
covers_own : (span page : ℕ) → covers span page page ≡ true
unfolding covers
covers_own span page = eq-eqb (page / pages span) (page / pages span) refl

-- the two halves of the tags, for a linear and for a guest-physical address
abbrev linear_tags : Context → Mapping → Bool
linear_tags c m = eqb m.vpid (current_vpid c.place) && current_pcid_or_global c m && translates_linear (current_ept c.place) m

abbrev physical_tags : Context → Mapping → Bool
physical_tags c m = guest_physical m.kind && is_current_ep4ta (current_ept c.place) m.ep4ta

-- usable at any address: the tags are right
pub usable_tagged : (c : Context) (m : Mapping) (a : Address) → usable c a m ≡ true → usable_tags c m ≡ true
unfolding usable usable_tags
usable_tagged c m (Linear address) h =
    let front = canonical c.linear_width address && covers_linear c.linear_width address m in
    let vpid = eqb m.vpid (current_vpid c.place) in
    let pcid = current_pcid_or_global c m in
    let four = (and-eq-true_iff (front && vpid && pcid) (translates_linear (current_ept c.place) m)).0 h in
    let three = (and-eq-true_iff (front && vpid) pcid).0 four.0 in
    rw (((and-eq-true_iff front vpid).0 three.0).1, three.1, four.1)
usable_tagged c m (GuestPhysical address) h =
    let front = guest_physical_in_range address && covers_guest_physical address m in
    let three = (and-eq-true_iff (front && guest_physical m.kind) (is_current_ep4ta (current_ept c.place) m.ep4ta)).0 h in
    rw (((and-eq-true_iff front (guest_physical m.kind)).0 three.0).1, three.1) (right (linear_tags c m))

-- the tags are right: usable at the witness, if the record is valid at the linear width
module _ (c : Context) (m : Mapping) (fields : fields_in_range m ≡ true) (width : other_width c.linear_width m.kind ≡ false) where
  usable_linear : linear_tags c m ≡ true → usable c (Linear (sign_extended c.linear_width m.page)) m ≡ true
  unfolding usable
  usable_linear h =
      let two = (and-eq-true_iff (eqb m.vpid (current_vpid c.place) && current_pcid_or_global c m) (translates_linear (current_ept c.place) m)).0 h in
      let one = (and-eq-true_iff (eqb m.vpid (current_vpid c.place)) (current_pcid_or_global c m)).0 two.0 in
      let below = linear_page_below c.linear_width m fields width (translates_tagged (current_ept c.place) m two.1) in
      rw (sign_extended_canonical c.linear_width m.page below, sign_extended_page c.linear_width m.page below, covers_own m.span m.page, one.0, one.1, two.1)

  usable_physical : physical_tags c m ≡ true → usable c (GuestPhysical (m.page * 2 ^ 12)) m ≡ true
  unfolding usable
  usable_physical h =
      let both = (and-eq-true_iff (guest_physical m.kind) (is_current_ep4ta (current_ept c.place) m.ep4ta)).0 h in
      let below : m.page < 2 ^ 36 = rw (not_wide m.kind both.0) at (page_below m fields) in
      let page : guest_physical_page_of (m.page * 2 ^ 12) ≡ m.page = omega arith in
      rw (lt-ltb (m.page * 2 ^ 12) (2 ^ 48) (omega arith), page, covers_own m.span m.page, both.0, both.1)

  pub usable_witness : usable_tags c m ≡ true → usable c (witness c m) m ≡ true
  unfolding usable_tags witness
  usable_witness = go (guest_physical m.kind) (translates_linear (current_ept c.place) m) refl refl
    where
      tagged : Bool
      tagged = eqb m.vpid (current_vpid c.place) && current_pcid_or_global c m

      current : Bool
      current = is_current_ep4ta (current_ept c.place) m.ep4ta

      physical : (x : Bool) → (x && false || current) ≡ true → current ≡ true
      physical true h = h
      physical false h = h

      linears : (x : Bool) → ((x && true) || false) ≡ true → (x && true) ≡ true
      linears true h = refl
      linears false h = h

      none : (x : Bool) → ((x && false) || false) ≡ true → ⊥
      none true h = false≢true h
      none false h = false≢true h

      go : (g t : Bool) → guest_physical m.kind ≡ g → translates_linear (current_ept c.place) m ≡ t → ((tagged && t) || (g && current)) ≡ true
          → usable c (cond g (GuestPhysical (m.page * 2 ^ 12)) (Linear (sign_extended c.linear_width m.page))) m ≡ true
      go true true is on h = absurd (false≢true (sym (not_tagged m.kind is) ∙ translates_tagged (current_ept c.place) m on))
      go true false is on h = usable_physical (rw is (physical tagged h))
      go false true is on h = usable_linear (rw on (linears tagged h))
      go false false is on h = absurd (none tagged h)

  -- so usable somewhere is exactly a matter of tags
  pub usable_somewhere : usable_tags c m ≡ true → Usable c m
  usable_somewhere h = (witness c m, usable_witness h)
