-- The tests on fields for stale mappings are the definitions.
use Rattle.std.specs.Prelude.{ℕ, zero, suc, ◌+◌, ◌-◌, ◌*◌, ◌/◌, ◌%◌, ◌^◌, ◌≤◌, ◌<◌, ◌≡◌, Bool, cond, ◌&&◌, ◌||◌, leb, ltb}
use Rattle.std.proofs.Math.Path.{refl, ap}
use Rattle.std.proofs.Common.{sym, ◌∙◌}
use Rattle.std.proofs.Math.Bool.{true, false, not, and-eq-true_iff}
use Rattle.std.proofs.lemmas.Bool.{false≢true}
use mathlib.Mathlib.Data.Bool.Basic.{or-eq-false-eq-eq-false-and-eq-false}
use native.Mathlib.Omega.{arith}
use Rattle.std.proofs.Math.Dec.{eqb}
use borrow.Author.Tests.{eq-eqb, ne_eqb, eqb-true, eqb-false, ltb-true, ltb-false, leb-true, lt-ltb, not-true}
use Rattle.model.specs.declared.Context.{Context}
use Rattle.model.specs.declared.Mapping.{Mapping}
use Rattle.model.specs.declared.Address.{Address}
use Rattle.model.specs.declared.Address.TheVariants.{Linear, GuestPhysical}
use Rattle.model.specs.Bits.{linear_bits}
use Rattle.model.specs.Context.{pcid_in_range, current_vpid, current_ept}
use Rattle.model.specs.Mappings.{linear, guest_physical, structure_cache, wide, fields_in_range, span_in_range, page_in_range, covers, pages}
use Rattle.model.specs.Events.{canonical, covers_linear, covers_guest_physical, page_of, guest_physical_page_of, guest_physical_in_range}
use Rattle.model.specs.Scopes.{is_current_ep4ta, current_pcid_or_global}
use Rattle.model.specs.Lookups.{translates_linear, usable}
use Rattle.origins.proofs.Laws.Lists.{every_map}
use Rattle.leaks.specs.Moments.{mapping_of, owned_start, owned_of, standing_owned}
use Rattle.leaks.specs.Leaks.{usable_tags, sign_extended, witness}
use Rattle.leaks.proofs.Laws.Usable.{usable_tagged, usable_witness, not_tagged, translates_tagged, sign_extended_canonical, sign_extended_page, page_below, linear_page_below, not_wide}
use Rattle.leaks.proofs.Laws.Exact.{valid_always}
use Rattle.stale_mappings.specs.StaleMappings.{page_at, frame_at, Stale, StaleCache, later_page, same_addresses, stale_here, stale_cache_here}
use Rattle.stale_mappings.specs.Statements.{ValidMapping, StaleExact, StaleExactInLogs}

-- ---- spans of translations

starts : (span a p : ℕ) → span ≤ 2 → a % pages span ≡ 0 → covers span a p ≡ true → a ≤ p
unfolding covers
starts zero a p small aligned h = let same = eqb-true (p / 1) (a / 1) h in omega arith
starts (suc zero) a p small aligned h = let same = eqb-true (p / 512) (a / 512) h in omega arith
starts (suc (suc zero)) a p small aligned h = let same = eqb-true (p / 262144) (a / 262144) h in omega arith
starts (suc (suc (suc n))) a p small aligned h = absurd (omega arith)

between : (span a q p : ℕ) → span ≤ 2 → covers span a p ≡ true → a ≤ q → q ≤ p → covers span a q ≡ true
unfolding covers
between zero a q p small h low high = let same = eqb-true (p / 1) (a / 1) h in eq-eqb (q / 1) (a / 1) (omega arith)
between (suc zero) a q p small h low high = let same = eqb-true (p / 512) (a / 512) h in eq-eqb (q / 512) (a / 512) (omega arith)
between (suc (suc zero)) a q p small h low high = let same = eqb-true (p / 262144) (a / 262144) h in eq-eqb (q / 262144) (a / 262144) (omega arith)
between (suc (suc (suc n))) a q p small h low high = absurd (omega arith)

-- a valid translation: its span is 2 at most, and its page a multiple
record Aligned (m : Mapping) : Type 0 where
  small : m.span ≤ 2
  aligned : m.page % pages m.span ≡ 0

aligned_translation : (m : Mapping) → fields_in_range m ≡ true → structure_cache m.kind ≡ false → Aligned m
unfolding fields_in_range
aligned_translation m h plain =
    let front = leb m.global 1 && pcid_in_range m.pcid in
    let two = (and-eq-true_iff (front && span_in_range m.kind m.span) (page_in_range m.kind m.span m.page)).0 h in
    let one = (and-eq-true_iff front (span_in_range m.kind m.span)).0 two.0 in
    let bound = 2 ^ (cond (wide m.kind) 57 48 - 12) in
    let last = (and-eq-true_iff (ltb m.page bound) (eqb (m.page % pages m.span) 0)).0 two.1 in
    record { small = leb-true m.span 2 (rw plain at one.1); aligned = eqb-true (m.page % pages m.span) 0 last.1 }

-- the later of the two first pages
module _ (new old : Mapping) where
  later_above : (new.page ≤ later_page new old) × (old.page ≤ later_page new old)
  later_above = go (ltb new.page old.page) refl
    where
      go : (b : Bool) → ltb new.page old.page ≡ b → (new.page ≤ cond b old.page new.page) × (old.page ≤ cond b old.page new.page)
      go true h = (omega (arith, ltb-true new.page old.page h), omega arith)
      go false h = (omega arith, omega (arith, ltb-false new.page old.page h))

  later_under : (n : ℕ) → new.page ≤ n → old.page ≤ n → later_page new old ≤ n
  later_under n h k = go (ltb new.page old.page)
    where
      go : (b : Bool) → cond b old.page new.page ≤ n
      go true = k
      go false = h

  later_below : (n : ℕ) → new.page < n → old.page < n → later_page new old < n
  later_below n h k = go (ltb new.page old.page)
    where
      go : (b : Bool) → cond b old.page new.page < n
      go true = k
      go false = h

-- ---- usable at an address that the mapping covers

module _ (c : Context) (m : Mapping) where
  linear_parts : (address : ℕ) → usable c (Linear address) m ≡ true → (covers m.span m.page (page_of c.linear_width address) ≡ true) × (guest_physical m.kind ≡ false)
  unfolding usable
  linear_parts address h =
      let w = c.linear_width in
      let front = canonical w address && covers_linear w address m in
      let vpid = eqb m.vpid (current_vpid c.place) in
      let pcid = current_pcid_or_global c m in
      let four = (and-eq-true_iff (front && vpid && pcid) (translates_linear (current_ept c.place) m)).0 h in
      let two = (and-eq-true_iff front vpid).0 ((and-eq-true_iff (front && vpid) pcid).0 four.0).0 in
      (((and-eq-true_iff (canonical w address) (covers_linear w address m)).0 two.0).1, go (guest_physical m.kind) refl four.1)
    where
      go : (b : Bool) → guest_physical m.kind ≡ b → translates_linear (current_ept c.place) m ≡ true → b ≡ false
      go true is t = absurd (false≢true (sym (not_tagged m.kind is) ∙ translates_tagged (current_ept c.place) m t))
      go false is t = refl

  physical_parts : (address : ℕ) → usable c (GuestPhysical address) m ≡ true → (covers m.span m.page (guest_physical_page_of address) ≡ true) × (guest_physical m.kind ≡ true)
  unfolding usable
  physical_parts address h =
      let front = guest_physical_in_range address && covers_guest_physical address m in
      let three = (and-eq-true_iff (front && guest_physical m.kind) (is_current_ep4ta (current_ept c.place) m.ep4ta)).0 h in
      let two = (and-eq-true_iff front (guest_physical m.kind)).0 three.0 in
      (((and-eq-true_iff (guest_physical_in_range address) (covers_guest_physical address m)).0 two.0).1, two.1)

  tags_linear : guest_physical m.kind ≡ false → usable_tags c m ≡ true
      → (eqb m.vpid (current_vpid c.place) && current_pcid_or_global c m && translates_linear (current_ept c.place) m) ≡ true
  unfolding usable_tags
  tags_linear is h = go (eqb m.vpid (current_vpid c.place) && current_pcid_or_global c m && translates_linear (current_ept c.place) m) (rw is at h)
    where
      go : (x : Bool) → (x || false) ≡ true → x ≡ true
      go true k = refl
      go false k = k

  tags_physical : guest_physical m.kind ≡ true → usable_tags c m ≡ true → is_current_ep4ta (current_ept c.place) m.ep4ta ≡ true
  unfolding usable_tags
  tags_physical is h = go (translates_linear (current_ept c.place) m) refl (rw is at h)
    where
      last : (x y : Bool) → (x && false || y) ≡ true → y ≡ true
      last true y k = k
      last false y k = k

      go : (t : Bool) → translates_linear (current_ept c.place) m ≡ t
          → ((eqb m.vpid (current_vpid c.place) && current_pcid_or_global c m && t) || is_current_ep4ta (current_ept c.place) m.ep4ta) ≡ true
          → is_current_ep4ta (current_ept c.place) m.ep4ta ≡ true
      go true is' k = absurd (false≢true (sym (not_tagged m.kind is) ∙ translates_tagged (current_ept c.place) m is'))
      go false is' k = last (eqb m.vpid (current_vpid c.place) && current_pcid_or_global c m) (is_current_ep4ta (current_ept c.place) m.ep4ta) k

  -- the page q, which the mapping covers
  at_linear : (q : ℕ) → q < 2 ^ (linear_bits c.linear_width - 12) → covers m.span m.page q ≡ true → guest_physical m.kind ≡ false → usable_tags c m ≡ true
      → usable c (Linear (sign_extended c.linear_width q)) m ≡ true
  unfolding usable
  at_linear q below covered is tags =
      let w = c.linear_width in
      let parts = (and-eq-true_iff (eqb m.vpid (current_vpid c.place) && current_pcid_or_global c m) (translates_linear (current_ept c.place) m)).0 (tags_linear is tags) in
      let front = (and-eq-true_iff (eqb m.vpid (current_vpid c.place)) (current_pcid_or_global c m)).0 parts.0 in
      rw (sign_extended_canonical w q below, sign_extended_page w q below, covered, front.0, front.1, parts.1)

  at_physical : (q : ℕ) → q < 2 ^ 36 → covers m.span m.page q ≡ true → guest_physical m.kind ≡ true → usable_tags c m ≡ true → usable c (GuestPhysical (q * 2 ^ 12)) m ≡ true
  unfolding usable
  at_physical q below covered is tags =
      let page : guest_physical_page_of (q * 2 ^ 12) ≡ q = omega arith in
      rw (lt-ltb (q * 2 ^ 12) (2 ^ 48) (omega arith), page, covered, is, tags_physical is tags)

  -- its own page is below the bound of its addresses
  below_physical : ValidMapping c m → guest_physical m.kind ≡ true → m.page < 2 ^ 36
  below_physical v is = rw (not_wide m.kind is) at (page_below m v.fields)

  below_linear : ValidMapping c m → guest_physical m.kind ≡ false → usable_tags c m ≡ true → m.page < 2 ^ (linear_bits c.linear_width - 12)
  below_linear v is tags =
      let t = ((and-eq-true_iff (eqb m.vpid (current_vpid c.place) && current_pcid_or_global c m) (translates_linear (current_ept c.place) m)).0 (tags_linear is tags)).1 in
      linear_page_below c.linear_width m v.fields v.width (translates_tagged (current_ept c.place) m t)

-- ---- the tests

-- the test for translations, taken apart
record Tested (c : Context) (new old : Mapping) : Type 0 where
  tags_new : usable_tags c new ≡ true
  tags_old : usable_tags c old ≡ true
  addresses : same_addresses new old ≡ true
  plain : (structure_cache new.kind || structure_cache old.kind) ≡ false
  covers_new : covers new.span new.page (later_page new old) ≡ true
  covers_old : covers old.span old.page (later_page new old) ≡ true
  differ : eqb (old.frame + new.page) (new.frame + old.page) ≡ false

module _ (c : Context) (new old : Mapping) where
  tested : stale_here c new old ≡ true → Tested c new old
  unfolding stale_here
  tested h =
      let a = usable_tags c new in
      let b = usable_tags c old in
      let s = same_addresses new old in
      let p = not (structure_cache new.kind || structure_cache old.kind) in
      let n = covers new.span new.page (later_page new old) in
      let o = covers old.span old.page (later_page new old) in
      let six = (and-eq-true_iff (a && b && s && p && n && o) (not (eqb (old.frame + new.page) (new.frame + old.page)))).0 h in
      let five = (and-eq-true_iff (a && b && s && p && n) o).0 six.0 in
      let four = (and-eq-true_iff (a && b && s && p) n).0 five.0 in
      let three = (and-eq-true_iff (a && b && s) p).0 four.0 in
      let two = (and-eq-true_iff (a && b) s).0 three.0 in
      let one = (and-eq-true_iff a b).0 two.0 in
      record {
        tags_new = one.0;
        tags_old = one.1;
        addresses = two.1;
        plain = not-true (structure_cache new.kind || structure_cache old.kind) three.1;
        covers_new = four.1;
        covers_old = five.1;
        differ = not-true (eqb (old.frame + new.page) (new.frame + old.page)) six.1;
      }

  test_made : Tested c new old → stale_here c new old ≡ true
  unfolding stale_here
  test_made t = rw (t.tags_new, t.tags_old, t.addresses, t.plain, t.covers_new, t.covers_old, t.differ)

  module _ (v : ValidMapping c new) (w : ValidMapping c old) where
    elsewhere : Tested c new old → frame_at old (later_page new old) ≡ frame_at new (later_page new old) → ⊥
    elsewhere t same =
        let above = later_above new old in
        eqb-false (old.frame + new.page) (new.frame + old.page) t.differ (omega (arith, above.0, above.1, same))

    stale_sound : stale_here c new old ≡ true → Stale c new old
    stale_sound h = go (guest_physical new.kind) (guest_physical old.kind) refl refl (tested h).addresses
      where
        t : Tested c new old
        t = tested h

        q : ℕ
        q = later_page new old

        go : (x y : Bool) → guest_physical new.kind ≡ x → guest_physical old.kind ≡ y → cond x y (not y) ≡ true → Stale c new old
        go true true ix iy s =
            let below = later_below new old (2 ^ 36) (below_physical c new v ix) (below_physical c old w iy) in
            let page : guest_physical_page_of (q * 2 ^ 12) ≡ q = omega arith in
            record {
              address = GuestPhysical (q * 2 ^ 12);
              new_usable = at_physical c new q below t.covers_new ix t.tags_new;
              old_usable = at_physical c old q below t.covers_old iy t.tags_old;
              translations = t.plain;
              elsewhere = λ same. elsewhere t (rw page at same);
            }
        go true false ix iy s = absurd (false≢true s)
        go false true ix iy s = absurd (false≢true s)
        go false false ix iy s =
            let bound = 2 ^ (linear_bits c.linear_width - 12) in
            let below = later_below new old bound (below_linear c new v ix t.tags_new) (below_linear c old w iy t.tags_old) in
            let page = sign_extended_page c.linear_width q below in
            record {
              address = Linear (sign_extended c.linear_width q);
              new_usable = at_linear c new q below t.covers_new ix t.tags_new;
              old_usable = at_linear c old q below t.covers_old iy t.tags_old;
              translations = t.plain;
              elsewhere = λ same. elsewhere t (rw page at same);
            }

    -- a page that both cover, and where they lead to two frames
    stale_made : (p : ℕ) → (structure_cache new.kind || structure_cache old.kind) ≡ false → covers new.span new.page p ≡ true → covers old.span old.page p ≡ true
        → (frame_at old p ≡ frame_at new p → ⊥)
        → usable_tags c new ≡ true
        → usable_tags c old ≡ true
        → same_addresses new old ≡ true
        → stale_here c new old ≡ true
    stale_made p plain covers_new covers_old other tags_new tags_old addresses =
        let both = (or-eq-false-eq-eq-false-and-eq-false (structure_cache new.kind) (structure_cache old.kind)).0 plain in
        let n = aligned_translation new v.fields both.0 in
        let o = aligned_translation old w.fields both.1 in
        let low_new = starts new.span new.page p n.small n.aligned covers_new in
        let low_old = starts old.span old.page p o.small o.aligned covers_old in
        let above = later_above new old in
        let under = later_under new old p low_new low_old in
        test_made
        (record {
          tags_new = tags_new;
          tags_old = tags_old;
          addresses = addresses;
          plain = plain;
          covers_new = between new.span new.page (later_page new old) p n.small covers_new above.0 under;
          covers_old = between old.span old.page (later_page new old) p o.small covers_old above.1 under;
          differ = ne_eqb (old.frame + new.page) (new.frame + old.page) (λ same. other (omega (arith, low_new, low_old, same)));
        })

    stale_complete : Stale c new old → stale_here c new old ≡ true
    stale_complete k = go k.address k.new_usable k.old_usable k.elsewhere
      where
        go : (a : Address) → usable c a new ≡ true → usable c a old ≡ true → (frame_at old (page_at c a) ≡ frame_at new (page_at c a) → ⊥) → stale_here c new old ≡ true
        go (Linear address) un uo other =
            let n = linear_parts c new address un in
            let o = linear_parts c old address uo in
            stale_made (page_of c.linear_width address) k.translations n.0 o.0 other (usable_tagged c new (Linear address) un) (usable_tagged c old (Linear address) uo) (rw (n.1, o.1))
        go (GuestPhysical address) un uo other =
            let n = physical_parts c new address un in
            let o = physical_parts c old address uo in
            stale_made (guest_physical_page_of address) k.translations n.0 o.0 other (usable_tagged c new (GuestPhysical address) un) (usable_tagged c old (GuestPhysical address) uo) (rw (n.1, o.1))

    same_witness : old.kind ≡ new.kind → old.page ≡ new.page → witness c old ≡ witness c new
    unfolding witness
    same_witness kind page = rw (kind, page)

    cache_sound : stale_cache_here c new old ≡ true → StaleCache c new old
    unfolding stale_cache_here
    cache_sound h =
        let a = usable_tags c new in
        let b = usable_tags c old in
        let s = structure_cache new.kind && structure_cache old.kind in
        let k = eqb old.kind new.kind in
        let n = eqb old.span new.span in
        let p = eqb old.page new.page in
        let six = (and-eq-true_iff (a && b && s && k && n && p) (not (eqb old.frame new.frame))).0 h in
        let five = (and-eq-true_iff (a && b && s && k && n) p).0 six.0 in
        let four = (and-eq-true_iff (a && b && s && k) n).0 five.0 in
        let three = (and-eq-true_iff (a && b && s) k).0 four.0 in
        let two = (and-eq-true_iff (a && b) s).0 three.0 in
        let one = (and-eq-true_iff a b).0 two.0 in
        let kind = eqb-true old.kind new.kind three.1 in
        let page = eqb-true old.page new.page five.1 in
        record {
          address = witness c new;
          new_usable = usable_witness c new v.fields v.width one.0;
          old_usable = ap (λ a. usable c a old) (sym (same_witness kind page)) ∙ usable_witness c old w.fields w.width one.1;
          caches = two.1;
          kind = kind;
          span = eqb-true old.span new.span four.1;
          page = page;
          elsewhere = eqb-false old.frame new.frame (not-true (eqb old.frame new.frame) six.1);
        }

    cache_complete : StaleCache c new old → stale_cache_here c new old ≡ true
    unfolding stale_cache_here
    cache_complete k =
        let new_tags = usable_tagged c new k.address k.new_usable in
        let old_tags = usable_tagged c old k.address k.old_usable in
        rw (
          new_tags,
          old_tags,
          k.caches,
          eq-eqb old.kind new.kind k.kind,
          eq-eqb old.span new.span k.span,
          eq-eqb old.page new.page k.page,
          ne_eqb old.frame new.frame k.elsewhere,
        )

pub stale_exact_holds : StaleExact
stale_exact_holds c new old v w =
    record {
      sound = stale_sound c new old v w;
      complete = stale_complete c new old v w;
      sound_cache = cache_sound c new old v w;
      complete_cache = cache_complete c new old v w;
    }

pub stale_exact_in_logs_holds : StaleExactInLogs
stale_exact_in_logs_holds c es =
    let d = owned_of (owned_start c) es in
    every_map (standing_owned d.notes)
    (λ new n. every_map (standing_owned d.notes)
    (λ old o. stale_exact_holds d.now.context (mapping_of new) (mapping_of old) (record { fields = n.fields; width = n.width }) (record { fields = o.fields; width = o.width })) (valid_always c es))
    (valid_always c es)
