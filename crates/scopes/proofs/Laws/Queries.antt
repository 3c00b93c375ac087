-- Each event's query asks what its definition asks, of every mapping of a known kind.
use Rattle.std.specs.Prelude.{ℕ, ◌<◌, ◌≤◌, Bool, List, Option, Some, None, cond, ◌&&◌, ◌||◌, ◌≡◌, eqb, leb}
use Rattle.std.proofs.Math.Bool.{true, false, not, or-true, or-false}
use Rattle.std.proofs.Math.Path.{refl, sym}
use Rattle.std.proofs.Common.{◌∙◌, arith}
use borrow.Author.Tests.{ne_eqb, le-leb, lt-leb}
use Rattle.model.specs.declared.Context.{Context}
use Rattle.model.specs.declared.Ept.{Ept}
use Rattle.model.specs.declared.Ept.TheVariants.{Off, On}
use Rattle.model.specs.declared.Mapping.{Mapping}
use Rattle.model.specs.declared.Operands.{Operands}
use Rattle.model.specs.declared.Violation.{Violation}
use Rattle.model.specs.Bits.{bit}
use Rattle.model.specs.Context.{current_vpid, current_ept}
use Rattle.model.specs.Layouts.{mapping_bodies, mapping_kind}
use Rattle.model.specs.Mappings.{mapping, Held, linear, guest_physical, combined, global_translation}
use Rattle.model.specs.Events.{page_of, guest_physical_page_of}
use Rattle.model.specs.Scopes.{Tests, vpid_tagged, vpid_named, ep4ta_of, is_current_ep4ta, no_tests, invvpid_tests, invept_tests, invlpg_tests, guest_physical_violation_tests, combined_violation_tests, violation_tests, transition_tests, pcid_named, invpcid_tests, mov_to_cr3_tests}
use Rattle.model.specs.Reasons.{first_failed}
use Rattle.laws.specs.Layouts.{at_rows, of_mapping_kind, agrees, agrees_true}
use Rattle.queries.specs.declared.Tags.{Tags}
use Rattle.queries.specs.declared.Pages.{Pages}
use Rattle.queries.specs.declared.Further.{Further}
use Rattle.queries.specs.declared.Query.{Query}
use Rattle.queries.specs.Queries.{any, only, all_but, touched, of_pcid, of_ep4ta, covers_asked, at_page, not_spared, query_tests, Meets}
use Rattle.scopes.specs.Tags.{tags_of_ept}

-- ---- sets of kinds

-- a set has the kinds of which a test holds, if a computed test says so
in_set : (set : ℕ) (test : ℕ → Bool) → at_rows (λ k. agrees (bit k set) (test k)) mapping_bodies ≡ true → (k : ℕ) → mapping_kind k ≡ true → bit k set ≡ test k
in_set set test all k known =
    agrees_true (bit k set) (test k) (of_mapping_kind (λ k. agrees (bit k set) (test k)) all k known)

module _ (k : ℕ) (known : mapping_kind k ≡ true) where
  all_kinds : bit k 0x7FE ≡ true
  all_kinds = in_set 0x7FE (λ k. true) refl k known

  kinds_with_vpid : bit k 0x7DA ≡ (linear k || combined k)
  unfolding linear combined
  kinds_with_vpid = in_set 0x7DA (λ k. linear k || combined k) refl k known

  kinds_with_ep4ta : bit k 0x56C ≡ (guest_physical k || combined k)
  unfolding guest_physical combined
  kinds_with_ep4ta = in_set 0x56C (λ k. guest_physical k || combined k) refl k known

  kinds_guest_physical : bit k 0x24 ≡ guest_physical k
  unfolding guest_physical
  kinds_guest_physical = in_set 0x24 guest_physical refl k known

  -- a mapping with a VPID is not guest-physical
  vpid_not_guest_physical : (linear k || combined k) ≡ true → guest_physical k ≡ false
  unfolding linear guest_physical combined
  vpid_not_guest_physical tagged =
      go (guest_physical k) (rw tagged at (of_mapping_kind (λ k. not ((linear k || combined k) && guest_physical k)) refl k known))
    where
      go : (b : Bool) → not (true && b) ≡ true → b ≡ false
      go true h = sym h
      go false h = refl

-- ---- tags

cond_same : {A : Type 0} (b : Bool) (x : A) → cond b x x ≡ x
cond_same true x = refl
cond_same false x = refl

touched_any : (tag : ℕ) → touched any tag ≡ true
unfolding touched
touched_any tag = cond_same (eqb tag 0) true

touched_only : (one tag : ℕ) → touched (only one) tag ≡ eqb tag one
unfolding touched
touched_only one tag = go (eqb tag one)
  where
    go : (b : Bool) → cond b true false ≡ b
    go true = refl
    go false = refl

touched_all_but : (one tag : ℕ) → touched (all_but one) tag ≡ not (eqb tag one)
unfolding touched
touched_all_but one tag = go (eqb tag one)
  where
    go : (b : Bool) → cond b false true ≡ not b
    go true = refl
    go false = refl

touched_either : (b : Bool) (a n tag : ℕ) → touched (cond b (all_but a) (only n)) tag ≡ cond b (not (eqb tag a)) (eqb tag n)
touched_either true a n tag = touched_all_but a tag
touched_either false a n tag = touched_only n tag

touched_ept : (ept : Ept) (tag : ℕ) → touched (tags_of_ept ept) tag ≡ is_current_ep4ta ept tag
unfolding touched
touched_ept Off tag = cond_same (eqb tag 0) false
touched_ept (On ep4ta) tag = touched_only ep4ta tag

-- ---- the queries

-- where the kind is wrong nothing else counts
by_kind : (t t' : Tests) → t.kind ≡ t'.kind → (t'.kind ≡ true → first_failed t ≡ first_failed t') → first_failed t ≡ first_failed t'
unfolding first_failed
by_kind t t' same rest = go t'.kind refl
  where
    go : (b : Bool) → t'.kind ≡ b → first_failed t ≡ first_failed t'
    go true is = rest is
    go false is = rw (same, is)

-- tests that are the same one by one
record Alike (t t' : Tests) : Type 0 where
  kind : t.kind ≡ t'.kind
  vpid : t.vpid ≡ t'.vpid
  pcid : t.pcid ≡ t'.pcid
  ep4ta : t.ep4ta ≡ t'.ep4ta
  page : t.page ≡ t'.page
  global : t.global ≡ t'.global

by_tests : (t t' : Tests) → Alike t t' → first_failed t ≡ first_failed t'
unfolding first_failed
by_tests t t' a = rw (a.kind, a.vpid, a.pcid, a.ep4ta, a.page, a.global)

any_pcid : (guest more : Bool) (pcid : ℕ) → (guest || (touched any pcid || more)) ≡ true
any_pcid guest more pcid = rw (touched_any, or-true)

-- either sort of mapping: guest-physical, or with a VPID
by_sort : (m : Mapping) (P : Type 0) → (guest_physical m.kind ≡ true → P) → (guest_physical m.kind ≡ false → P) → P
by_sort m P one other = go (guest_physical m.kind) refl
  where
    go : (b : Bool) → guest_physical m.kind ≡ b → P
    go true is = one is
    go false is = other is

-- what is asked of mappings with a VPID, and further
abbrev query : ℕ → Tags → Option Further → Query
query kinds vpid further = record { kinds = kinds; vpid = vpid; further = further }

abbrev further : Tags → Bool → Tags → Option Pages → Bool → Further
further pcid global ep4ta page sparing =
    record { pcid = pcid; global = global; ep4ta = ep4ta; page = page; sparing = sparing }

abbrev pages : ℕ → ℕ → Bool → Option Pages
pages physical linear structures = Some (record { physical = physical; linear = linear; structures = structures })

pub meets_nothing : Meets (λ m. no_tests) (query 0x7FE any None)
unfolding first_failed query_tests
meets_nothing =
    record {
      same = λ m known.
          by_sort m _
          (λ is. rw (all_kinds m.kind known, is))
          (λ is. rw (all_kinds m.kind known, is, touched_any));
    }

-- the events that touch mappings with a VPID; what is left is asked of these alone
meets_with_vpid : (tests : Mapping → Tests) (q : Query)
    → q.kinds ≡ 0x7DA
    → ((m : Mapping) → (tests m).kind ≡ vpid_tagged m)
    → ((m : Mapping) → (query_tests q m).kind ≡ (tests m).kind → guest_physical m.kind ≡ false → first_failed (query_tests q m) ≡ first_failed (tests m))
    → Meets tests q
unfolding query_tests
meets_with_vpid tests q kinds tagged rest =
    record {
      same = λ m known.
          let kind : (query_tests q m).kind ≡ (tests m).kind = rw kinds (kinds_with_vpid m.kind known ∙ sym (tagged m)) in
          by_kind (query_tests q m) (tests m) kind
          (λ is. rest m kind (vpid_not_guest_physical m.kind known (sym (tagged m) ∙ is)));
    }

-- INVVPID: type 0 asks a page, types 1 and 2 nothing further, and type 3 spares global translations
module _ (c : Context) (o : Operands) where
  abbrev meets : Option Further → Type 0
  meets further = Meets (invvpid_tests c o) (query 0x7DA (cond (eqb o.type_number 2) (all_but 0) (only (vpid_named o))) further)

  pub meets_invvpid_page : o.type_number ≡ 0 → meets (Some (further any false any (pages 0 (page_of c.linear_width o.high) true) false))
  unfolding query_tests of_pcid of_ep4ta covers_asked at_page not_spared invvpid_tests
  meets_invvpid_page is =
      meets_with_vpid _ _ refl (λ m. refl)
      (λ m kind tagged.
      by_tests _ _
      (record {
        kind = kind;
        vpid = rw (tagged, touched_either);
        pcid = any_pcid (guest_physical m.kind) false m.pcid;
        ep4ta = touched_any m.ep4ta;
        page = rw (tagged, is);
        global = rw is;
      }))

  pub meets_invvpid : 0 < o.type_number → o.type_number ≤ 2 → meets None
  unfolding query_tests invvpid_tests
  meets_invvpid some most =
      meets_with_vpid _ _ refl (λ m. refl)
      (λ m kind tagged.
      by_tests _ _
      (record { kind = kind; vpid = rw (tagged, touched_either); pcid = refl; ep4ta = refl; page = rw (ne_eqb o.type_number 0 (λ zero. absurd (omega arith))); global = rw (le-leb o.type_number 2 most) }))

  pub meets_invvpid_sparing : 2 < o.type_number → meets (Some (further any false any None true))
  unfolding query_tests of_pcid of_ep4ta at_page not_spared invvpid_tests
  meets_invvpid_sparing high =
      meets_with_vpid _ _ refl (λ m. refl)
      (λ m kind tagged.
      by_tests _ _
      (record {
        kind = kind;
        vpid = rw (tagged, touched_either);
        pcid = any_pcid (guest_physical m.kind) false m.pcid;
        ep4ta = touched_any m.ep4ta;
        page = rw (ne_eqb o.type_number 0 (λ zero. absurd (omega arith)));
        global = rw (lt-leb o.type_number 2 high);
      }))

-- INVEPT: type 1 asks an EP4TA
module _ (o : Operands) where
  pub meets_invept_one : eqb o.type_number 1 ≡ true → Meets (invept_tests o) (query 0x56C any (Some (further any false (only (ep4ta_of o.low)) None false)))
  unfolding query_tests of_pcid of_ep4ta at_page not_spared invept_tests
  meets_invept_one is =
      record {
        same = λ m known.
            by_tests _ _
            (record {
              kind = kinds_with_ep4ta m.kind known;
              vpid = rw (touched_any, or-true);
              pcid = any_pcid (guest_physical m.kind) false m.pcid;
              ep4ta = rw (is, touched_only);
              page = refl;
              global = refl;
            });
      }

  pub meets_invept : eqb o.type_number 1 ≡ false → Meets (invept_tests o) (query 0x56C any None)
  unfolding query_tests invept_tests
  meets_invept other =
      record {
        same = λ m known.
            by_tests _ _
            (record {
              kind = kinds_with_ep4ta m.kind known;
              vpid = rw (touched_any, or-true);
              pcid = refl;
              ep4ta = rw other;
              page = refl;
              global = refl;
            });
      }

pub meets_invlpg : (c : Context) (address : ℕ)
    → Meets (invlpg_tests c address) (query 0x7DA (only (current_vpid c.place)) (Some (further (only c.pcid) true any (pages 0 (page_of c.linear_width address) false) false)))
unfolding first_failed query_tests of_pcid of_ep4ta covers_asked at_page not_spared invlpg_tests
meets_invlpg c address = meets_with_vpid _ _ refl (λ m. refl) (λ m kind tagged. rw (kind, tagged, touched_only, touched_only, touched_any))

kinds_of_violation : (k : ℕ) → mapping_kind k ≡ true → (b : Bool) → bit k (cond b 0x56C 0x24) ≡ (guest_physical k || (b && combined k))
kinds_of_violation k known true = kinds_with_ep4ta k known
kinds_of_violation k known false = kinds_guest_physical k known ∙ sym (or-false (guest_physical k))

pub meets_violation : (c : Context) (v : Violation)
    → Meets (violation_tests c v)
    (query (cond (eqb v.flag 1) 0x56C 0x24) (only (current_vpid c.place)) (Some (further (only c.pcid) false (tags_of_ept (current_ept c.place)) (pages (guest_physical_page_of v.physical) (page_of c.linear_width v.linear) true) false)))
unfolding first_failed query_tests of_pcid of_ep4ta covers_asked at_page not_spared violation_tests guest_physical_violation_tests combined_violation_tests
meets_violation c v =
    record {
      same = λ m known.
          by_sort m _
          (λ is. rw (kinds_of_violation m.kind known (eqb v.flag 1), is, touched_ept))
          (λ is. rw (kinds_of_violation m.kind known (eqb v.flag 1), is, touched_only, touched_only, or-false, touched_ept));
    }

pub meets_transition : Meets transition_tests (query 0x7DA (only 0) None)
unfolding first_failed query_tests transition_tests
meets_transition = meets_with_vpid _ _ refl (λ m. refl) (λ m kind tagged. rw (kind, tagged, touched_only))

touched_or_any : (b : Bool) (n tag : ℕ) → touched (cond b (only n) any) tag ≡ cond b (eqb tag n) true
touched_or_any true n tag = touched_only n tag
touched_or_any false n tag = touched_any tag

not_sparing : (b global : Bool) → not (not b && global) ≡ cond b true (not global)
not_sparing true global = refl
not_sparing false global = refl

-- INVPCID: type 0 asks a page
module _ (c : Context) (o : Operands) where
  abbrev meets' : Option Pages → Type 0
  meets' page =
      Meets (invpcid_tests c o)
      (query 0x7DA (only (current_vpid c.place)) (Some (further (cond (leb o.type_number 1) (only (pcid_named o)) any) false any page (not (eqb o.type_number 2)))))

  pub meets_invpcid_page : eqb o.type_number 0 ≡ true → meets' (pages 0 (page_of c.linear_width o.high) true)
  unfolding query_tests of_pcid of_ep4ta covers_asked at_page not_spared invpcid_tests
  meets_invpcid_page is =
      meets_with_vpid _ _ refl (λ m. refl)
      (λ m kind tagged.
      by_tests _ _
      (record {
        kind = kind;
        vpid = rw (tagged, touched_only);
        pcid = rw (tagged, touched_or_any, or-false);
        ep4ta = touched_any m.ep4ta;
        page = rw (tagged, is);
        global = not_sparing (eqb o.type_number 2) (global_translation m);
      }))

  pub meets_invpcid_no_page : eqb o.type_number 0 ≡ false → meets' None
  unfolding query_tests of_pcid of_ep4ta at_page not_spared invpcid_tests
  meets_invpcid_no_page other =
      meets_with_vpid _ _ refl (λ m. refl)
      (λ m kind tagged.
      by_tests _ _
      (record {
        kind = kind;
        vpid = rw (tagged, touched_only);
        pcid = rw (tagged, touched_or_any, or-false);
        ep4ta = touched_any m.ep4ta;
        page = rw other;
        global = not_sparing (eqb o.type_number 2) (global_translation m);
      }))

  -- of every type
  pub meets_invpcid : meets' (cond (eqb o.type_number 0) (pages 0 (page_of c.linear_width o.high) true) None)
  meets_invpcid = go (eqb o.type_number 0) refl
    where
      go : (b : Bool) → eqb o.type_number 0 ≡ b → meets' (cond b (pages 0 (page_of c.linear_width o.high) true) None)
      go true is = meets_invpcid_page is
      go false is = meets_invpcid_no_page is

pub meets_mov_to_cr3 : (c : Context) (pcid : ℕ)
    → Meets (mov_to_cr3_tests c pcid) (query 0x7DA (only (current_vpid c.place)) (Some (further (only pcid) false any None true)))
unfolding query_tests of_pcid of_ep4ta at_page not_spared mov_to_cr3_tests
meets_mov_to_cr3 c pcid =
    meets_with_vpid _ _ refl (λ m. refl)
    (λ m kind tagged.
    by_tests _ _
    (record {
      kind = kind;
      vpid = rw (tagged, touched_only);
      pcid = rw (tagged, touched_only, or-false);
      ep4ta = touched_any m.ep4ta;
      page = refl;
      global = refl;
    }))

-- of a record, the query's first failed test is that of the tests it meets
pub first_failed_asked : (tests : Mapping → Tests) (q : Query) (r : List ℕ) → Meets tests q → Held r
    → first_failed (query_tests q (mapping r)) ≡ first_failed (tests (mapping r))
unfolding mapping
first_failed_asked tests q r meets held = meets.same (mapping r) held.known
