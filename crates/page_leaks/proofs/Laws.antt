-- Another's page: the test is the definition, and it begins with a VM entry or kind 24 alone.
use Rattle.std.specs.Prelude.{ℕ, zero, suc, ◌+◌, ◌-◌, ◌<◌, ◌≤◌, ◌≡◌, Bool, cond, not, ◌&&◌, ◌||◌, List, [], ◌∷◌, ◌++◌, eqb, leb, ltb}
use Rattle.std.proofs.Math.Path.{refl, sym}
use Rattle.std.proofs.Common.{◌∙◌, append-nil, arith}
use Rattle.std.proofs.Math.Bool.{true, false, and-eq-true_iff, false≢true}
use borrow.Author.Tests.{ne_eqb, eqb-true, eqb-false, ltb-true, leb-true, le-leb, lt-ltb, not-true}
use Rattle.model.specs.declared.Context.{Context}
use Rattle.model.specs.declared.Mapping.{Mapping}
use Rattle.model.specs.declared.Address.{Address}
use Rattle.model.specs.Context.{in_guest}
use Rattle.model.specs.Layouts.{kind_of, mapping_kind}
use Rattle.model.specs.Mappings.{pages}
use Rattle.model.specs.Events.{event}
use Rattle.model.specs.Scopes.{next_context}
use Rattle.model.specs.Steps.{in_scope}
use Rattle.model.specs.Lookups.{usable}
use Rattle.laws.specs.Lists.{Every, none}
use Rattle.laws.specs.Events.{event_creation}
use Rattle.leaks.specs.Moments.{Logged, Owner, monitor, renter, same_owner, present, Moment, occupant, accepts, moment_after, Owned, owned_note, owned_start, owned_of, owned_after, standing_owned, mapping_of}
use Rattle.leaks.specs.Leaks.{usable_tags}
use Rattle.origins.specs.Standing.{those}
use Rattle.page_leaks.specs.PageLeaks.{translation, leads_to, or_else, last_to, any_below, taken_frame, page_leaks_here, page_leaks, page_begins}
use Rattle.page_leaks.specs.Statements.{page_none_missed, page_begins_by_entry_or_24, PageExactly, page_leaks_exact}
use Rattle.origins.proofs.Laws.Lists.{part_every, every_those, those_none, those_fail, every_map, every_unit}
use Rattle.leaks.proofs.Laws.Exact.{ValidAt, valid_always, differ}
use Rattle.leaks.proofs.Laws.Events.{usable_before}
use Rattle.leaks.proofs.Laws.Usable.{right, usable_tagged, usable_somewhere}
use Rattle.leaks.proofs.Laws.Moments.{every_standing_after}
use Rattle.leaks.proofs.Laws.Leaks.{moment_accepted, moment_refused, same_refl, same_true, present_guest, lets_use_kind}

-- a test that holds of a number below n
pub any_below_found : (p : ℕ → Bool) (n : ℕ) → any_below p n ≡ true → (k : ℕ) × (k < n) × (p k ≡ true)
unfolding any_below
any_below_found p zero h = absurd (false≢true h)
any_below_found p (suc n) h = go (p n) refl h (any_below_found p n)
  where
    go : (b : Bool) → p n ≡ b → (b || any_below p n) ≡ true → (any_below p n ≡ true → (k : ℕ) × (k < n) × (p k ≡ true)) → (k : ℕ) × (k < suc n) × (p k ≡ true)
    go true is h rest = (n, omega arith, is)
    go false is h rest = let found = rest h in (found.0, omega arith, found.2)

pub any_below_made : (p : ℕ → Bool) (n k : ℕ) → k < n → p k ≡ true → any_below p n ≡ true
unfolding any_below
any_below_made p zero k h is = absurd (omega arith)
any_below_made p (suc n) k h is = go (eqb k n) refl (any_below_made p n k)
  where
    go : (b : Bool) → eqb k n ≡ b → (k < n → p k ≡ true → any_below p n ≡ true) → (p n || any_below p n) ≡ true
    go true equal rest = rw (← eqb-true k n equal, is)
    go false differ rest = let less : k < n = omega (arith, eqb-false k n differ) in rw (rest less is) (right (p n))

-- who was last, with one more
or_else_none : (w : Owner) → or_else w monitor ≡ w
or_else_none monitor = refl
or_else_none (renter n) = refl

or_else_assoc : (x y z : Owner) → or_else (or_else x y) z ≡ or_else x (or_else y z)
or_else_assoc monitor y z = refl
or_else_assoc (renter n) y z = refl

pub last_to_append : (ls : List Owned) (x : Owned) (f : ℕ) → last_to (ls ++ (x ∷ [])) f ≡ or_else (cond (leads_to f (mapping_of x)) x.owner monitor) (last_to ls f)
unfolding last_to
last_to_append [] x f = sym (or_else_none (cond (leads_to f (mapping_of x)) x.owner monitor))
last_to_append (l ∷ ls) x f =
    rw (last_to_append ls x f) (or_else_assoc (cond (leads_to f (mapping_of x)) x.owner monitor) (last_to ls f) (cond (leads_to f (mapping_of l)) l.owner monitor))

-- the test, taken apart and put together
pub record Parts (shared : ℕ → Bool) (m : Moment) (notes : List Owned) (l : Owned) : Type 0 where
  pub guest : in_guest m.context.place ≡ true
  pub own : same_owner l.owner (occupant m) ≡ true
  pub tags : usable_tags m.context (mapping_of l) ≡ true
  pub translates : translation (mapping_of l) ≡ true
  pub nth : ℕ
  pub below : nth < pages (mapping_of l).span
  pub kept : shared ((mapping_of l).frame + nth) ≡ false
  pub other : same_owner (last_to notes ((mapping_of l).frame + nth)) (occupant m) ≡ false

pub page_parts : (shared : ℕ → Bool) (m : Moment) (notes : List Owned) (l : Owned) → page_leaks_here shared m notes l ≡ true → Parts shared m notes l
unfolding page_leaks_here taken_frame
page_parts shared m notes l h =
    let guest = in_guest m.context.place in
    let own = same_owner l.owner (occupant m) in
    let tags = usable_tags m.context (mapping_of l) in
    let test : ℕ → Bool = λ (n : ℕ). taken_frame shared m notes ((mapping_of l).frame + n) in
    let four = (and-eq-true_iff (guest && own && tags && translation (mapping_of l)) (any_below test (pages (mapping_of l).span))).0 h in
    let three = (and-eq-true_iff (guest && own && tags) (translation (mapping_of l))).0 four.0 in
    let two = (and-eq-true_iff (guest && own) tags).0 three.0 in
    let one = (and-eq-true_iff guest own).0 two.0 in
    let found = any_below_found test (pages (mapping_of l).span) four.1 in
    let f = (mapping_of l).frame + found.0 in
    let last = (and-eq-true_iff (not (shared f)) (not (same_owner (last_to notes f) (occupant m)))).0 found.2 in
    record {
      guest = one.0;
      own = one.1;
      tags = two.1;
      translates = three.1;
      nth = found.0;
      below = found.1;
      kept = not-true (shared f) last.0;
      other = not-true (same_owner (last_to notes f) (occupant m)) last.1;
    }

pub page_made : (shared : ℕ → Bool) (m : Moment) (notes : List Owned) (l : Owned) → Parts shared m notes l → page_leaks_here shared m notes l ≡ true
unfolding page_leaks_here taken_frame
page_made shared m notes l k =
    let here : taken_frame shared m notes ((mapping_of l).frame + k.nth) ≡ true = rw (k.kept, k.other) in
    rw (k.guest, k.own, k.tags, k.translates)
    (any_below_made (λ n. taken_frame shared m notes ((mapping_of l).frame + n)) (pages (mapping_of l).span) k.nth k.below here)

-- the frames that it leads to
pub leads : (m : Mapping) (n : ℕ) → translation m ≡ true → n < pages m.span → leads_to (m.frame + n) m ≡ true
unfolding leads_to
leads m n is below = rw (is, le-leb m.frame (m.frame + n) (omega arith)) (lt-ltb (m.frame + n) (m.frame + pages m.span) (omega arith))

pub led : (m : Mapping) (f : ℕ) → leads_to f m ≡ true → (translation m ≡ true) × (m.frame ≤ f) × (f < m.frame + pages m.span)
unfolding leads_to
led m f h =
    let last = (and-eq-true_iff (translation m && leb m.frame f) (ltb f (m.frame + pages m.span))).0 h in
    let front = (and-eq-true_iff (translation m) (leb m.frame f)).0 last.0 in
    (front.0, leb-true m.frame f front.1, ltb-true f (m.frame + pages m.span) last.1)

-- one accepted event of another kind
module _ (shared : ℕ → Bool) (m : Moment) (e : Logged) (h : kind_of e.bytes ≡ 20 → ⊥) (k : kind_of e.bytes ≡ 24 → ⊥) (taken : accepts m e ≡ true) where
  next : Context
  next = next_context m.context (event e.bytes)

  occupant_kept : in_guest next.place ≡ true → in_guest m.context.place ≡ true → occupant (moment_after m e) ≡ occupant m
  unfolding occupant next
  occupant_kept after before =
      rw (moment_accepted m e taken, ne_eqb (kind_of e.bytes) 20 h) (present_guest next.place m.renter after ∙ sym (present_guest m.context.place m.renter before))

  -- a frame that is another's still is none that the event's own mapping leads to
  not_led : (notes : List Owned) (f : ℕ) → in_guest m.context.place ≡ true → same_owner (last_to (notes ++ (owned_note m e ∷ [])) f) (occupant m) ≡ false
      → (leads_to f (mapping_of (owned_note m e)) ≡ false) × (same_owner (last_to notes f) (occupant m) ≡ false)
  unfolding owned_note occupant
  not_led notes f guest other = go (leads_to f (mapping_of (owned_note m e))) refl (rw (last_to_append notes (owned_note m e) f) at other)
    where
      go : (b : Bool) → leads_to f (mapping_of (owned_note m e)) ≡ b → same_owner (or_else (cond b (occupant m) monitor) (last_to notes f)) (occupant m) ≡ false
          → (leads_to f (mapping_of (owned_note m e)) ≡ false) × (same_owner (last_to notes f) (occupant m) ≡ false)
      go true is led = absurd (false≢true (sym (rw (present_guest m.context.place m.renter guest) at led) ∙ same_refl (renter m.renter)))
      go false is led = (is, led)

  before_guest : (l : Owned) (notes : List Owned) → in_scope m.context e.bytes l.note.event ≡ false → Parts shared (moment_after m e) (notes ++ (owned_note m e ∷ [])) l → Parts shared m notes l
  unfolding next
  before_guest l notes out p =
      let now = moment_accepted m e taken in
      let guest : in_guest next.place ≡ true = rw now at p.guest in
      let tags : usable_tags next (mapping_of l) ≡ true = rw now at p.tags in
      let before = usable_before m.context (event e.bytes) (mapping_of l) (lets_use_kind e.bytes h k) guest out tags in
      let who = occupant_kept guest before.0 in
      let other = not_led notes ((mapping_of l).frame + p.nth) before.0 (rw who at p.other) in
      record {
        guest = before.0;
        own = rw who at p.own;
        tags = before.1;
        translates = p.translates;
        nth = p.nth;
        below = p.below;
        kept = p.kept;
        other = other.1;
      }

  -- the event's own mapping leads to no frame of another
  made_own : (notes : List Owned) → mapping_kind (kind_of e.bytes) ≡ true → Parts shared (moment_after m e) (notes ++ (owned_note m e ∷ [])) (owned_note m e) → ⊥
  unfolding next next_context
  made_own notes made p =
      let same_place : next ≡ m.context = rw (event_creation e.bytes made) in
      let guest : in_guest next.place ≡ true = rw (moment_accepted m e taken) at p.guest in
      let before : in_guest m.context.place ≡ true = rw same_place at guest in
      let l = mapping_of (owned_note m e) in
      let other = not_led notes (l.frame + p.nth) before (rw (occupant_kept guest before) at p.other) in
      false≢true (sym other.0 ∙ leads l p.nth p.translates p.below)

page_refused : (shared : ℕ → Bool) (m : Moment) (e : Logged) → accepts m e ≡ false → (notes : List Owned) (l : Owned)
    → page_leaks_here shared (moment_after m e) notes l ≡ true
    → page_leaks_here shared m notes l ≡ true
unfolding page_leaks_here taken_frame occupant
page_refused shared m e left notes l leak = rw (moment_refused m e left) at leak

pub page_begins_holds : (shared : ℕ → Bool) → page_begins_by_entry_or_24 shared
unfolding page_begins page_leaks owned_after
page_begins_holds shared d e h k =
    those_none (λ l. not (page_leaks_here shared d.now d.notes l))
    (every_those (page_leaks_here shared (owned_after d e).now (owned_after d e).notes) (standing_owned (owned_after d e).notes) (λ l before leak. rw (before leak)) (go (accepts d.now e) refl))
  where
    Before : Owned → Type 0
    Before l = page_leaks_here shared (moment_after d.now e) (owned_after d e).notes l ≡ true → page_leaks_here shared d.now d.notes l ≡ true

    noted : accepts d.now e ≡ true → (owned_after d e).notes ≡ d.notes ++ (owned_note d.now e ∷ [])
    noted taken = rw taken

    go : (b : Bool) → accepts d.now e ≡ b → Every Before (standing_owned (owned_after d e).notes)
    go true taken =
        every_standing_after d e taken
        (λ l u out leak. page_made shared d.now d.notes l (before_guest shared d.now e h k taken l d.notes out (rw (noted taken) at (page_parts shared (moment_after d.now e) (owned_after d e).notes l leak))))
        (λ made leak. absurd (made_own shared d.now e h k taken d.notes made (rw (noted taken) at (page_parts shared (moment_after d.now e) (owned_after d e).notes (owned_note d.now e) leak))))
        (every_unit (standing_owned d.notes))
    go false left =
        rw (left, append-nil) (every_map (standing_owned d.notes) (λ l u leak. page_refused shared d.now e left d.notes l (rw (left, append-nil) at leak)) (every_unit (standing_owned d.notes)))

-- the test is the definition
page_exactly : (shared : ℕ → Bool) (m : Moment) (notes : List Owned) (l : Owned) → ValidAt m l → PageExactly shared m notes l
page_exactly shared m notes l k =
    record {
      sound = λ h.
          let p = page_parts shared m notes l h in
          record {
            guest = p.guest;
            own = same_true l.owner (occupant m) p.own;
            usable = usable_somewhere m.context (mapping_of l) k.fields k.width p.tags;
            frame = (mapping_of l).frame + p.nth;
            leads = leads (mapping_of l) p.nth p.translates p.below;
            kept = p.kept;
            other = λ is. false≢true (sym p.other ∙ rw is (same_refl (occupant m)));
          };
      complete = λ leak.
          let way = led (mapping_of l) leak.frame leak.leads in
          let back : (mapping_of l).frame + (leak.frame - (mapping_of l).frame) ≡ leak.frame = omega arith in
          page_made shared m notes l
          (record {
            guest = leak.guest;
            own = rw leak.own (same_refl (occupant m));
            tags = usable_tagged m.context (mapping_of l) leak.usable.0 leak.usable.1;
            translates = way.0;
            nth = leak.frame - (mapping_of l).frame;
            below = omega arith;
            kept = rw back leak.kept;
            other = rw back (differ (last_to notes leak.frame) (occupant m) leak.other);
          });
    }

pub page_leaks_exact_holds : (shared : ℕ → Bool) → page_leaks_exact shared
page_leaks_exact_holds shared c es =
    every_map (standing_owned (owned_of (owned_start c) es).notes) (page_exactly shared (owned_of (owned_start c) es).now (owned_of (owned_start c) es).notes) (valid_always c es)

pub page_none_missed_holds : (shared : ℕ → Bool) → page_none_missed shared
unfolding page_leaks
page_none_missed_holds shared d held part clean guest =
    part_every part
    (every_map (standing_owned d.notes) (λ l none_here a h own f way kept. go l none_here a h own f way kept (same_owner (last_to d.notes f) (occupant d.now)) refl)
    (those_fail (page_leaks_here shared d.now d.notes) (standing_owned d.notes) clean))
  where
    go : (l : Owned) → page_leaks_here shared d.now d.notes l ≡ false → (a : Address) → usable d.now.context a (mapping_of l) ≡ true → l.owner ≡ occupant d.now → (f : ℕ)
        → leads_to f (mapping_of l) ≡ true → shared f ≡ false → (b : Bool) → same_owner (last_to d.notes f) (occupant d.now) ≡ b → last_to d.notes f ≡ occupant d.now
    go l none_here a h own f way kept true is = same_true (last_to d.notes f) (occupant d.now) is
    go l none_here a h own f way kept false is =
        let parts = led (mapping_of l) f way in
        let back : (mapping_of l).frame + (f - (mapping_of l).frame) ≡ f = omega arith in
        let leak = page_made shared d.now d.notes l
        (record {
          guest = guest;
          own = rw own (same_refl (occupant d.now));
          tags = usable_tagged d.now.context (mapping_of l) a h;
          translates = parts.0;
          nth = f - (mapping_of l).frame;
          below = omega arith;
          kept = rw back kept;
          other = rw back is;
        }) in
        absurd (false≢true (sym none_here ∙ leak))
