-- The test is the definition, after every log; and without owners the book is the one that numbers.
use Rattle.std.specs.Prelude.{suc, ◌≡◌, Bool, not, eqb}
use Rattle.std.proofs.Math.Path.{refl, ap, ap₂}
use Rattle.std.proofs.Common.{sym, ◌∙◌}
use Rattle.std.proofs.Math.Bool.{true, false, cond}
use Rattle.std.proofs.lemmas.Bool.{false≢true, not-true}
use mathlib.Core.List.{List, [], ◌∷◌, ◌++◌, map}
use Rattle.model.specs.declared.Context.{Context}
use Rattle.model.specs.Layouts.{kind_of, mapping_kind}
use Rattle.model.specs.Mappings.{mapping, other_width, fields_in_range}
use Rattle.model.specs.Tables.{limit}
use Rattle.model.specs.Events.{event}
use Rattle.model.specs.Steps.{in_scope}
use Rattle.laws.specs.Lists.{Every, none}
use Rattle.origins.specs.Standing.{standing_of}
use Rattle.origins.specs.Origins.{Numbered, NumberedBook, numbered_start, numbered_note, numbered_after, numbered_of, standing_numbered}
use Rattle.origins.proofs.Laws.Standing.{standing_of_map}
use Rattle.laws.specs.Context.{linear_width_next}
use Rattle.laws.specs.Events.{creation_fields}
use Rattle.laws.specs.Answers.{accepted_parts}
use Rattle.roomy_runs.specs.Books.{roomy_answer}
use Rattle.leaks.specs.Moments.{Logged, Owner, same_owner, Moment, start, occupant, accepts, moment_after, Owned, owned_note, OwnedBook, owned_start, owned_after, owned_of, standing_owned, mapping_of}
use Rattle.leaks.specs.Leaks.{witness}
use Rattle.leaks.specs.Statements.{Exactly, LeaksExact, numbered, Unowned, UnownedAlways}
use Rattle.leaks.proofs.Laws.Usable.{usable_tagged, usable_witness, usable_somewhere}
use Rattle.origins.proofs.Laws.Lists.{every_map, map-append}
use Rattle.leaks.proofs.Laws.Moments.{notes_refused, every_standing_after}
use Rattle.leaks.proofs.Laws.Leaks.{same_refl, same_true, accepts_zero, moment_accepted, moment_refused, leak_parts, leak_made}

-- what each event keeps of the standing notes holds of them after every log
module _ (P : Moment → Owned → Type 0)
    (kept : (m : Moment) (e : Logged) → accepts m e ≡ true → (l : Owned) → P m l → in_scope m.context e.bytes l.note.event ≡ false → P (moment_after m e) l)
    (made : (m : Moment) (e : Logged) → accepts m e ≡ true → mapping_kind (kind_of e.bytes) ≡ true → P (moment_after m e) (owned_note m e))
    (left : (m : Moment) (e : Logged) → accepts m e ≡ false → (l : Owned) → P m l → P (moment_after m e) l)
  where
    pub always_after : (d : OwnedBook) (e : Logged) → Every (P d.now) (standing_owned d.notes) → Every (P (owned_after d e).now) (standing_owned (owned_after d e).notes)
    unfolding owned_after
    always_after d e all = go (accepts d.now e) refl
      where
        go : (b : Bool) → accepts d.now e ≡ b → Every (P (moment_after d.now e)) (standing_owned (owned_after d e).notes)
        go true h = every_standing_after d e h (kept d.now e h) (made d.now e h) all
        go false h = rw (notes_refused d e h) (every_map (standing_owned d.notes) (left d.now e h) all)

    pub always_of : (d : OwnedBook) (es : List Logged) → Every (P d.now) (standing_owned d.notes) → Every (P (owned_of d es).now) (standing_owned (owned_of d es).notes)
    unfolding owned_of
    always_of d [] all = all
    always_of d (e ∷ es) all = always_of (owned_after d e) es (always_after d e all)

    pub always : (c : Context) (es : List Logged) → Every (P (owned_of (owned_start c) es).now) (standing_owned (owned_of (owned_start c) es).notes)
    unfolding owned_start standing_of
    always c es = always_of (owned_start c) es none

-- a standing record is valid at the linear width
pub record ValidAt (m : Moment) (l : Owned) : Type 0 where
  pub fields : fields_in_range (mapping_of l) ≡ true
  pub width : other_width m.context.linear_width (mapping_of l).kind ≡ false

valid_kept : (m : Moment) (e : Logged) → accepts m e ≡ true → (l : Owned) → ValidAt m l → in_scope m.context e.bytes l.note.event ≡ false → ValidAt (moment_after m e) l
valid_kept m e h l k out = record { fields = k.fields; width = rw (moment_accepted m e h, linear_width_next m.context (event e.bytes)) k.width }

valid_made : (m : Moment) (e : Logged) → accepts m e ≡ true → mapping_kind (kind_of e.bytes) ≡ true → ValidAt (moment_after m e) (owned_note m e)
unfolding owned_note roomy_answer mapping
valid_made m e h known =
    let valid = (accepted_parts m.context [] e.bytes limit (accepts_zero m e h)).valid in
    let parts = creation_fields m.context.linear_width e.bytes valid known in
    record { fields = parts.0; width = rw (moment_accepted m e h, linear_width_next m.context (event e.bytes)) (not-true _ parts.1) }

valid_left : (m : Moment) (e : Logged) → accepts m e ≡ false → (l : Owned) → ValidAt m l → ValidAt (moment_after m e) l
valid_left m e h l k = record { fields = k.fields; width = rw (moment_refused m e h) k.width }

pub valid_always : (c : Context) (es : List Logged) → Every (ValidAt (owned_of (owned_start c) es).now) (standing_owned (owned_of (owned_start c) es).notes)
valid_always = always ValidAt valid_kept valid_made valid_left

-- two that are not the same-owner
pub differ : (v w : Owner) → (v ≡ w → ⊥) → same_owner v w ≡ false
differ v w other = go (same_owner v w) refl
  where
    go : (b : Bool) → same_owner v w ≡ b → b ≡ false
    go true is = absurd (other (same_true v w is))
    go false is = refl

-- so the test is the definition
exactly : (m : Moment) (l : Owned) → ValidAt m l → Exactly m l
exactly m l k =
    record {
      sound = λ h.
          let parts = leak_parts m l h in
          record {
            guest = parts.0;
            usable = usable_somewhere m.context (mapping_of l) k.fields k.width parts.1;
            other = λ is. false≢true (sym parts.2 ∙ rw is (same_refl (occupant m)));
          };
      complete = λ leak. leak_made m l leak.guest (usable_tagged m.context (mapping_of l) leak.usable.0 leak.usable.1) (differ l.owner (occupant m) leak.other);
      shown = λ h. usable_witness m.context (mapping_of l) k.fields k.width (leak_parts m l h).1;
    }

pub leaks_exact_holds : LeaksExact
leaks_exact_holds c es = every_map (standing_owned (owned_of (owned_start c) es).notes) (exactly (owned_of (owned_start c) es).now) (valid_always c es)

-- ---- without owners

module _ (d : OwnedBook) (b : NumberedBook) (e : Logged) (context : d.now.context ≡ b.context) (events : d.now.events ≡ b.events) (notes : map numbered d.notes ≡ b.notes) where
  unowned_context : (owned_after d e).now.context ≡ (numbered_after b e.bytes).context
  unfolding owned_after moment_after numbered_after accepts
  unowned_context = rw context

  unowned_notes : map numbered (owned_after d e).notes ≡ (numbered_after b e.bytes).notes
  unfolding owned_after numbered_after accepts owned_note numbered_note
  unowned_notes =
      map-append numbered d.notes (cond (accepts d.now e) (owned_note d.now e ∷ []) [])
      ∙ ap₂ (λ ns ms. ns ++ ms) notes
      (go (accepts d.now e)
      ∙ ap (λ c. cond (eqb (roomy_answer c e.bytes) 0) (numbered_note b.context b.events e.bytes ∷ []) []) context)
    where
      go : (x : Bool) → map numbered (cond x (owned_note d.now e ∷ []) []) ≡ cond x (numbered_note b.context b.events e.bytes ∷ []) []
      go true = rw (context, events)
      go false = refl

counted_after : (d : OwnedBook) (b : NumberedBook) (e : Logged) → d.now.events ≡ b.events → (owned_after d e).now.events ≡ (numbered_after b e.bytes).events
unfolding owned_after moment_after numbered_after
counted_after d b e events = ap suc events

unowned_of : (d : OwnedBook) (b : NumberedBook) (es : List Logged) → d.now.context ≡ b.context → d.now.events ≡ b.events → map numbered d.notes ≡ b.notes
    → Unowned (owned_of d es) (numbered_of b (map (λ (e : Logged). e.bytes) es))
unfolding owned_of numbered_of standing_numbered
unowned_of d b [] context events notes =
    record {
      context = context;
      events = events;
      notes = notes;
      standing = standing_of_map (λ (x : Numbered). x.note) numbered d.notes ∙ ap (standing_of (λ (x : Numbered). x.note)) notes;
    }
unowned_of d b (e ∷ es) context events notes =
    unowned_of (owned_after d e) (numbered_after b e.bytes) es (unowned_context d b e context events notes) (counted_after d b e events) (unowned_notes d b e context events notes)

pub unowned_holds : UnownedAlways
unfolding owned_start start numbered_start
unowned_holds c es = unowned_of (owned_start c) (numbered_start c) es refl refl refl
