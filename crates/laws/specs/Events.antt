-- Events: what the event reader's answer says, and that a valid creation is an exactly valid record.
use Rattle.std.specs.Prelude.{ℕ, ◌≡◌, Bool, cond, ◌&&◌, ◌||◌, List, [], ◌∷◌, Some, None, length}
use Rattle.std.proofs.Math.Path.{refl}
use Rattle.std.proofs.Common.{sym, ap, ◌∙◌, arith}
use Rattle.std.proofs.Math.Bool.{true, false, not, and-false, and-eq-true_iff}
use Rattle.std.proofs.lemmas.Bool.{false≢true}
use Rattle.std.proofs.Math.Dec.{eqb}
use borrow.Author.Tests.{eqb-true}
use Rattle.model.specs.declared.Event.{Event}
use Rattle.model.specs.declared.Event.TheVariants.{Creation}
use Rattle.model.specs.declared.Mapping.{Mapping}
use Rattle.model.specs.Layouts.{kind_of, mapping_kind, event_kind, length_of}
use Rattle.model.specs.Mappings.{mapping, Held, other_width, fields_in_range}
use Rattle.model.specs.Events.{event, event_in_range, valid_event, event_reading}
use Rattle.laws.specs.Layouts.{length_of_positive}
use Rattle.laws.specs.Mappings.{Valid, valid_made, starts_made, other_width_known}

-- what it is that an event is valid, part by part
pub record ValidEvent (w : ℕ) (e : List ℕ) : Type 0 where
  pub kind : event_kind (kind_of e) ≡ true
  pub exact : length e ≡ length_of (kind_of e)
  pub fields : event_in_range w (event e) ≡ true

pub valid_event_parts : (w : ℕ) (e : List ℕ) → valid_event w e ≡ true → ValidEvent w e
unfolding valid_event
valid_event_parts w e v =
    let both = (and-eq-true_iff (event_kind (kind_of e) && eqb (length e) (length_of (kind_of e))) (event_in_range w (event e))).0 v in
    let front = (and-eq-true_iff (event_kind (kind_of e)) (eqb (length e) (length_of (kind_of e)))).0 both.0 in
    record { kind = front.0; exact = eqb-true (length e) (length_of (kind_of e)) front.1; fields = both.1 }

pub event_creation : (e : List ℕ) → mapping_kind (kind_of e) ≡ true → event e ≡ Creation (mapping e)
unfolding event
event_creation e k = rw k

-- the fields of a valid creation are in their ranges, and it is of the linear width
pub creation_fields : (w : ℕ) (e : List ℕ) → valid_event w e ≡ true → mapping_kind (kind_of e) ≡ true
    → (fields_in_range (mapping e) ≡ true) × (not (other_width w (kind_of e)) ≡ true)
unfolding event_in_range mapping
creation_fields w e v k =
    (and-eq-true_iff (fields_in_range (mapping e)) (not (other_width w (kind_of e)))).0 (rw (event_creation e k) at (valid_event_parts w e v).fields)

pub creation_valid : (w : ℕ) (e : List ℕ) → valid_event w e ≡ true → mapping_kind (kind_of e) ≡ true → Valid e
creation_valid w e v k =
    let p = valid_event_parts w e v in
    valid_made e
    (starts_made e (record { held = record { known = k; fits = omega (arith, p.exact) }; fields = (creation_fields w e v k).0 }))
    p.exact

-- a creation of the other linear width is not valid
pub other_width_invalid : (w : ℕ) (e : List ℕ) → other_width w (kind_of e) ≡ true → valid_event w e ≡ false
unfolding valid_event event_in_range mapping
other_width_invalid w e other =
    rw (event_creation e (other_width_known w (kind_of e) other), other, and-false, and-false)

-- what the event reader's answer says of the bytes
pub valid_event_read : (w : ℕ) (e : List ℕ) (x : Event) → event_reading w e ≡ Some x → (valid_event w e ≡ true) × (x ≡ event e)
unfolding event_reading
valid_event_read w e x h = go (valid_event w e) refl h
  where
    go : (b : Bool) → valid_event w e ≡ b → cond b (Some (event e)) None ≡ Some x → (valid_event w e ≡ true) × (x ≡ event e)
    go true v k = (v, cc)
    go false v k = absurd (let z : ◌≡◌ {A = ℕ} 0 1 = cc in omega arith)

pub valid_event_invalid : (w : ℕ) (e : List ℕ) → event_reading w e ≡ None → valid_event w e ≡ false
unfolding event_reading
valid_event_invalid w e h = go (valid_event w e) refl h
  where
    go : (b : Bool) → valid_event w e ≡ b → cond b (Some (event e)) None ≡ None → valid_event w e ≡ false
    go true v k = absurd (let z : ◌≡◌ {A = ℕ} 0 1 = cc in omega arith)
    go false v k = v

-- no byte, no kind
pub kind_of_empty : (e : List ℕ) → length e ≡ 0 → 0 ≡ kind_of e
unfolding kind_of
kind_of_empty [] none = refl
kind_of_empty (x ∷ xs) none = absurd (omega arith)

-- the test that bytes are none, or of another length than that of their kind, 0 where it is unknown
abbrev pub unsized : List ℕ → Bool
unsized e = eqb (length e) 0 || not (eqb (length e) (cond (event_kind (kind_of e)) (length_of (kind_of e)) 0))

module _ (w : ℕ) (e : List ℕ) where
  by_kind : (known : Bool) → eqb (length e) (cond known (length_of (kind_of e)) 0) ≡ cond known (eqb (length e) (length_of (kind_of e))) (eqb (length e) 0)
  by_kind true = refl
  by_kind false = refl

  -- then they are not valid
  pub valid_unsized : unsized e ≡ true → false ≡ valid_event w e
  unfolding valid_event
  valid_unsized h =
      go (eqb (length e) 0) (event_kind (kind_of e)) (eqb (length e) (length_of (kind_of e))) refl refl (rw (by_kind (event_kind (kind_of e))) at h)
    where
      go : (empty known exact : Bool) → eqb (length e) 0 ≡ empty → eqb (length e) (length_of (kind_of e)) ≡ exact
          → (empty || not (cond known exact empty)) ≡ true
          → false ≡ (known && exact && event_in_range w (event e))
      go empty false exact p q h = refl
      go empty true false p q h = refl
      go false true true p q h = absurd (false≢true h)
      go true true true p q h =
          absurd (omega (arith, eqb-true (length e) 0 p, eqb-true (length e) (length_of (kind_of e)) q, length_of_positive (kind_of e)))

  -- else the ranges of their fields decide
  pub valid_sized : unsized e ≡ false → (length e ≡ length_of (kind_of e)) × (event_in_range w (event e) ≡ valid_event w e)
  unfolding valid_event
  valid_sized h =
      go (eqb (length e) 0) (event_kind (kind_of e)) (eqb (length e) (length_of (kind_of e))) refl (rw (by_kind (event_kind (kind_of e))) at h)
    where
      go : (empty known exact : Bool) → eqb (length e) (length_of (kind_of e)) ≡ exact → (empty || not (cond known exact empty)) ≡ false
          → (length e ≡ length_of (kind_of e)) × (event_in_range w (event e) ≡ (known && exact && event_in_range w (event e)))
      go true known exact q h = absurd (false≢true (sym h))
      go false false exact q h = absurd (false≢true (sym h))
      go false true false q h = absurd (false≢true (sym h))
      go false true true q h = (eqb-true (length e) (length_of (kind_of e)) q, refl)

-- the kind, and so the length, of bytes that have the length of their kind
pub sized_at : (e : List ℕ) {kind : ℕ} (k : ℕ) → (kind ≡ kind_of e) × (length e ≡ length_of kind) → kind ≡ k → (kind_of e ≡ k) × (length e ≡ length_of k)
sized_at e k sized is = (sym sized.0 ∙ is, sized.1 ∙ ap length_of is)

pub sized_held : (e : List ℕ) {kind : ℕ} → (kind ≡ kind_of e) × (length e ≡ length_of kind) → mapping_kind kind ≡ true → Held e
sized_held e sized known =
    record { known = rw sized.0 at known; fits = omega (arith, rw sized.0 at sized.1) }

-- bytes that stand for a creation are of a mapping's kind
pub event_creation_kind : (e : List ℕ) (m : Mapping) → event e ≡ Creation m → mapping_kind (kind_of e) ≡ true
unfolding event
event_creation_kind e m h =
    first (mapping_kind (kind_of e)) _
    (neither (eqb (kind_of e) 16) _ _ (λ h. apart (cc))
    (neither (eqb (kind_of e) 17) _ _ (λ h. apart (cc))
    (neither (eqb (kind_of e) 18) _ _ (λ h. apart (cc))
    (neither (eqb (kind_of e) 19) _ _ (λ h. apart (cc))
    (neither (eqb (kind_of e) 20) _ _ (λ h. apart (cc))
    (neither (eqb (kind_of e) 21) _ _ (λ h. apart (cc))
    (neither (eqb (kind_of e) 22) _ _ (λ h. apart (cc))
    (neither (eqb (kind_of e) 23) _ _ (λ h. apart (cc))
    (neither (eqb (kind_of e) 24) _ _ (λ h. apart (cc))
    (neither (eqb (kind_of e) 26) _ _ (λ h. apart (cc))
    (neither (eqb (kind_of e) 27) _ _ (λ h. apart (cc)) (λ h. apart (cc)))))))))))))
    h
  where
    apart : ◌≡◌ {A = ℕ} 0 1 → ⊥
    apart z = omega arith

    first : (b : Bool) (otherwise : Event) → (otherwise ≡ Creation m → ⊥) → cond b (Creation (mapping e)) otherwise ≡ Creation m → b ≡ true
    first true otherwise other h = refl
    first false otherwise other h = absurd (other h)

    neither : (b : Bool) (x y : Event) → (x ≡ Creation m → ⊥) → (y ≡ Creation m → ⊥) → cond b x y ≡ Creation m → ⊥
    neither true x y p q = p
    neither false x y p q = q
