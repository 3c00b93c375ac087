-- What stands when one more is added, without what is carried along, and as an in-order part.
use Rattle.std.specs.Prelude.{◌≡◌, ◌&&◌}
use Rattle.std.proofs.Math.Path.{refl, ap}
use Rattle.std.proofs.Math.Bool.{Bool, true, false, cond, not, and-true}
use mathlib.Core.List.{List, [], ◌∷◌, ◌++◌, map}
use Rattle.std.proofs.lemmas.Bool.{not-true}
use Rattle.model.specs.Layouts.{kind_of, mapping_kind}
use Rattle.model.specs.Steps.{in_scope}
use Rattle.laws.specs.Lists.{Every, none, every_append, cond_append}
use Rattle.runs.specs.Book.{Note, taken_by, stands, standing}
use Rattle.runs.proofs.Laws.Book.{stands_append}
use Rattle.origins.specs.Standing.{those, Part, done, skip, keep, standing_of, kept_by, made_by}
use Rattle.origins.proofs.Laws.Lists.{every_those, every_cond, map-append}

module _ {A : Type 0} (note : A → Note) where
  -- one more: those out of its scope, and its own
  pub standing_of_append : (xs : List A) (x : A) → standing_of note (xs ++ (x ∷ [])) ≡ kept_by note (note x) (standing_of note xs) ++ made_by note x
  unfolding standing_of kept_by made_by those stands taken_by
  standing_of_append [] x = rw (and-true (mapping_kind (kind_of (note x).event)))
  standing_of_append (y ∷ xs) x =
      rw (map-append note xs (x ∷ []), stands_append (note y) (map note xs) (note x), standing_of_append xs x) (go (stands (note y) (map note xs)))
    where
      out : A → Bool
      out z = not (in_scope (note x).context (note x).event (note z).event)

      go : (s : Bool)
          → cond (s && out y) (y ∷ (those out (standing_of note xs) ++ made_by note x)) (those out (standing_of note xs) ++ made_by note x)
          ≡ those out (cond s (y ∷ standing_of note xs) (standing_of note xs)) ++ made_by note x
      go true = cond_append (out y) y (those out (standing_of note xs)) (made_by note x)
      go false = refl

  -- what holds of the standing ones, and is kept, holds of them with one more
  pub every_kept : {P Q : A → Type 0} (n : Note) (xs : List A) (x : A)
      → ((y : A) → P y → in_scope n.context n.event (note y).event ≡ false → Q y)
      → (mapping_kind (kind_of (note x).event) ≡ true → Q x)
      → Every P xs
      → Every Q (kept_by note n xs ++ made_by note x)
  unfolding kept_by made_by
  every_kept n xs x kept made all =
      every_append (every_those (λ y. not (in_scope n.context n.event (note y).event)) xs (λ y p out. kept y p (not-true _ out)) all)
      (every_cond (mapping_kind (kind_of (note x).event)) x [] made none)

  -- the standing ones are an in-order part
  pub standing_part : (xs : List A) → Part (standing_of note xs) xs
  unfolding standing_of
  standing_part [] = done
  standing_part (x ∷ xs) = go (stands (note x) (map note xs)) (standing_part xs)
    where
      go : (b : Bool) → Part (standing_of note xs) xs → Part (cond b (x ∷ standing_of note xs) (standing_of note xs)) (x ∷ xs)
      go true p = keep p
      go false p = skip p

  -- their records are the book's
  pub standing_of_records : (xs : List A) → map (λ x. (note x).event) (standing_of note xs) ≡ standing (map note xs)
  unfolding standing_of standing
  standing_of_records [] = refl
  standing_of_records (x ∷ xs) = go (stands (note x) (map note xs)) (standing_of_records xs)
    where
      go : (b : Bool) → map (λ y. (note y).event) (standing_of note xs) ≡ standing (map note xs)
          → map (λ y. (note y).event) (cond b (x ∷ standing_of note xs) (standing_of note xs)) ≡ cond b ((note x).event ∷ standing (map note xs)) (standing (map note xs))
      go true h = ap (λ rs. (note x).event ∷ rs) h
      go false h = h

-- without what is carried along besides
pub standing_of_map : {A B : Type 0} (note : B → Note) (f : A → B) (xs : List A) → map f (standing_of (λ x. note (f x)) xs) ≡ standing_of note (map f xs)
unfolding standing_of
standing_of_map note f [] = refl
standing_of_map {A} {B} note f (x ∷ xs) =
    rw (← notes xs) (go (stands (note (f x)) (map (λ y. note (f y)) xs)) (standing_of_map note f xs))
  where
    notes : (ys : List A) → map (λ y. note (f y)) ys ≡ map note (map f ys)
    notes [] = refl
    notes (y ∷ ys) = ap (λ ns. note (f y) ∷ ns) (notes ys)

    go : (b : Bool) → map f (standing_of (λ y. note (f y)) xs) ≡ standing_of note (map f xs)
        → map f (cond b (x ∷ standing_of (λ y. note (f y)) xs) (standing_of (λ y. note (f y)) xs)) ≡ cond b (f x ∷ standing_of note (map f xs)) (standing_of note (map f xs))
    go true h = ap (λ ys. f x ∷ ys) h
    go false h = h
