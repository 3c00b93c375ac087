-- In-order parts of a list, and those of which a test holds.
use Rattle.std.specs.Prelude.{ℕ, ◌≡◌, refl, Bool, true, false, cond, List, [], ◌∷◌, ◌++◌, map}
use Rattle.std.proofs.Common.{ap, arith}
use Rattle.laws.specs.Lists.{Every, none, more}
use Rattle.origins.specs.Standing.{those, remaining, Part, done, skip, keep}

pub part_refl : {A : Type 0} (xs : List A) → Part xs xs
part_refl [] = done
part_refl (x ∷ xs) = keep (part_refl xs)

pub part_every : {A : Type 0} {P : A → Type 0} {part xs : List A} → Part part xs → Every P xs → Every P part
part_every done h = h
part_every (skip p) (more h hs) = part_every p hs
part_every (keep p) (more h hs) = more h (part_every p hs)

pub part_append : {A : Type 0} {part xs : List A} (ys : List A) → Part part xs → Part (part ++ ys) (xs ++ ys)
part_append ys done = part_refl ys
part_append ys (skip p) = skip (part_append ys p)
part_append ys (keep p) = keep (part_append ys p)

pub part_front : {A : Type 0} (xs ys : List A) → Part xs (xs ++ ys)
part_front [] [] = done
part_front [] (y ∷ ys) = skip (part_front [] ys)
part_front (x ∷ xs) ys = keep (part_front xs ys)

pub part_trans : {A : Type 0} {least part xs : List A} → Part least part → Part part xs → Part least xs
part_trans p done = p
part_trans p (skip q) = skip (part_trans p q)
part_trans (skip p) (keep q) = skip (part_trans p q)
part_trans (keep p) (keep q) = keep (part_trans p q)

pub part_remaining : {A : Type 0} (gone : List Bool) (xs : List A) → Part (remaining gone xs) xs
unfolding remaining
part_remaining [] xs = part_refl xs
part_remaining (g ∷ gone) [] = done
part_remaining (true ∷ gone) (x ∷ xs) = skip (part_remaining gone xs)
part_remaining (false ∷ gone) (x ∷ xs) = keep (part_remaining gone xs)

pub part_those : {A : Type 0} (p : A → Bool) {part xs : List A} → Part part xs → Part (those p part) (those p xs)
unfolding those
part_those p done = done
part_those {A} p (skip {x} {part} {xs} q) = here (p x) x (those p part) (those p xs) (part_those p q)
  where
    here : (b : Bool) (x : A) (part xs : List A) → Part part xs → Part part (cond b (x ∷ xs) xs)
    here true x part xs q = skip q
    here false x part xs q = q
part_those {A} p (keep {x} {part} {xs} q) = here (p x) x (those p part) (those p xs) (part_those p q)
  where
    here : (b : Bool) (x : A) (part xs : List A) → Part part xs → Part (cond b (x ∷ part) part) (cond b (x ∷ xs) xs)
    here true x part xs q = keep q
    here false x part xs q = q

-- what holds of all of a list
pub every_map : {A : Type 0} {P Q : A → Type 0} (xs : List A) → ((x : A) → P x → Q x) → Every P xs → Every Q xs
every_map [] f none = none
every_map (x ∷ xs) f (more h hs) = more (f x h) (every_map xs f hs)

pub every_unit : {A : Type 0} (xs : List A) → Every (λ (x : A). Unit {0}) xs
every_unit [] = none
every_unit (x ∷ xs) = more tt (every_unit xs)

pub every_cond : {A : Type 0} {Q : A → Type 0} (b : Bool) (x : A) (xs : List A) → (b ≡ true → Q x) → Every Q xs → Every Q (cond b (x ∷ xs) xs)
every_cond true x xs h hs = more (h refl) hs
every_cond false x xs h hs = hs

-- those of which a test holds: what holds of all, and the test, hold of them
pub every_those : {A : Type 0} {P Q : A → Type 0} (p : A → Bool) (xs : List A) → ((x : A) → P x → p x ≡ true → Q x) → Every P xs → Every Q (those p xs)
unfolding those
every_those p [] all none = none
every_those p (x ∷ xs) all (more h hs) = every_cond (p x) x (those p xs) (all x h) (every_those p xs all hs)

-- none passes: so each fails the test, and the other way round
pub those_none : {A : Type 0} (p : A → Bool) {xs : List A} → Every (λ x. p x ≡ false) xs → those p xs ≡ []
unfolding those
those_none p none = refl
those_none p (more h hs) = rw h (those_none p hs)

pub those_fail : {A : Type 0} (p : A → Bool) (xs : List A) → those p xs ≡ [] → Every (λ x. p x ≡ false) xs
unfolding those
those_fail p [] h = none
those_fail {A} p (x ∷ xs) h = go (p x) refl h (those_fail p xs)
  where
    go : (b : Bool) → p x ≡ b → cond b (x ∷ those p xs) (those p xs) ≡ [] → (those p xs ≡ [] → Every (λ x. p x ≡ false) xs) → Every (λ x. p x ≡ false) (x ∷ xs)
    go true is h rest = absurd (let z : ◌≡◌ {A = ℕ} 0 1 = cc in omega arith)
    go false is h rest = more is (rest h)

pub those_all : {A : Type 0} (p : A → Bool) (xs : List A) → ((x : A) → p x ≡ true) → those p xs ≡ xs
unfolding those
those_all p [] h = refl
those_all p (x ∷ xs) h = rw (h x) (ap (λ ys. x ∷ ys) (those_all p xs h))

-- a test of images is a test of what they are images of
pub those_map : {A B : Type 0} (f : A → B) (p : B → Bool) (xs : List A) → map f (those (λ x. p (f x)) xs) ≡ those p (map f xs)
unfolding those
those_map f p [] = refl
those_map {A} {B} f p (x ∷ xs) = go (p (f x)) (those_map f p xs)
  where
    go : (b : Bool) → map f (those (λ x. p (f x)) xs) ≡ those p (map f xs)
        → map f (cond b (x ∷ those (λ x. p (f x)) xs) (those (λ x. p (f x)) xs)) ≡ cond b (f x ∷ those p (map f xs)) (those p (map f xs))
    go true h = ap (λ ys. f x ∷ ys) h
    go false h = h

pub map-append : {A B : Type 0} (f : A → B) (xs ys : List A) → map f (xs ++ ys) ≡ map f xs ++ map f ys
map-append f [] ys = refl
map-append f (x ∷ xs) ys = ap (λ zs. f x ∷ zs) (map-append f xs ys)
