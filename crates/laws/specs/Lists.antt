-- Lists in general: what holds of every element, the element at a place, lists of bytes, the front on which two
-- byte lists agree, and the end of a part.
use Rattle.std.specs.Prelude.{ℕ, zero, suc, ◌+◌, ◌-◌, ◌≤◌, ◌<◌, ◌≡◌, refl, Bool, true, false, cond, List, [], ◌∷◌, ◌++◌, map, length, take, drop, get_or, replicate}
use Rattle.std.proofs.Common.{ap, arith, length-drop, get_or-take, length-take-le}
use Rattle.std.proofs.Math.ListN.{get_or-append}

-- P holds of every element of a list
pub data Every {A : Type 0} (P : A → Type 0) : List A → Type 0 where
  none : Every P []
  more : {x : A} {xs : List A} → P x → Every P xs → Every P (x ∷ xs)

pub every_one : {A : Type 0} {P : A → Type 0} {x : A} → P x → Every P (x ∷ [])
every_one p = more p none

pub every_append : {A : Type 0} {P : A → Type 0} {xs ys : List A} → Every P xs → Every P ys → Every P (xs ++ ys)
every_append none k = k
every_append (more p h) k = more p (every_append h k)

pub every_head : {A : Type 0} {P : A → Type 0} {x : A} {xs : List A} → Every P (x ∷ xs) → P x
every_head (more p h) = p

pub every_tail : {A : Type 0} {P : A → Type 0} {x : A} {xs : List A} → Every P (x ∷ xs) → Every P xs
every_tail (more p h) = h

pub every_repeated : {A : Type 0} {P : A → Type 0} (n : ℕ) (x : A) → P x → Every P (replicate n x)
every_repeated zero x h = none
every_repeated (suc n) x h = more h (every_repeated n x h)

pub map_repeated : {A : Type 0} (f : A → A) (n : ℕ) (x : A) → map f (replicate n x) ≡ replicate n (f x)
map_repeated f zero x = refl
map_repeated f (suc n) x = ap (λ xs. f x ∷ xs) (map_repeated f n x)

pub every_append_front : {A : Type 0} {P : A → Type 0} (xs ys : List A) → Every P (xs ++ ys) → Every P xs
every_append_front [] ys h = none
every_append_front (x ∷ xs) ys (more p h) = more p (every_append_front xs ys h)

pub every_append_back : {A : Type 0} {P : A → Type 0} (xs ys : List A) → Every P (xs ++ ys) → Every P ys
every_append_back [] ys h = h
every_append_back (x ∷ xs) ys (more p h) = every_append_back xs ys h

pub every_take : {A : Type 0} {P : A → Type 0} (n : ℕ) {xs : List A} → Every P xs → Every P (take n xs)
every_take zero h = none
every_take (suc n) none = none
every_take (suc n) (more p h) = more p (every_take n h)

pub every_drop : {A : Type 0} {P : A → Type 0} (n : ℕ) {xs : List A} → Every P xs → Every P (drop n xs)
every_drop zero h = h
every_drop (suc n) none = none
every_drop (suc n) (more p h) = every_drop n h

-- the element at a place: the default past the end
pub get_d_past : {A : Type 0} (xs : List A) (k : ℕ) (d : A) → length xs ≤ k → get_or xs k d ≡ d
get_d_past [] k d h = refl
get_d_past (x ∷ xs) zero d h = absurd (omega arith)
get_d_past (x ∷ xs) (suc k) d h = get_d_past xs k d (omega arith)

pub getD_every : {A : Type 0} {P : A → Type 0} {xs : List A} (k : ℕ) (d : A) → Every P xs → k < length xs → P (get_or xs k d)
getD_every k d none h = absurd (omega arith)
getD_every zero d (more p ps) h = p
getD_every (suc k) d (more p ps) h = getD_every k d ps (omega arith)

-- each number is a byte
abbrev pub Bytes : List ℕ → Type 0
Bytes xs = Every (λ (x : ℕ). x < 256) xs

pub getD_bytes : {xs : List ℕ} → Bytes xs → (i : ℕ) → get_or xs i 0 < 256
getD_bytes none i = omega arith
getD_bytes (more h hs) zero = h
getD_bytes (more h hs) (suc i) = getD_bytes hs i

-- the element behind the first
pub getD_behind : {A : Type 0} (x : A) (xs : List A) (k : ℕ) (d : A) → (k ≡ 0 → ⊥) → get_or (x ∷ xs) k d ≡ get_or xs (k - 1) d
getD_behind x xs zero d some = absurd (some refl)
getD_behind x xs (suc k) d some = let same : suc k - 1 ≡ k = omega arith in rw same

-- an element that a test lets in stands before what is put behind
pub cond_append : {A : Type 0} (b : Bool) (x : A) (xs ys : List A) → cond b (x ∷ (xs ++ ys)) (xs ++ ys) ≡ cond b (x ∷ xs) xs ++ ys
cond_append true x xs ys = refl
cond_append false x xs ys = refl

-- the first n bytes of two lists are the same; bytes past an end count as 0
abbrev pub Agree : ℕ → List ℕ → List ℕ → Type 0
Agree n r t = (i : ℕ) → i < n → get_or r i 0 ≡ get_or t i 0

pub agree_append : (n : ℕ) (r s : List ℕ) → n ≤ length r → Agree n (r ++ s) r
agree_append n r s h i l = get_or-append r s 0 i (omega arith)

pub agree_take : (n m : ℕ) (t : List ℕ) → n ≤ m → Agree n (take m t) t
agree_take n m t h i l = get_or-take m t i 0 (omega arith)

-- a part of a list ends as far behind its start as it is long
pub end_of_part : {A : Type 0} (t r : List A) (start end : ℕ) → start ≤ end → end ≤ length t → take (end - start) (drop start t) ≡ r → end ≡ start + length r
end_of_part t r start end h k is =
    omega (arith, length-take-le (end - start) (drop start t) (omega (arith, length-drop start t)), ap length is)
