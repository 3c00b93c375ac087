-- A number read through eight bytes, of which the last ones are 0.
use Rattle.std.specs.Prelude.{ℕ, zero, suc, ◌+◌, ◌*◌, ◌^◌, ◌<◌, ◌≤◌, List, [], ◌∷◌, ◌++◌, ◌≡◌, refl, replicate, slice_index, length, take, drop}
use Rattle.std.specs.Int.{w64, from_le_bytes}
use Rattle.std.proofs.Common.{ap, ◌∙◌, arith, length-take, length-drop, get_or-take, pow-suc, add-zero}
use Rattle.std.proofs.lemmas.List.{get_or-drop}
use Rattle.model.specs.Bits.{number}

-- the bytes of a number: the first, and the others at a higher scale
pub number_step : (n at : ℕ) (r : List ℕ) → number (suc n) at r ≡ slice_index r at + 256 * number n (at + 1) r
number_step zero at r = omega arith
number_step (suc n) at r = refl

-- the same bytes are the same number
number_same : (n i at : ℕ) (xs r : List ℕ) → ((k : ℕ) → k < n → slice_index xs (i + k) ≡ slice_index r (at + k)) → number n i xs ≡ number n at r
number_same zero i at xs r same = refl
number_same (suc n) i at xs r same =
    let first : slice_index xs i ≡ slice_index r at = simp add-zero at (same 0 (omega arith)) in
    let others : number n (i + 1) xs ≡ number n (at + 1) r =
    number_same n (i + 1) (at + 1) xs r (λ k h.
    let here : i + 1 + k ≡ i + suc k = omega arith in
    let there : at + 1 + k ≡ at + suc k = omega arith in
    rw (here, there) (same (suc k) (omega arith)))
    in
    omega (arith, number_step n i xs, number_step n at r, first, others)

number_below : (n at : ℕ) (r : List ℕ) → ((k : ℕ) → slice_index r k < 256) → number n at r < 256 ^ n
number_below zero at r bytes = omega arith
number_below (suc n) at r bytes = omega (arith, number_step n at r, bytes at, number_below n (at + 1) r bytes, pow-suc 256 n)

-- up to eight bytes, and zeros after them
filled : (xs : List ℕ) → length xs ≤ 8 → from_le_bytes w64 (xs ++ drop (length xs) (replicate 8 0)) ≡ number (length xs) 0 xs
filled [] h = refl
filled (a ∷ []) h = omega arith
filled (a ∷ b ∷ []) h = omega arith
filled (a ∷ b ∷ c ∷ []) h = omega arith
filled (a ∷ b ∷ c ∷ d ∷ []) h = omega arith
filled (a ∷ b ∷ c ∷ d ∷ e ∷ []) h = omega arith
filled (a ∷ b ∷ c ∷ d ∷ e ∷ f ∷ []) h = omega arith
filled (a ∷ b ∷ c ∷ d ∷ e ∷ f ∷ g ∷ []) h = omega arith
filled (a ∷ b ∷ c ∷ d ∷ e ∷ f ∷ g ∷ i ∷ []) h = omega arith
filled (a ∷ b ∷ c ∷ d ∷ e ∷ f ∷ g ∷ i ∷ j ∷ xs) h = absurd (omega (arith, h))

pub read : (n at x : ℕ) (r front : List ℕ) {m : ℕ} → m ≡ n → at + n ≤ length r → n ≤ 8 → ((k : ℕ) → slice_index r k < 256) → front ≡ take m (drop at r)
    → x ≡ from_le_bytes w64 (front ++ drop n (replicate 8 0)) → (x ≡ number n at r) × (x < 256 ^ n)
read n at x r front is fits short bytes copied made =
    let part : front ≡ take n (drop at r) = copied ∙ ap (λ (k : ℕ). take k (drop at r)) is in
    let long : length front ≡ n = ap length part ∙ length-take n (drop at r) ∙ omega (arith, length-drop at r) in
    let whole = rw long at (filled front (omega arith)) in
    let same = number_same n 0 at front r (λ k h.
    let here : 0 + k ≡ k = omega arith in
    rw (here, part) (get_or-take n (drop at r) k 0 h ∙ get_or-drop at r k 0)) in
    let value : x ≡ number n at r = made ∙ whole ∙ same in
    (value, omega (arith, value, number_below n at r bytes))
