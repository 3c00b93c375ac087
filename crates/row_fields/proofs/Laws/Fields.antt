-- Layouts: how long what is written is, that it reads back, and that what is read is written as it was.
use Rattle.std.specs.Prelude.{ℕ, zero, suc, ◌+◌, ◌*◌, ◌/◌, ◌%◌, ◌^◌, ◌≤◌, ◌<◌, Bool, true, false, cond, ◌&&◌, ◌≡◌, eqb, length, drop, get_or}
use Rattle.std.proofs.Math.Bool.{and-eq-true_iff}
use mathlib.Core.List.{List, [], ◌∷◌, ◌++◌, append_assoc}
use Rattle.std.proofs.Math.Path.{refl}
use Rattle.std.proofs.Common.{ap, ap₂, ◌∙◌, add-one, length-append, drop-drop, drop-cons}
use native.Mathlib.Omega.{arith}
use borrow.Author.Tests.{eqb-true}
use Rattle.std.proofs.Math.ListN.{take}
use Rattle.std.proofs.Math.Seq.{take-add}
use Rattle.model.specs.Bits.{number, bytes}
use Rattle.model.specs.Layouts.{Field, Body, field_number, bytes_of, offset_in, width_in}
use Rattle.laws.specs.Lists.{Bytes, getD_bytes}
use Rattle.laws.specs.Buffers.{length_bytes, number_bytes}
use Rattle.row_fields.specs.Fields.{total, start, size, written}

-- the body of a record is such a layout
pub total_body : (b : Body) → total b ≡ bytes_of b
total_body [] = refl
total_body (g ∷ gs) = ap (λ (n : ℕ). g.1 + n) (total_body gs)

pub start_body : (b : Body) (f : Field) → start field_number b f ≡ offset_in b f
start_body [] f = refl
start_body (g ∷ gs) f = ap (λ (n : ℕ). cond (eqb (field_number f) (field_number g.0)) 0 (g.1 + n)) (start_body gs f)

pub size_body : (b : Body) (f : Field) → size field_number b f ≡ width_in b f
size_body [] f = refl
size_body (g ∷ gs) f = ap (λ (n : ℕ). cond (eqb (field_number f) (field_number g.0)) g.1 n) (size_body gs f)

pub length_written : {A : Type 0} (v : A → ℕ) (xs : List (A × ℕ)) → length (written v xs) ≡ total xs
unfolding written
length_written v [] = refl
length_written v (x ∷ xs) =
    length-append (bytes x.1 (v x.0)) (written v xs) ∙ ap₂ (λ (m n : ℕ). m + n) (length_bytes x.1 (v x.0)) (length_written v xs)

-- a number reads back from its bytes, none among them
pub number_written : (n x : ℕ) → x < 256 ^ n → (p q : List ℕ) (at : ℕ) → at ≡ length p → number n at (p ++ (bytes n x ++ q)) ≡ x
number_written zero x h p q at is = omega arith
number_written (suc n) x h p q at is = number_bytes n x h p q at is

-- and so does each field of a layout, from what is written between other bytes
pub read_written : {A : Type 0} (number_of_lem : A → ℕ) (v : ℕ → ℕ) (a : A) (q : List ℕ) (xs : List (A × ℕ)) (p : List ℕ)
    → v (number_of_lem a) < 256 ^ size number_of_lem xs a
    → number (size number_of_lem xs a) (length p + start number_of_lem xs a) (p ++ (written (λ b. v (number_of_lem b)) xs ++ q)) ≡ v (number_of_lem a)
unfolding written
read_written number_of_lem v a q [] p small = omega arith
read_written number_of_lem v a q (x ∷ xs) p small =
    go (eqb (number_of_lem a) (number_of_lem x.0)) refl small (λ p' s. read_written number_of_lem v a q xs p' s)
  where
    here : List ℕ
    here = bytes x.1 (v (number_of_lem x.0))

    others : List ℕ
    others = written (λ b. v (number_of_lem b)) xs

    go : (same : Bool) → eqb (number_of_lem a) (number_of_lem x.0) ≡ same → v (number_of_lem a) < 256 ^ cond same x.1 (size number_of_lem xs a)
        → ((p : List ℕ) → v (number_of_lem a) < 256 ^ size number_of_lem xs a
        → number (size number_of_lem xs a) (length p + start number_of_lem xs a) (p ++ (written (λ b. v (number_of_lem b)) xs ++ q)) ≡ v (number_of_lem a))
        → number (cond same x.1 (size number_of_lem xs a)) (length p + cond same 0 (x.1 + start number_of_lem xs a)) (p ++ ((bytes x.1 (v (number_of_lem x.0)) ++ written (λ b. v (number_of_lem b)) xs) ++ q)) ≡ v (number_of_lem a)
    go true is small ih =
        let found : number_of_lem a ≡ number_of_lem x.0 = eqb-true (number_of_lem a) (number_of_lem x.0) is in
        rw (append_assoc here others q, found)
        (number_written x.1 (v (number_of_lem x.0)) (rw found at small) p (others ++ q) (length p + 0) (omega arith))
    go false is small ih =
        let place : length p + (x.1 + start number_of_lem xs a) ≡ length (p ++ here) + start number_of_lem xs a =
        omega (arith, length-append p here, length_bytes x.1 (v (number_of_lem x.0))) in
        rw (append_assoc here others q, ← (append_assoc p here (others ++ q)), place) (ih (p ++ here) small)

-- ---- bytes that are read are written as they were

pub number_below : {r : List ℕ} → Bytes r → (n at : ℕ) → number n at r < 256 ^ n
number_below b zero at = omega arith
number_below b (suc zero) at = omega (arith, getD_bytes b at)
number_below b (suc (suc n)) at = omega (arith, getD_bytes b at, number_below b (suc n) (at + 1))

pub bytes_number : {r : List ℕ} → Bytes r → (n at : ℕ) → at + n ≤ length r → bytes n (number n at r) ≡ take n (drop at r)
unfolding bytes
bytes_number b zero at fits = refl
bytes_number {r} b (suc zero) at fits =
    let low : get_or r at 0 % 256 ≡ get_or r at 0 = omega (arith, getD_bytes b at) in
    rw (low, drop-cons r at 0 (omega arith))
bytes_number {r} b (suc (suc n)) at fits =
    let rest = number (suc n) (at + 1) r in
    let low : (get_or r at 0 + 256 * rest) % 256 ≡ get_or r at 0 = omega (arith, getD_bytes b at) in
    let high : (get_or r at 0 + 256 * rest) / 256 ≡ rest = omega (arith, getD_bytes b at) in
    let others = bytes_number b (suc n) (at + 1) (omega arith) in
    rw (low, high, drop-cons r at 0 (omega arith)) (ap (λ (xs : List ℕ). get_or r at 0 ∷ xs) (others ∙ rw add-one))

-- the fields of a layout, each of which passes a test, stand one behind the other as the layout says
abbrev pub in_order : {A : Type 0} → (A → ℕ) → (A → Bool) → List (A × ℕ) → List (A × ℕ) → ℕ → Bool
in_order number_of_lem ok layout [] at = true
in_order number_of_lem ok layout (x ∷ xs) at =
    ok x.0
    && (eqb (size number_of_lem layout x.0) x.1
    && (eqb (start number_of_lem layout x.0) at && in_order number_of_lem ok layout xs (at + x.1)))

module _ {A : Type 0} (number_of_lem : A → ℕ) (ok : A → Bool) (layout : List (A × ℕ)) (v : A → ℕ) (front : ℕ) (r : List ℕ) (b : Bytes r)
    (read : (a : A) → ok a ≡ true → v a ≡ number (size number_of_lem layout a) (front + start number_of_lem layout a) r) where
  pub written_read : (xs : List (A × ℕ)) (at : ℕ) → in_order number_of_lem ok layout xs at ≡ true → front + at + total xs ≤ length r
      → written v xs ≡ take (total xs) (drop (front + at) r)
  unfolding written
  written_read [] at ordered fits = refl
  written_read (x ∷ xs) at ordered fits =
      let one = (and-eq-true_iff _ _).0 ordered in
      let two = (and-eq-true_iff _ _).0 one.1 in
      let three = (and-eq-true_iff _ _).0 two.1 in
      let wide : size number_of_lem layout x.0 ≡ x.1 = eqb-true (size number_of_lem layout x.0) x.1 two.0 in
      let place : start number_of_lem layout x.0 ≡ at = eqb-true (start number_of_lem layout x.0) at three.0 in
      let is : v x.0 ≡ number x.1 (front + at) r = rw (wide, place) at (read x.0 one.0) in
      let here : bytes x.1 (v x.0) ≡ take x.1 (drop (front + at) r) = rw is (bytes_number b x.1 (front + at) (omega arith)) in
      let next : front + (at + x.1) ≡ front + at + x.1 = omega arith in
      let others : written v xs ≡ take (total xs) (drop x.1 (drop (front + at) r)) =
      written_read xs (at + x.1) three.1 (omega arith) ∙ rw (next, drop-drop) in
      rw (here, others, take-add x.1 (total xs) (drop (front + at) r))
