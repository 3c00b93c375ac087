-- The ranges of a held record's fields by bits of them.
use Rattle.std.specs.Prelude.{ℕ, zero, suc, ◌+◌, ◌-◌, ◌*◌, ◌/◌, ◌^◌, ◌<◌, Bool, true, false, cond, not, ◌&&◌, List, ◌≡◌, refl, eqb, leb, ltb}
use Rattle.std.proofs.Math.Bool.{and-true, and-false}
use Rattle.std.proofs.Common.{sym, ap, ◌∙◌, zero-mul, suc-mul, mod-eq_of_lt, div-lt_iff_lt-mul, arith, leb-true, leb-false, ltb-true, ltb-false, lt-ltb, le-ltb, ne_eqb, pow_pos, shr_lt}
use Rattle.std.proofs.Math.Nat.{div-eq_of_lt}
use Rattle.std.specs.Int.Bits.{bit_and, and_zero_r}
use Rattle.std.proofs.lemmas.Nat.Bits.{and_high}
use Rattle.std.proofs.Math.Dec.{leb-zero}
use Rattle.model.specs.Bits.{number}
use Rattle.model.specs.Context.{pcid_in_range}
use Rattle.model.specs.Mappings.{mapping, Held, guest_physical, global_marked, span_in_range, page_in_range, fields_in_range}
use Rattle.model.specs.declared.Mapping.{Mapping}
use Rattle.laws.specs.Mappings.{pcid_held, global_held}

-- a quotient is 0 below the divisor alone
pub quotient_none : (x k : ℕ) → 0 < k → eqb (x / k) 0 ≡ ltb x k
quotient_none x k some = go (ltb x k) refl
  where
    go : (b : Bool) → ltb x k ≡ b → eqb (x / k) 0 ≡ b
    go true e = rw (div-eq_of_lt (ltb-true x k e))
    go false e =
        ne_eqb (x / k) 0
        (λ none.
        let low : x / k < 1 = omega (arith, none) in
        let below : x < 1 * k = (div-lt_iff_lt-mul some).0 low in
        absurd (omega (arith, ltb-false x k e, below)))

-- below a number is at most the one before
pub ltb_suc : (x n : ℕ) → ltb x (suc n) ≡ leb x n
ltb_suc x n = go (leb x n) refl
  where
    go : (b : Bool) → leb x n ≡ b → ltb x (suc n) ≡ b
    go true e = lt-ltb x (suc n) (omega (arith, leb-true x n e))
    go false e = le-ltb x (suc n) (omega (arith, leb-false x n e))

-- the high bits of a number are 0 below their lowest alone
pub high_bits_none : (x j k : ℕ) → x < 2 ^ (j + k) → eqb (bit_and x (2 ^ (j + k) - 2 ^ k)) 0 ≡ ltb x (2 ^ k)
high_bits_none x j k within =
    ap (λ y. eqb y 0) (and_high x j k ∙ ap (λ q. q * 2 ^ k) (mod-eq_of_lt (shr_lt j k within)))
    ∙ product_none (x / 2 ^ k) (2 ^ k) (pow_pos k)
    ∙ quotient_none x (2 ^ k) (pow_pos k)
  where
    product_none : (q m : ℕ) → 0 < m → eqb (q * m) 0 ≡ eqb q 0
    product_none zero m some = rw zero-mul
    product_none (suc q) m some =
        ne_eqb (suc q * m) 0 (λ none. absurd (omega (arith, suc-mul q m, some, none))) ∙ sym (ne_eqb (suc q) 0 (λ none. absurd (omega (arith, none))))

-- a span out of its range puts the fields out of theirs; else PCID, global mark and page decide
module _ (m : Mapping) where
  pub ranges_off : span_in_range m.kind m.span ≡ false → fields_in_range m ≡ false
  unfolding fields_in_range
  ranges_off off = rw (off, and-false)

  pub ranges_on : span_in_range m.kind m.span ≡ true → (leb m.global 1 && pcid_in_range m.pcid && page_in_range m.kind m.span m.page) ≡ fields_in_range m
  unfolding fields_in_range
  ranges_on on = rw (on, and-true)

-- a field that a kind lacks is 0, and so in its range: where the kind has it, the bits above its range are 0
bits_where : (b : Bool) (x j k most : ℕ) → x < 2 ^ (j + k) → 2 ^ k ≡ suc most
    → eqb (bit_and x (cond b (2 ^ (j + k) - 2 ^ k) 0)) 0 ≡ leb (cond b x 0) most
bits_where true x j k most within is = high_bits_none x j k within ∙ ap (ltb x) is ∙ ltb_suc x most
bits_where false x j k most within is = ap (λ y. eqb y 0) (and_zero_r x) ∙ sym (leb-zero most)

-- the ranges of PCID and global mark, by bits of the bytes where some kinds have them
pub pcid_and_mark_bits : (r : List ℕ) → Held r → number 1 5 r < 256 → number 2 3 r < 2 ^ 16
    → (eqb (bit_and (number 1 5 r) (cond (global_marked (mapping r).kind) 0xFE 0)) 0 && eqb (bit_and (number 2 3 r) (cond (guest_physical (mapping r).kind) 0 0xF000)) 0)
    ≡ (leb (mapping r).global 1 && pcid_in_range (mapping r).pcid)
pcid_and_mark_bits r held one two =
    rw (
      bits_where (global_marked (mapping r).kind) (number 1 5 r) 7 1 1 one refl,
      swapped (guest_physical (mapping r).kind),
      bits_where (not (guest_physical (mapping r).kind)) (number 2 3 r) 4 12 4095 two refl,
      global_held r held,
      pcid_held r held,
    )
  where
    swapped : (b : Bool) → ◌≡◌ {A = ℕ} (cond b 0 0xF000) (cond (not b) 0xF000 0)
    swapped true = refl
    swapped false = refl
