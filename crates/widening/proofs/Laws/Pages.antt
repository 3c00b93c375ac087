-- Pages of both widths: the page of a linear address, canonical at 48 bits or at 57 alone, and what a record covers.
use Rattle.std.specs.Prelude.{ℕ, zero, suc, ◌+◌, ◌*◌, ◌/◌, ◌%◌, ◌^◌, ◌≤◌, ◌<◌, Bool, true, false, cond, ◌||◌, ◌≡◌, refl, eqb, leb}
use Rattle.std.proofs.lemmas.Bool.{false≢true, eqb-false, lt-leb}
use Rattle.std.proofs.Common.{sym, ◌∙◌, add-mul, mul_comm, le-div_iff_mul-le, div-lt_iff_lt-mul, arith, eqb-true, eq-eqb, ne_eqb, le-leb, leb-true, leb-false}
use Rattle.std.proofs.Math.Nat.{add-mul-div_left, add-mul-mod_self_left}
use Rattle.model.specs.Mappings.{covers}
use Rattle.model.specs.Events.{canonical, page_of}
use Rattle.widening.specs.Widening.{widened_page}

-- two tests of equality that hold together
eqb_together : (x y x' y' : ℕ) → (x ≡ y → x' ≡ y') → (x' ≡ y' → x ≡ y) → eqb x y ≡ eqb x' y'
eqb_together x y x' y' there back = go (eqb x y) (eqb x' y') refl refl
  where
    go : (b b' : Bool) → eqb x y ≡ b → eqb x' y' ≡ b' → eqb x y ≡ eqb x' y'
    go true b' p q = p ∙ sym (eq-eqb x' y' (there (eqb-true x y p)))
    go false true p q = absurd (eqb-false x y p (back (eqb-true x' y' q)))
    go false false p q = p ∙ sym q

-- bits 63:47 of a canonical address are all 0 or all 1
top_of_canonical : (a : ℕ) → canonical 48 a ≡ true → {P : Type 0} → (a / 140737488355328 % 131072 ≡ 0 → P) → (a / 140737488355328 % 131072 ≡ 131071 → P) → P
unfolding canonical
top_of_canonical a h {P} none all = go (eqb (a / 140737488355328 % 131072) 0) (eqb (a / 140737488355328 % 131072) 131071) refl refl h
  where
    go : (b c : Bool) → eqb (a / 140737488355328 % 131072) 0 ≡ b → eqb (a / 140737488355328 % 131072) 131071 ≡ c → (b || c) ≡ true → P
    go true c p q k = none (eqb-true (a / 140737488355328 % 131072) 0 p)
    go false true p q k = all (eqb-true (a / 140737488355328 % 131072) 131071 q)
    go false false p q k = absurd (false≢true k)

-- it is canonical at 57 bits too, and its page there is the widened one
pub canonical_57 : (a : ℕ) → canonical 48 a ≡ true → canonical 57 a ≡ true
unfolding canonical
canonical_57 a h =
    top_of_canonical a h
    (λ none. rw (eq-eqb (a / 72057594037927936 % 256) 0 (omega arith)))
    (λ all.
    let top : a / 72057594037927936 % 256 ≡ 255 = omega arith in
    rw top)

pub page_of_57 : (a : ℕ) → canonical 48 a ≡ true → page_of 57 a ≡ widened_page (page_of 48 a)
page_of_57 a h =
    top_of_canonical a h
    (λ none. rw (lt-leb 34359738368 (a / 4096 % 68719476736) (omega arith)) (omega arith))
    (λ all. rw (le-leb 34359738368 (a / 4096 % 68719476736) (omega arith)) (omega arith))

-- the page of an address that is canonical at 57 bits alone lies between the two halves
pub page_between : (a : ℕ) → canonical 57 a ≡ true → canonical 48 a ≡ false → (34359738368 ≤ page_of 57 a) × (page_of 57 a < 35150012350464)
unfolding canonical
page_between a here beyond =
    go (eqb (a / 72057594037927936 % 256) 0) (eqb (a / 72057594037927936 % 256) 255) (eqb (a / 140737488355328 % 131072) 0) (eqb (a / 140737488355328 % 131072) 131071) refl refl refl refl here beyond
  where
    go : (b c d e : Bool) → eqb (a / 72057594037927936 % 256) 0 ≡ b → eqb (a / 72057594037927936 % 256) 255 ≡ c
        → eqb (a / 140737488355328 % 131072) 0 ≡ d → eqb (a / 140737488355328 % 131072) 131071 ≡ e
        → (b || c) ≡ true → (d || e) ≡ false → (34359738368 ≤ page_of 57 a) × (page_of 57 a < 35150012350464)
    go b c true e n all o u h k = absurd (false≢true (sym k))
    go b c false true n all o u h k = absurd (false≢true (sym k))
    go true c false false n all o u h k =
        let top = eqb-true (a / 72057594037927936 % 256) 0 n in
        let some = eqb-false (a / 140737488355328 % 131072) 0 o in
        (omega (arith, top, some), omega (arith, top, some))
    go false true false false n all o u h k =
        let top = eqb-true (a / 72057594037927936 % 256) 255 all in
        let some = eqb-false (a / 140737488355328 % 131072) 131071 u in
        (omega (arith, top, some), omega (arith, top, some))
    go false false false false n all o u h k = absurd (false≢true h)

-- pages of 2^36 and fewer, widened, lie below 2^45
pub widened_page_below : (p : ℕ) → p < 68719476736 → widened_page p < 35184372088832
widened_page_below p small = go (leb 34359738368 p) refl
  where
    go : (b : Bool) → leb 34359738368 p ≡ b → cond b (p + 35115652612096) p < 35184372088832
    go true h = omega arith
    go false h = omega arith

-- so many pages, of which 2^35 and what a page gains are multiples
record Evenly (d : ℕ) : Type 0 where
  some : 0 < d
  half : ℕ
  halves : half * d ≡ 34359738368
  gain : ℕ
  gains : d * gain ≡ 35115652612096

-- as those of a span of 0, 1, 2 or 3 are
evenly : (s : ℕ) → s ≤ 3 → Evenly (2 ^ (9 * s))
evenly zero h = record { some = omega arith; half = 34359738368; halves = refl; gain = 35115652612096; gains = refl }
evenly (suc zero) h = record { some = omega arith; half = 67108864; halves = refl; gain = 68585259008; gains = refl }
evenly (suc (suc zero)) h = record { some = omega arith; half = 131072; halves = refl; gain = 133955584; gains = refl }
evenly (suc (suc (suc zero))) h = record { some = omega arith; half = 256; halves = refl; gain = 261632; gains = refl }
evenly (suc (suc (suc (suc s)))) h = absurd (omega arith)

module _ {d : ℕ} (e : Evenly d) where
  -- the quotient of a page that gains, and on which side of the half a quotient lies
  quotient : (p : ℕ) → (p + 35115652612096) / d ≡ p / d + e.gain
  quotient p = rw (← e.gains) (add-mul-div_left p e.gain e.some)

  upper : (p : ℕ) → leb 34359738368 p ≡ true → e.half ≤ p / d
  upper p h = (le-div_iff_mul-le e.some).1 (omega (arith, e.halves, leb-true 34359738368 p h))

  lower : (p : ℕ) → leb 34359738368 p ≡ false → p / d < e.half
  lower p h = (div-lt_iff_lt-mul e.some).1 (omega (arith, e.halves, leb-false 34359738368 p h))

  -- a widened page is a multiple where the page is
  multiple : (p : ℕ) → p % d ≡ 0 → widened_page p % d ≡ 0
  multiple p h = go (leb 34359738368 p)
    where
      go : (b : Bool) → cond b (p + 35115652612096) p % d ≡ 0
      go true = rw (← e.gains) (add-mul-mod_self_left p d e.gain ∙ h)
      go false = h

  -- quotients of widened pages are equal where those of the pages are
  same_quotients : (p q : ℕ) → eqb (widened_page q / d) (widened_page p / d) ≡ eqb (q / d) (p / d)
  same_quotients p q = go (leb 34359738368 q) (leb 34359738368 p) refl refl
    where
      go : (b c : Bool) → leb 34359738368 q ≡ b → leb 34359738368 p ≡ c
          → eqb (cond b (q + 35115652612096) q / d) (cond c (p + 35115652612096) p / d) ≡ eqb (q / d) (p / d)
      go true true h k = rw (quotient q, quotient p) (eqb_together (q / d + e.gain) (p / d + e.gain) (q / d) (p / d) (λ is. omega arith) (λ is. omega arith))
      go true false h k =
          rw (quotient q) (eqb_together (q / d + e.gain) (p / d) (q / d) (p / d) (λ is. omega (arith, upper q h, lower p k)) (λ is. absurd (omega (arith, upper q h, lower p k))))
      go false true h k =
          rw (quotient p) (eqb_together (q / d) (p / d + e.gain) (q / d) (p / d) (λ is. omega (arith, lower q h, upper p k)) (λ is. absurd (omega (arith, lower q h, upper p k))))
      go false false h k = refl

  -- no widened page has the quotient of a page between the halves
  between : (p q : ℕ) → 34359738368 ≤ q → q < 35150012350464 → eqb (q / d) (widened_page p / d) ≡ false
  between p q from to = go (leb 34359738368 p) refl
    where
      all : (e.half + e.gain) * d ≡ 35150012350464
      all = add-mul e.half e.gain d ∙ omega (arith, e.halves, e.gains, mul_comm e.gain d)

      above : e.half ≤ q / d
      above = (le-div_iff_mul-le e.some).1 (omega (arith, e.halves))

      below : q / d < e.half + e.gain
      below = (div-lt_iff_lt-mul e.some).1 (omega (arith, all))

      go : (b : Bool) → leb 34359738368 p ≡ b → eqb (q / d) (cond b (p + 35115652612096) p / d) ≡ false
      go true h = rw (quotient p) (ne_eqb (q / d) (p / d + e.gain) (λ is. omega (arith, upper p h, below)))
      go false h = ne_eqb (q / d) (p / d) (λ is. omega (arith, lower p h, above))

-- a widened page is a multiple of as many pages, and a record covers the same addresses
pub multiple_widened : (s p : ℕ) → s ≤ 3 → p % 2 ^ (9 * s) ≡ 0 → widened_page p % 2 ^ (9 * s) ≡ 0
multiple_widened s p small = multiple (evenly s small) p

pub covers_widened : (s p q : ℕ) → s ≤ 3 → covers s (widened_page p) (widened_page q) ≡ covers s p q
unfolding covers
covers_widened s p q small = same_quotients (evenly s small) p q

-- and no address that is canonical at 57 bits alone
pub covers_between : (s p q : ℕ) → s ≤ 3 → 34359738368 ≤ q → q < 35150012350464 → covers s (widened_page p) q ≡ false
unfolding covers
covers_between s p q small = between (evenly s small) p q
