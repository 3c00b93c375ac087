-- Digits as `io::decimal` gives them, the lengths of the texts, and numbers put one behind the other.
use Rattle.std.specs.Prelude.{ℕ, zero, suc, ◌+◌, ◌/◌, ◌%◌, ◌^◌, ◌≤◌, ◌<◌, Bool, true, false, cond, List, [], ◌∷◌, ◌++◌, ◌≡◌, refl, ltb, leb, length}
use Rattle.std.proofs.Common.{append_assoc, ◌∙◌, arith, mod-eq_of_lt, sub-one, lt-ltb, le-ltb, leb-true, leb-false, length-append}
use Rattle.std.proofs.Math.Nat.{pow-le-pow_right}
use Rattle.io.specs.Digits.{last_digits, hex_digit_ascii, IsDigitCount}
use Rattle.model.specs.Buffers.{put}
use Rattle.laws.specs.Buffers.{put_put}
use Rattle.lines.specs.Text.{decimal_within, decimal, field, line_text, line_limit}

-- a digit below ten
glyph_digit : (d : ℕ) → d < 10 → hex_digit_ascii d ≡ 48 + d
glyph_digit d h = rw (lt-ltb d 10 h)

-- the fewest digits of a number are its decimal digits
digits_within : (j m n : ℕ) → j ≤ m → n < 10 ^ suc j → (0 < j → 10 ^ j ≤ n) → last_digits 10 (suc j) n ≡ decimal_within m n
unfolding decimal_within
digits_within zero zero n h below above = rw (glyph_digit (n % 10) (omega arith))
digits_within zero (suc m) n h below above =
    let small : n < 10 = below in
    rw (mod-eq_of_lt small, glyph_digit n small, lt-ltb n 10 small)
digits_within (suc j) zero n h below above = absurd (omega arith)
digits_within (suc j) (suc m) n h below above =
    let least : 10 ^ suc j ≤ n = above (omega arith) in
    let rest = digits_within j m (n / 10) (omega arith) (omega arith) (λ z. omega arith) in
    rw (le-ltb n 10 (omega arith), glyph_digit (n % 10) (omega arith), rest)

-- a number below 2^64 has at most 20 of them
places : (n j : ℕ) → n < 2 ^ 64 → (0 < j → 10 ^ j ≤ n) → j ≤ 19
places n j h least = go (leb j 19) refl
  where
    go : (b : Bool) → leb j 19 ≡ b → j ≤ 19
    go true k = leb-true j 19 k
    go false k =
        let more : 19 < j = leb-false j 19 k in
        let many : 10 ^ 20 ≤ 10 ^ j = pow-le-pow_right {n = 10} (omega arith) {i = 20} {j = j} (omega arith) in
        absurd (omega (arith, least (omega arith)))

pub decimal_digits : (n k : ℕ) → n < 2 ^ 64 → IsDigitCount 10 1 n k → last_digits 10 k n ≡ decimal n
unfolding decimal
decimal_digits n zero h f = absurd (omega arith)
decimal_digits n (suc j) h f =
    let least : 0 < j → 10 ^ j ≤ n = λ z. rw sub-one at (f.2 (omega arith)) in
    digits_within j 19 n (places n j h least) f.1 least

-- how long the texts are at most
length_within : (m n : ℕ) → length (decimal_within m n) ≤ suc m
unfolding decimal_within
length_within zero n = omega arith
length_within (suc m) n = go (ltb n 10) (length_within m (n / 10))
  where
    go : (b : Bool) → length (decimal_within m (n / 10)) ≤ suc m
        → length (cond b ((48 + n) ∷ []) (decimal_within m (n / 10) ++ ((48 + n % 10) ∷ []))) ≤ suc (suc m)
    go true h = omega arith
    go false h = simp length-append (omega arith)

pub length_decimal : (n : ℕ) → length (decimal n) ≤ 20
unfolding decimal
length_decimal n = length_within 19 n

pub length_field : (n end : ℕ) → length (field n end) ≤ 21
length_field n end = simp length-append (omega (arith, length_decimal n))

-- a line as four numbers, each with the byte behind it
pub line_fields : (number answer dropped size : ℕ)
    → (((field number 32) ++ (field answer 32)) ++ (field dropped 32)) ++ (field size 10)
    ≡ line_text number answer dropped size
unfolding line_text
line_fields number answer dropped size = simp append_assoc

pub length_line : (number answer dropped size : ℕ) → length (line_text number answer dropped size) ≤ line_limit
unfolding line_text
length_line number answer dropped size =
    simp length-append
    (omega (arith, length_decimal number, length_decimal answer, length_decimal dropped, length_decimal size))

-- a number put behind those put before
field_behind : (at : ℕ) (t f b : List ℕ) → at ≤ length b → {from end : ℕ} {before after : List ℕ} → (from ≡ at + length t) × (before ≡ put at t b)
    → (end ≡ from + length f) × (after ≡ put from f before)
    → (end ≡ at + length (t ++ f)) × (after ≡ put at (t ++ f) b)
field_behind at t f b h old new =
    (omega (arith, old.0, new.0, length-append t f), new.1 ∙ rw (old.0, old.1) (put_put at t f b h))

-- four numbers put one behind the other are a line
pub four_fields : (at number answer dropped size : ℕ) (b : List ℕ) → at ≤ length b → {b1 b2 b3 b4 : List ℕ} {n1 n2 n3 n4 : ℕ}
    → (n1 ≡ at + length (field number 32)) × (b1 ≡ put at (field number 32) b)
    → (n2 ≡ n1 + length (field answer 32)) × (b2 ≡ put n1 (field answer 32) b1)
    → (n3 ≡ n2 + length (field dropped 32)) × (b3 ≡ put n2 (field dropped 32) b2)
    → (n4 ≡ n3 + length (field size 10)) × (b4 ≡ put n3 (field size 10) b3)
    → (n4 ≡ at + length (line_text number answer dropped size)) × (b4 ≡ put at (line_text number answer dropped size) b)
four_fields at number answer dropped size b h e1 e2 e3 e4 =
    let f2 = field_behind at (field number 32) (field answer 32) b h e1 e2 in
    let f3 = field_behind at (field number 32 ++ field answer 32) (field dropped 32) b h f2 e3 in
    let f4 = field_behind at ((field number 32 ++ field answer 32) ++ field dropped 32) (field size 10) b h f3 e4 in
    rw (line_fields number answer dropped size) at f4

-- a line has some bytes
pub line_some : (number answer dropped size : ℕ) → 0 < length (line_text number answer dropped size)
unfolding line_text
line_some number answer dropped size = simp length-append (omega arith)
