-- Bits and little-endian numbers.
use Rattle.std.specs.Prelude.{ℕ, zero, suc, ◌+◌, ◌-◌, ◌*◌, ◌/◌, ◌%◌, ◌^◌, Bool, cond, List, [], ◌∷◌, eqb, get_or}

-- bits high to low of x, as the manual numbers them
abbrev pub bits : ℕ → ℕ → ℕ → ℕ
bits high low x = x / 2 ^ low % 2 ^ (high + 1 - low)

-- bit n of x is set
abbrev pub bit : ℕ → ℕ → Bool
bit n x = eqb (x / 2 ^ n % 2) 1

-- how many bits a linear address has, by the context's linear width (document 02, Ask 12): 57 or 48. Any width but 57
-- is read as 48; a step or lookup refuses such a context with 1 before it comes to that.
abbrev pub linear_bits : ℕ → ℕ
linear_bits width = cond (eqb width 57) 57 48

-- guest-physical addresses have 48 bits; a page has 2^12 bytes
abbrev pub guest_physical_width : ℕ
guest_physical_width = 48

abbrev pub page_width : ℕ
page_width = 12

-- the little-endian number of n bytes at a position; bytes past the end count as 0
abbrev pub number : ℕ → ℕ → List ℕ → ℕ
number zero at r = 0
number (suc zero) at r = get_or r at 0
number (suc (suc n)) at r = get_or r at 0 + 256 * number (suc n) (at + 1) r

-- the n bytes of a number, little-endian
unfoldable pub bytes : ℕ → ℕ → List ℕ
bytes zero x = []
bytes (suc n) x = x % 256 ∷ bytes n (x / 256)
