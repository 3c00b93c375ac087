-- Bytes put into a buffer, and the bytes of a number.
use Rattle.std.specs.Prelude.{ℕ, zero, suc, ◌+◌, ◌-◌, ◌/◌, ◌%◌, ◌^◌, ◌≤◌, ◌<◌, List, [], ◌∷◌, ◌++◌, ◌≡◌, refl, length, take, drop, set}
use Rattle.std.proofs.Common.{append_assoc, sym, ap, ◌∙◌, arith, zero-add, add_assoc, mod-eq_of_lt, add-one, length-append, length-take, length-drop, drop-drop}
use Rattle.std.proofs.Math.Seq.{take-length, paste-zero}
use Rattle.std.proofs.lemmas.List.{set_split, get_or_at}
use Rattle.std.proofs.lemmas.List.Edits.{length-paste, take-paste, drop-paste}
use Rattle.model.specs.Bits.{number, bytes}
use Rattle.model.specs.Buffers.{put}

-- no bytes
pub put_nil : (at : ℕ) (b : List ℕ) → put at [] b ≡ b
unfolding put
put_nil at b = sym (paste-zero b at [])

-- one byte
pub put_one : (at x : ℕ) (b : List ℕ) → at < length b → put at (x ∷ []) b ≡ set b at x
unfolding put
put_one at x b h = rw (add-one at, append_assoc) (sym (set_split b at x h))

-- a buffer keeps its length where there is room for the bytes, and never becomes shorter
pub length_put : (at : ℕ) (xs b : List ℕ) → at + length xs ≤ length b → length (put at xs b) ≡ length b
unfolding put
length_put at xs b h = length-paste b at xs (length xs) h (omega arith)

pub length_put_least : (at : ℕ) (xs b : List ℕ) → length b ≤ length (put at xs b)
unfolding put
length_put_least at xs b = simp (take-length, length-append, length-take, length-drop) (omega arith)

-- up to their end, and behind it
pub take_put : (at : ℕ) (xs b : List ℕ) → at ≤ length b → take (at + length xs) (put at xs b) ≡ take at b ++ xs
unfolding put
take_put at xs b h = take-paste b at xs (length xs) h (omega arith) ∙ rw (take-length xs)

pub drop_put : (at : ℕ) (xs b : List ℕ) → at ≤ length b → drop (at + length xs) (put at xs b) ≡ drop (at + length xs) b
unfolding put
drop_put at xs b h = drop-paste b at xs (length xs) h (omega arith)

-- the parts of the buffer
pub put_split : (at : ℕ) (xs b : List ℕ) → put at xs b ≡ take at b ++ (xs ++ drop (length xs) (drop at b))
unfolding put
put_split at xs b = rw (take-length xs, append_assoc, drop-drop (length xs) at b)

-- bytes behind those put before
pub put_put : (at : ℕ) (xs ys b : List ℕ) → at ≤ length b → put (at + length xs) ys (put at xs b) ≡ put at (xs ++ ys) b
put_put at xs ys b h =
    rw (put_split (at + length xs) ys, put_split at (xs ++ ys), take_put at xs b h, drop_put at xs b h, length-append xs ys)
    (simp (drop-drop, append_assoc, add_assoc))

-- one byte more behind those put before
pub put_more : (at : ℕ) (xs b : List ℕ) (x : ℕ) → at + length xs < length b
    → set (put at xs b) (at + length xs) x ≡ put at (xs ++ (x ∷ [])) b
put_more at xs b x h =
    sym (put_one (at + length xs) x (put at xs b) (omega (arith, length_put_least at xs b))) ∙ put_put at xs (x ∷ []) b (omega arith)

-- the same at the front
pub take_put_front : (xs b : List ℕ) → take (length xs) (put 0 xs b) ≡ xs
take_put_front xs b = rw zero-add at (take_put 0 xs b (omega arith))

pub put_put_front : (xs ys b : List ℕ) → put (length xs) ys (put 0 xs b) ≡ put 0 (xs ++ ys) b
put_put_front xs ys b = rw zero-add at (put_put 0 xs ys b (omega arith))

pub length_bytes : (n x : ℕ) → length (bytes n x) ≡ n
unfolding bytes
length_bytes zero x = refl
length_bytes (suc n) x = ap suc (length_bytes n (x / 256))

-- a number, read back from its bytes
pub number_bytes : (n x : ℕ) → x < 256 ^ suc n → (p q : List ℕ) (at : ℕ) → at ≡ length p → number (suc n) at (p ++ (bytes (suc n) x ++ q)) ≡ x
unfolding bytes
number_bytes zero x h p q at is = get_or_at p (x % 256) q 0 at (sym is) ∙ mod-eq_of_lt h
number_bytes (suc n) x h p q at is =
    let low = get_or_at p (x % 256) (bytes (suc n) (x / 256) ++ q) 0 at (sym is) in
    let next : at + 1 ≡ length (p ++ (x % 256 ∷ [])) = omega (arith, length-append p (x % 256 ∷ [])) in
    let high = number_bytes n (x / 256) (omega arith) (p ++ (x % 256 ∷ [])) q (at + 1) next in
    let here = rw (append_assoc p (x % 256 ∷ []) (bytes (suc n) (x / 256) ++ q)) at high in
    omega (arith, low, here)

-- the bytes of a number put one by one: one more of those up to an end, and none
pub put_byte : (to end x : ℕ) (b : List ℕ) → to < end → end ≤ length b
    → put (to + 1) (bytes (end - (to + 1)) (x / 256)) (set b to (x % 256)) ≡ put to (bytes (end - to) x) b
unfolding bytes
put_byte to end x b more fits =
    let n = end - (to + 1) in
    let left : end - to ≡ suc n = omega arith in
    rw (left, ← (put_one to (x % 256) b (omega arith))) (put_put to (x % 256 ∷ []) (bytes n (x / 256)) b (omega arith))

pub put_bytes_end : (to end x : ℕ) (b : List ℕ) → to ≡ end → put to (bytes (end - to) x) b ≡ b
unfolding bytes
put_bytes_end to end x b done = let none : end - to ≡ 0 = omega arith in rw none (put_nil to b)
