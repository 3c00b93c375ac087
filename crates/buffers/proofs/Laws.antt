-- The part of a buffer that is lent, written, and put back.
use Rattle.std.specs.Prelude.{ℕ, ◌+◌, ◌-◌, ◌≤◌, List, ◌≡◌, length, take, drop}
use Rattle.std.proofs.Common.{sym, ◌∙◌, arith, length-take, length-drop}
use Rattle.std.proofs.Math.Seq.{take-length}
use borrow.Rule.Slice.PartMut.{put_mid}
use Rattle.model.specs.Buffers.{put}
use Rattle.laws.specs.Buffers.{put_split, put_byte, put_bytes_end, take_put_front, length_bytes}

-- it is as long as the range that names it
pub part_length : (at n : ℕ) (out : List ℕ) → at + n ≤ length out → length (take (at + n - at) (drop at out)) ≡ n
part_length at n out fits = length-take (at + n - at) (drop at out) ∙ omega (arith, length-drop at out)

-- bytes in the place of what was lent, as Rattle puts it back
pub put_back : (part out : List ℕ) (at : ℕ) (n : ℕ) (ys : List ℕ) → n ≡ length part → ys ≡ part → put_mid at n out ys ≡ put at part out
put_back part out at n ys few is = rw (few, is) (sym (put_split at part out))

-- what was lent is the bytes, where as many are put at its front
pub put_all : (xs ys zs : List ℕ) → zs ≡ put 0 xs ys → length zs ≡ length xs → zs ≡ xs
put_all xs ys zs is long = sym (take-length zs) ∙ rw (long, is) (take_put_front xs ys)

-- what writes a part goes by
pub ruleset parts = (part_length, put_back, put_all, put_byte, put_bytes_end, length_bytes)
