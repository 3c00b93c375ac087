-- The rows of lines in a buffer.
use Rattle.std.specs.Prelude.{ℕ, ◌+◌, ◌≤◌, ◌≡◌, refl, List, ◌++◌, length}
use Rattle.std.proofs.Common.{ap, ◌∙◌, arith}
use Rattle.model.specs.Bits.{bytes}
use Rattle.model.specs.Buffers.{put}
use Rattle.laws.specs.Buffers.{put_put}
use Rattle.logs.specs.Replays.{Line, row_length, row}

pub length_row : (l : Line) → length (row l) ≡ row_length
unfolding row bytes
length_row l = refl

-- the three numbers of a line, one behind the other
pub put_row : (at : ℕ) (l : Line) (out : List ℕ) → at + 24 ≤ length out → (one two three : List ℕ)
    → one ≡ put at (bytes 8 l.answer) out
    → two ≡ put (at + 8) (bytes 8 l.dropped) one
    → three ≡ put (at + 16) (bytes 8 l.length) two
    → three ≡ put at (row l) out
unfolding row bytes
put_row at l out h one two three p q r =
    let second : two ≡ put at (bytes 8 l.answer ++ bytes 8 l.dropped) out =
    q ∙ ap (put (at + 8) (bytes 8 l.dropped)) p ∙ put_put at (bytes 8 l.answer) (bytes 8 l.dropped) out (omega arith) in
    r ∙ ap (put (at + 16) (bytes 8 l.length)) second ∙ put_put at (bytes 8 l.answer ++ bytes 8 l.dropped) (bytes 8 l.length) out (omega arith)
