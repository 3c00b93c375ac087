-- Bytes put into a buffer.
use Rattle.std.specs.Prelude.{ℕ, List, length}
use Rattle.std.proofs.Math.Seq.{paste}

-- a buffer with bytes put at a position of it. Document 01, "Every step ..": "Bytes past that length stay."
unfoldable pub put : ℕ → List ℕ → List ℕ → List ℕ
put at bytes buffer = paste buffer at bytes (length bytes)
