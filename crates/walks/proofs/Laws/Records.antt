-- The record of a translation: its bytes put one field after the other.
use Rattle.std.specs.Prelude.{ℕ, List, ◌≡◌, replicate}
use Rattle.model.specs.Bits.{bytes}
use Rattle.model.specs.Buffers.{put}
use Rattle.walks.specs.declared.Translation.{Translation}
use Rattle.walks.specs.Walks.{combined_record}

pub combined_record_put : (vpid pcid ep4ta : ℕ) (t : Translation) {a b c d e f g h : List ℕ}
    → a ≡ put 0 (bytes 1 3) (replicate 22 0)
    → b ≡ put 1 (bytes 2 vpid) a
    → c ≡ put 3 (bytes 2 pcid) b
    → d ≡ put 5 (bytes 1 t.global) c
    → e ≡ put 6 (bytes 1 t.span) d
    → f ≡ put 7 (bytes 5 t.page) e
    → g ≡ put 12 (bytes 5 t.frame) f
    → h ≡ put 17 (bytes 5 ep4ta) g
    → h ≡ combined_record vpid pcid ep4ta t
unfolding put bytes combined_record
combined_record_put vpid pcid ep4ta t pa pb pc pd pe pf pg ph = rw (ph, pg, pf, pe, pd, pc, pb, pa)
