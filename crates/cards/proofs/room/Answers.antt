-- By the lemma: computing the length would go through every zero.
use Prim.Native.Nat.{ℕ}
use Rattle.std.proofs.Common.{sym}
use lib.ListN.{length-replicate}
use Rattle.cards.proofs.room.Goals as goal

pub returns : goal.returns
returns c = sym (length-replicate {0} {A = ℕ} 524288 0)
