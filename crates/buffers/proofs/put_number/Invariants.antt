use Rattle.std.proofs.Common.{◌≡◌, ◌-◌}
use Rattle.model.specs.Bits.{bytes}
use Rattle.model.specs.Buffers.{put}
use Rattle.buffers.proofs.put_number.Given as goal

abbrev pub invariant-loop-byte : goal.invariant-loop-byte
invariant-loop-byte l = put l.byte-index (bytes (l.size - l.byte-index) l.rest) l.byte-items ≡ put 0 (bytes l.size l.x) l.initial.byte-items
