-- The bytes that are cut off at the front are a record.
use Rattle.std.specs.Prelude.{◌<◌, length}
use Rattle.std.proofs.lemmas.Grind.{common_steps}
use Rattle.std.proofs.Common.{arith}
use Rattle.records.proofs.Laws.{held_record}
use Rattle.records.proofs.RecordsIterator.next.Goals as goal

pub invariant_of-result : goal.invariant_of-result
invariant_of-result c =
    let rest = c.args.self.now.rest.now in
    let some : 0 < length rest = grind (arith, common_steps) in
    record { held = rw c.split_at.ensures.front (held_record rest c.args.self.now.is_whole some _ c.length-length.ensures) }
