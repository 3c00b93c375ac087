-- The 24 places, and the front of the fragment after the bytes held.
use Rattle.std.proofs.Common.{◌≡◌, ◌-◌, min, length, arith, rules}
use Rattle.readers.proofs.Laws.Readers.{together}
use Rattle.readers.proofs.Reader.gather.Goals as goal

pub returns : goal.returns
returns c =
    let r = c.args.self in
    let x = c.args.fragment.now in
    let full : length r.held ≡ 24 = search rules in
    let more : c.min-more.result ≡ min (25 - r.length) (length x) = omega (arith, c.min-more.ensures) in
    let front = c.put.ensures in
    let after = c.put-length.ensures in
    together r full x _ _ _ _ _ c.requires more front.out_after after.value after.out_after
