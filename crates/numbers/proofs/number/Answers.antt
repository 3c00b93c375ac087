-- Eight bytes are the N and zeros.
use Rattle.std.proofs.Common.{◌+◌, ◌-◌, arith}
use Rattle.numbers.proofs.Laws.{read}
use Rattle.numbers.proofs.number.Goals as goal

pub returns : goal.returns
returns g c =
    read g.row.N c.args.at _ c.args.s.now c.copy_from_slice.new.self {m = c.args.at + g.row.N - c.args.at} (omega arith) c.requires.at_in_bounds c.requires.size (λ k. omega (arith, c.type_inv.s k)) c.copy_from_slice.ensures.after c.from_le_bytes.ensures
