-- The replay's own result, written out as numbers.
use Rattle.std.specs.Prelude.{Bool, true, false, cond, ◌≡◌, refl}
use Rattle.std.specs.Int.{from_bool}
use Rattle.skuldrefn.specs.Flat.{flat_replayed}
use Rattle.skuldrefn.proofs.Laws.{flat_replays}
use Rattle.skuldrefn.proofs.skuldrefn_replay.Goals as goal

as_number : (b : Bool) → from_bool b ≡ cond b 1 0
as_number true = refl
as_number false = refl

pub returns : goal.returns
unfolding flat_replayed
returns c =
    let r = c.replay-r in
    flat_replays (rw (c.from.ensures, c.from-2.ensures, as_number r.result.first)) r.ensures.replays r.ensures.by_the_book
