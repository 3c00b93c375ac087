-- The three numbers of the line, one behind the other.
use Rattle.logs.specs.Replays.{Line}
use Rattle.logs.proofs.Laws.Rows.{put_row}
use Rattle.logs.proofs.put_row.Goals as goal

pub returns : goal.returns
returns c =
    let l : Line = record { answer = c.args.answer; dropped = c.args.dropped; length = c.args.size } in
    put_row c.args.at l c.args.out.now c.requires _ _ _ c.put_number.ensures.out_after c.put_number-2.ensures.out_after c.put_number-3.ensures.out_after
