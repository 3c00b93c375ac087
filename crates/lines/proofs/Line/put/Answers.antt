-- Four numbers, each where the one before ends, are the line.
use Rattle.std.proofs.Common.{◌≤◌, length, arith}
use Rattle.lines.proofs.Laws.Text.{four_fields}
use Rattle.lines.proofs.Line.put.Goals as goal

pub returns : goal.returns
returns c =
    let l = c.args.self in
    let at = c.args.at in
    let inside : at ≤ length c.args.out.now = omega (arith, c.requires) in
    let one = c.put_field-second.ensures in
    let two = c.put_field-third.ensures in
    let three = c.put_field-fourth.ensures in
    let four = c.put_field.ensures in
    let all = four_fields at l.number l.answer l.dropped l.size c.args.out.now inside (one.value, one.out_after) (two.value, two.out_after) (three.value, three.out_after) (four.value, four.out_after) in record { value = all.0; out_after = all.1 }
