-- Each number is put over what is too much of the ones before it.
use Rattle.row_fields.proofs.Laws.Overlaps.{overlapped}
use Rattle.row_fields.proofs.put_mapping.Goals as goal

pub returns : goal.returns
returns c =
    let size = c.length_of_mapping-length.ensures in
    let span = c.place_of_span-span.ensures in
    let first = c.put_number-tags.ensures.out_after in
    let second = rw (c.put_number-tags.ensures.value, c.tags_number.ensures) at c.put_word.ensures in
    let third = rw span at c.put_number-page.ensures.out_after in
    let fourth = rw (c.put_number-page.ensures.value, span) at c.put_word-2.ensures in
    let fifth = rw c.place_of_frame-frame.ensures at c.put_word-3.ensures in
    let sixth = rw (size, c.last_number.ensures) at c.put_word-4.ensures in
    record { value = rw size; table_after = overlapped c.args.mapping c.requires.kind_value c.requires.small c.args.at c.args.table.now c.requires.kind_in_bounds first second third fourth fifth sixth }
