-- A reader that ignores, bytes that finish no event, and an event.
use mathlib.Core.Bool.{false}
use mathlib.Core.Path.{◌≡◌, sym, ◌∙◌}
use Rattle.readers.specs.Readers.{counts_as_ignoring}
use Rattle.readers.proofs.Laws.Readers.{listening}
use Rattle.fragments.proofs.Laws.Calls.{length_gathered, size_told, unknown_told, not_complete, room_to_hold, is_complete, event_within, event_told, held_within, take_ignored, take_held, take_finished}
use Rattle.fragments.proofs.take.Goals as goal
use Rattle.fragments.proofs.take.Goals.{After-gather-all}

pub returns-then-is_ignoring : goal.returns-then-is_ignoring
returns-then-is_ignoring c =
    let a = c.args in
    let all = take_ignored a.reader a.c a.kinds a.pcids.now a.table.now a.fragment.now a.new.now (sym c.is_ignoring.ensures ∙ c.if-is_ignoring.true) c.unfinished.ensures in record { value = all.0; pcids_after = all.1.0; after = all.1.1 }

pub gather-all-requires : goal.gather-all-requires
gather-all-requires c = (listening _ _ (sym c.is_ignoring.ensures ∙ c.if-is_ignoring.false)).few

-- the reader does not ignore
awake : (c : After-gather-all) → counts_as_ignoring c.args.c.linear_width c.args.reader ≡ false
awake c = sym c.is_ignoring.ensures ∙ c.if-is_ignoring.false

pub slice_bounds-bytes-end : goal.slice_bounds-bytes-end
slice_bounds-bytes-end c = (length_gathered c.args.c.linear_width _ _ _ c.gather-all.ensures).0

pub slice_bounds-first_of-end : goal.slice_bounds-first_of-end
slice_bounds-first_of-end c = (length_gathered c.args.c.linear_width _ _ _ c.gather-all.ensures).1

pub hold-requires : goal.hold-requires
hold-requires c = room_to_hold _ _ _ _ c.gather-all.ensures _ c.first_of-first.ensures _ c.unwrap_or-size.ensures c.if-count-size.true

pub returns-then-count-size : goal.returns-then-count-size
returns-then-count-size c =
    let a = c.args in
    let few = not_complete _ _ _ _ c.gather-all.ensures _ c.first_of-first.ensures _ c.unwrap_or-size.ensures c.if-count-size.true in
    let told = rw c.hold.ensures at c.unfinished-then-count-size.ensures in
    let all = take_held a.reader a.c a.kinds a.pcids.now a.table.now a.fragment.now a.new.now (awake (goal.at.returns-then-count-size c).After-gather-all) few told in record { value = all.0; pcids_after = all.1.0; after = all.1.1 }

pub slice_bounds-bytes-end-2 : goal.slice_bounds-bytes-end-2
slice_bounds-bytes-end-2 c = (event_within _ _ _ _ c.gather-all.ensures _ c.first_of-first.ensures _ c.unwrap_or-size.ensures c.if-count-size.false).0

pub slice_bounds-counted_step-end : goal.slice_bounds-counted_step-end
slice_bounds-counted_step-end c = (event_within _ _ _ _ c.gather-all.ensures _ c.first_of-first.ensures _ c.unwrap_or-size.ensures c.if-count-size.false).1

pub overflow_sub-result : goal.overflow_sub-result
overflow_sub-result c = held_within _ _ _ _ c.gather-all.ensures _ c.first_of-first.ensures _ c.unwrap_or-size.ensures c.if-count-size.false (awake (goal.at.overflow_sub-result c).After-gather-all)

pub returns : goal.returns
returns c =
    let a = c.args in
    let got = c.gather-all.ensures in
    let first = c.first_of-first.ensures in
    let size = c.unwrap_or-size.ensures in
    let enough = c.if-count-size.false in
    let all = take_finished a.reader a.c a.kinds a.pcids.now a.table.now a.fragment.now a.new.now (awake (goal.at.returns c).After-gather-all)
    (is_complete _ _ _ _ got _ first _ size enough)
    (event_told _ _ _ _ got _ first _ size enough)
    (size_told _ _ _ _ got _ first _ size)
    (unknown_told _ _ _ _ got _ first _ size enough _ c.is_none.ensures)
    (c.counted_step-counted.ensures.value, (c.counted_step-counted.ensures.pcids_after, c.counted_step-counted.ensures.after))
    c.report.ensures in record { value = all.0; pcids_after = all.1.0; after = all.1.1 }
