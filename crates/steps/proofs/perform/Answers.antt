-- The filtered records and then the creation are the new table; the bytes behind it stay.
use mathlib.Core.List.{◌++◌}
use mathlib.Core.Path.{◌≡◌, sym, ◌∙◌}
use native.Mathlib.Omega.{arith}
use lib.ListN.{length, length-append}
use Rattle.model.specs.Answers.{created}
use Rattle.model.specs.Scopes.{scope}
use Rattle.model.specs.Steps.{new_table}
use Rattle.laws.specs.Buffers.{put_put_front}
use Rattle.laws.specs.Steps.{judged_whole, judged_short}
use Rattle.filters.specs.Filters.{filtered}
use Rattle.filters.proofs.Laws.Filters.{length_filtered, new_table_filtered, dropped_count_scoped}
use Rattle.creations.proofs.Laws.Counts.{kept, creation_countable, tallied_new_table}
use Rattle.steps.proofs.perform.Goals as goal
use Rattle.steps.proofs.perform.Goals.{After-add_creation-length}

pub filter_event-filtered-requires : goal.filter_event-filtered-requires
filter_event-filtered-requires c =
    let pre = c.requires in
    record { table_value = judged_whole _ _ pre.table_value; table_in_bounds = omega (arith, pre.raw_in_bounds); count_value = pre.count_value; tallied = pre.tallied }

pub count_creation-requires : goal.count_creation-requires
count_creation-requires c =
    λ on. creation_countable c.args.c _ _ c.requires.raw_value (rw c.requires.e_value at (c.filter_event-filtered.ensures.carries.counted on)) (judged_short _ _ c.requires.table_value)

pub add_creation-length-requires : goal.add_creation-length-requires
add_creation-length-requires c =
    let a = c.args in
    let filter = c.filter_event-filtered in
    omega (arith, filter.ensures.filters.size, length_filtered (scope a.c a.e) a.table.now, filter.auto.cells, c.requires.raw_in_bounds)

-- the new table, in its two parts
parts : (c : After-add_creation-length)
    → new_table c.args.c c.args.table.now c.args.raw.now
    ≡ filtered (scope c.args.c c.args.e) c.args.table.now ++ created c.args.raw.now
parts c = new_table_filtered _ _ _ c.requires.e_value

-- its length is told
size : (c : After-add_creation-length)
    → c.add_creation-length.result ≡ length (new_table c.args.c c.args.table.now c.args.raw.now)
size c =
    let a = c.args in
    rw (parts c, length-append (filtered (scope a.c a.e) a.table.now) (created a.raw.now), ← c.filter_event-filtered.ensures.filters.size) c.add_creation-length.ensures.value

pub returns : goal.returns
returns c =
    let a = c.args in
    let read = c.requires.e_value in
    let filter = c.filter_event-filtered.ensures in
    let count = c.count_creation.ensures in record {
      length_value = (size (goal.at.returns c).After-add_creation-length, filter.filters.dropped ∙ sym (dropped_count_scoped a.c a.table.now a.raw.now read));
      after = rw (c.add_creation-length.ensures.buffer_after, filter.filters.size, filter.filters.buffer, put_put_front, parts (goal.at.returns c).After-add_creation-length);
      carries = record {
        counted = λ on. rw (rw on at count.cells_after, rw on at count.pcids_after) (tallied_new_table a.c _ _ c.requires.raw_value (rw read at (filter.carries.counted on)));
        kept = λ off. let same = filter.carries.kept off in (rw off at count.cells_after ∙ same.0, rw off at count.pcids_after ∙ same.1);
      };
    }
