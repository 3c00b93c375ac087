-- The kind, what stands before the page, the page in six bytes, and what stands behind it.
use Prim.Native.Nat.{◌+◌}
use mathlib.Core.Path.{◌≡◌, sym, ap, ◌∙◌}
use Rattle.model.specs.Layouts.{kind_of}
use Rattle.model.specs.Mappings.{mapping}
use Rattle.laws.specs.Tables.{rest_of_drop}
use Rattle.widening.specs.Widening.{page_place}
use Rattle.widening.proofs.Laws.Loops.{page_behind_span, page_of_five, put_pieces}
use Rattle.widening.proofs.put_rewritten.Goals as goal
use Rattle.widening.proofs.put_rewritten.Goals.{After-place_of_span-place}

-- where the page stands
place : (c : After-place_of_span-place) → c.place_of_span-place.result + 1 ≡ page_place (kind_of c.args.part.bytes.now)
unfolding mapping
place c =
    ap (λ n. n + 1) (rw c.kind-kind.ensures at c.place_of_span-place.ensures) ∙ page_behind_span _ c.args.part.held.known

pub returns : goal.returns
unfolding mapping
returns c =
    let part = c.args.part.bytes.now in
    let kind = c.kind-kind.ensures in
    let first = rw (c.widened_kind.ensures, kind) at c.put_number-second.ensures in
    let second = rw (place (goal.at.returns c).After-place_of_span-place) at c.put-third.ensures in
    let page = rw (place (goal.at.returns c).After-place_of_span-place) at c.number-page.ensures.0 ∙ sym (page_of_five part c.args.part.held c.requires.part_value) in
    let third = rw (c.widened_page.ensures, page) at c.put_number-fourth.ensures in
    let fourth = rw (place (goal.at.returns c).After-place_of_span-place, rest_of_drop) at c.put.ensures in
    let all = put_pieces part c.args.new.now c.args.at c.args.part.held c.requires.part_in_bounds (first.value, first.out_after) (second.value, second.out_after) (third.value, third.out_after) (fourth.value, fourth.out_after) in record { value = all.0; after = all.1 }
