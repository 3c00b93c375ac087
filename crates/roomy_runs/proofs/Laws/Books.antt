-- The book with room is document 01's where that refuses no creation for room.
use Rattle.std.specs.Prelude.{ℕ, min, ◌+◌, ◌≤◌, ◌≡◌, Bool, ◌&&◌, ◌||◌, cond, eqb, replicate}
use Rattle.std.proofs.Math.Path.{refl, sym, ap}
use Rattle.std.proofs.Common.{ap₂, ◌∙◌}
use Rattle.std.proofs.Math.Bool.{true, false}
use mathlib.Mathlib.Data.Bool.Basic.{or-eq-false-eq-eq-false-and-eq-false}
use mathlib.Core.List.{List, [], ◌∷◌}
use native.Mathlib.Omega.{arith}
use Rattle.std.proofs.Math.Dec.{ltb}
use Rattle.std.proofs.Math.ListN.{length}
use Rattle.std.proofs.lemmas.List.{length-replicate}
use borrow.Author.Tests.{eqb-false, ltb-true}
use Rattle.model.specs.declared.Context.{Context}
use Rattle.model.specs.Context.{in_range}
use Rattle.model.specs.Layouts.{kind_of, mapping_kind}
use Rattle.model.specs.Tables.{limit, joined}
use Rattle.model.specs.Answers.{first, answer, valid_table, valid_here, table_grounds, no_room, created}
use Rattle.laws.specs.Lists.{none}
use Rattle.laws.specs.Tables.{records_nil, joined_whole}
use Rattle.laws.specs.Answers.{valid_table_made, answer_shorter, answer_not_2, answer_not_3, answer_no_room, answer_of_table, answer_of_invalid, table_grounds_whole, table_grounds_out_of_range}
use Rattle.laws.specs.Events.{valid_event_parts}
use Rattle.laws.specs.Layouts.{length_of_mapping_le}
use Rattle.runs.specs.Book.{Book, opened, book_answer, added, book_after, book_report, book_reports, book_of}
use Rattle.runs.specs.Runs.{Run, started, run_answer, run_after, refused_for_room}
use Rattle.runs.proofs.Laws.Steps.{Sound, sound_answer, room_refuses_creations}
use Rattle.runs.proofs.Laws.First.{Follows, follows_started, follows_answer, follows_after, first_run_holds}
use Rattle.roomy_runs.specs.Books.{book_refuses_for_room, roomy_answer, roomy_added, roomy_after, roomy_report, roomy_reports, roomy_of}
use Rattle.roomy_runs.specs.Statements.{SameBookAlways, NeverForRoom, RoomyRunAlways}

-- an empty table is valid at every width
pub empty_valid : (w : ℕ) → valid_table w [] ≡ true
unfolding joined
empty_valid w = valid_table_made w [] (joined_whole none) (rw records_nil none)

-- one event that is not refused for room
module _ (s : Run) (b : Book) (e : List ℕ) (k : Follows s b) (h : run_answer s e ≡ 12 → ⊥) where
  roomy_same : roomy_answer b.context e ≡ book_answer b e
  unfolding roomy_answer
  roomy_same =
      let sound = k.sound in
      let short : answer s.context [] e limit ≡ answer s.context s.table e limit =
      answer_shorter s.context s.table [] e limit sound.tabled.valid (empty_valid s.context.linear_width) sound.tabled.short (omega arith)
      (λ z. h (sound_answer s e sound ∙ z)) in
      ap (λ c. answer c [] e limit) (sym k.context) ∙ short ∙ sym (sound_answer s e sound) ∙ follows_answer s b e k

  pub roomy_after_same : book_after b e ≡ roomy_after b e
  unfolding book_after roomy_after added roomy_added
  roomy_after_same = rw (roomy_same)

  pub roomy_report_same : book_report b e ≡ roomy_report b e
  unfolding book_report roomy_report added roomy_added book_after roomy_after
  roomy_report_same = rw (roomy_same)

pub not_for_room : (s : Run) (e : List ℕ) (es : List (List ℕ)) → Sound s → refused_for_room s (e ∷ es) ≡ false
    → (run_answer s e ≡ 12 → ⊥) × (refused_for_room (run_after s e) es ≡ false)
unfolding refused_for_room
not_for_room s e es k h =
    let creation = mapping_kind (kind_of e) && eqb (run_answer s e) 12 in
    let parts = (or-eq-false-eq-eq-false-and-eq-false creation (refused_for_room (run_after s e) es)).0 h in
    (λ full. eqb-false (run_answer s e) 12 (rw (room_refuses_creations s e k full) at parts.0) full, parts.1)

pub roomy_of_same : (s : Run) (b : Book) (es : List (List ℕ)) → Follows s b → refused_for_room s es ≡ false → book_of b es ≡ roomy_of b es
unfolding book_of roomy_of
roomy_of_same s b [] k h = refl
roomy_of_same s b (e ∷ es) k h =
    let room = not_for_room s e es k.sound h in
    roomy_of_same (run_after s e) (book_after b e) es (follows_after s b e k) room.1
    ∙ ap (λ x. roomy_of x es) (roomy_after_same s b e k room.0)

pub roomy_reports_same : (s : Run) (b : Book) (es : List (List ℕ)) → Follows s b → refused_for_room s es ≡ false → book_reports b es ≡ roomy_reports b es
unfolding book_reports roomy_reports
roomy_reports_same s b [] k h = refl
roomy_reports_same s b (e ∷ es) k h =
    let room = not_for_room s e es k.sound h in
    let rest = roomy_reports_same (run_after s e) (book_after b e) es (follows_after s b e k) room.1 in
    ap₂ (λ r rs. r ∷ rs) (roomy_report_same s b e k room.0)
    (rest ∙ ap (λ x. roomy_reports x es) (roomy_after_same s b e k room.0))

pub roomy_run_holds : RoomyRunAlways
roomy_run_holds c es a b h k room =
    let first = first_run_holds c es a b h k in
    let begun = follows_started c a b h k in
    let same = roomy_of_same (started c a b) (opened c) es begun room in
    record {
      table = rw (← same) first.table;
      context = rw (← same) first.context;
      reports = first.reports ∙ roomy_reports_same (started c a b) (opened c) es begun room;
    }

-- the same, with the condition on the book: a run with two buffers of the limit follows it
refuses_same : (s : Run) (b : Book) (es : List (List ℕ)) → Follows s b → book_refuses_for_room b es ≡ refused_for_room s es
unfolding book_refuses_for_room refused_for_room
refuses_same s b [] k = refl
refuses_same s b (e ∷ es) k =
    ap₂ (λ n rest. (mapping_kind (kind_of e) && eqb n 12) || rest) (sym (follows_answer s b e k)) (refuses_same (run_after s e) (book_after b e) es (follows_after s b e k))

some_buffer : (n : ℕ) → (a : List ℕ) × (n ≤ length a)
some_buffer n = (replicate n 0, omega (arith, length-replicate n (let z : ℕ = 0 in z)))

pub same_book_holds : SameBookAlways
same_book_holds c es room =
    let a = some_buffer limit in
    let begun = follows_started c a.0 a.0 a.1 a.1 in
    let none_refused = sym (refuses_same (started c a.0 a.0) (opened c) es begun) ∙ room in
    record {
      book = roomy_of_same (started c a.0 a.0) (opened c) es begun none_refused;
      reports = roomy_reports_same (started c a.0 a.0) (opened c) es begun none_refused;
    }

-- 12 comes after 4, and a valid creation is short
module _ (c : Context) (e : List ℕ) where
  short_enough : valid_here c e ≡ true → no_room limit [] e ≡ true → ⊥
  unfolding no_room created
  short_enough valid full = go (mapping_kind (kind_of e)) refl full
    where
      go : (b : Bool) → mapping_kind (kind_of e) ≡ b → ltb (min limit limit) (0 + length (cond b e [])) ≡ true → ⊥
      go true known over =
          let exact = (valid_event_parts c.linear_width e valid).exact in
          omega (arith, ltb-true (min limit limit) (0 + length e) over, length_of_mapping_le (kind_of e) known)
      go false known over = omega (arith, ltb-true (min limit limit) 0 over)

  not_twelve : roomy_answer c e ≡ 12 → ⊥
  unfolding roomy_answer first
  not_twelve h = by_range (in_range c) refl
    where
      by_valid : (b : Bool) → valid_here c e ≡ b → first (table_grounds c []) ≡ 0 → ⊥
      by_valid true valid passes = short_enough valid (answer_no_room c [] e limit h)
      by_valid false invalid passes = let four = sym (answer_of_invalid c [] e limit passes invalid) ∙ h in omega arith

      by_range : (b : Bool) → in_range c ≡ b → ⊥
      by_range true fits = by_valid (valid_here c e) refl (rw (table_grounds_whole c [] (empty_valid c.linear_width) (omega arith), fits))
      by_range false out =
          let one = table_grounds_out_of_range c [] out in
          let answered = answer_of_table c [] e limit (λ z. omega arith) in
          omega arith

pub never_for_room_holds : NeverForRoom
unfolding roomy_answer
never_for_room_holds c e =
    record {
      not_2 = answer_not_2 c [] e limit (empty_valid c.linear_width) (omega arith);
      not_3 = answer_not_3 c [] e limit (empty_valid c.linear_width) (omega arith);
      not_12 = not_twelve c e;
    }
