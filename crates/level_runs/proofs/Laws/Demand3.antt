-- Demand 3 of two levels, proved: in either run each level is the run of one table beside its tally, since the two get the
-- same answers, event by event.
use Rattle.std.specs.Prelude.{ℕ, ◌≤◌, Bool, false, ◌&&◌, ◌||◌, List, [], ◌∷◌, map, ◌≡◌, refl, eqb, length}
use Rattle.std.proofs.Common.{sym, ap₂, ◌∙◌}
use Rattle.std.proofs.Math.Path.{ap}
use Rattle.model.specs.declared.Context.{Context}
use Rattle.model.specs.Layouts.{kind_of, mapping_kind}
use Rattle.model.specs.Tables.{limit}
use Rattle.runs.specs.Book.{Report, opened, book_reports}
use Rattle.runs.specs.Runs.{verdict, report}
use Rattle.counted_runs.specs.Runs.{CountedRun, CountedGap, counted_started, counted_result, counted_after, counted_reports, counted_of, counted_states, counted_refused_for_room, counted_without, counted_gaps, counted_second_reports}
use Rattle.counted_runs.specs.Theorem.{CountedSecond, CountedDemand3}
use Rattle.counted_runs.proofs.Laws.Demand3.{counted_demand_3_holds}
use Rattle.level_runs.specs.Runs.{LevelNumber, one, two, LevelRun, level_run, levels_started, levels_after, levels_reports, levels_of, levels_states, levels_refused_for_room, levels_without, level_gap, now_gone, later_gone, levels_gaps, levels_second_reports}
use Rattle.level_runs.specs.Theorem.{LevelFirst, LevelSecond, LevelsDemand3}
use Rattle.level_runs.proofs.Laws.Steps.{alone_steps, level_after, level_reported, level_started, level_without}

-- the first of a list, and the rest
head_same : {A : Type 0} {x y : A} {xs ys : List A} → x ∷ xs ≡ y ∷ ys → x ≡ y
head_same {A = A} {x = x} same = ap first_of same
  where
    first_of : List A → A
    first_of [] = x
    first_of (z ∷ zs) = z

rest_same : {A : Type 0} {x y : A} {xs ys : List A} → x ∷ xs ≡ y ∷ ys → xs ≡ ys
rest_same {A = A} same = ap rest_of same
  where
    rest_of : List A → List A
    rest_of [] = []
    rest_of (z ∷ zs) = zs

-- ---- the first run

-- a run of two levels is, of one of them, the run of one table
pub record Runs (n : LevelNumber) (s : LevelRun) (es : List (List ℕ)) : Type 0 where
  pub ends : level_run n (levels_of s es) ≡ counted_of (level_run n s) es
  pub reports : levels_reports n s es ≡ counted_reports (level_run n s) es
  pub states : map (level_run n) (levels_states s es) ≡ counted_states (level_run n s) es
  pub refused : levels_refused_for_room s es ≡ counted_refused_for_room (level_run n s) es

pub runs_alone : (s : LevelRun) (es : List (List ℕ)) → map verdict (counted_reports (level_run one s) es) ≡ map verdict (counted_reports (level_run two s) es)
    → (n : LevelNumber) → Runs n s es
unfolding counted_reports counted_of counted_states counted_refused_for_room levels_reports levels_of levels_states levels_refused_for_room
runs_alone s [] same n = record { ends = refl; reports = refl; states = refl; refused = refl }
runs_alone s (e ∷ es) same n =
    let does = alone_steps s e (head_same same) in
    let after = level_after n s e (does n) in
    let later = runs_alone (levels_after s e) es (rw (level_after one s e (does one), level_after two s e (does two)) (rest_same same)) n in
    record {
      ends = later.ends ∙ ap (λ (r : CountedRun). counted_of r es) after;
      reports = ap₂ (λ (r : Report) (rs : List Report). r ∷ rs) (level_reported n s e (does n)) (later.reports ∙ ap (λ (r : CountedRun). counted_reports r es) after);
      states = ap (λ (rs : List CountedRun). level_run n s ∷ rs) (later.states ∙ ap (λ (r : CountedRun). counted_states r es) after);
      refused =
          ap₂ (λ (k : ℕ) (others : Bool). (mapping_kind (kind_of e) && eqb k 12) || others) (does n).answer
          (later.refused ∙ ap (λ (r : CountedRun). counted_refused_for_room r es) after);
    }

-- ---- the second run

pub record SecondRuns (n : LevelNumber) (removals : LevelNumber → ℕ → List Bool) (s : LevelRun) (es : List (List ℕ)) : Type 0 where
  pub reports : levels_second_reports n removals s es ≡ counted_second_reports (removals n) (level_run n s) es
  pub gaps : map (level_gap n) (levels_gaps removals s es) ≡ counted_gaps (removals n) (level_run n s) es

pub second_alone : (removals : LevelNumber → ℕ → List Bool) (s : LevelRun) (es : List (List ℕ))
    → map verdict (counted_second_reports (removals one) (level_run one s) es) ≡ map verdict (counted_second_reports (removals two) (level_run two s) es)
    → (n : LevelNumber) → SecondRuns n removals s es
unfolding counted_second_reports counted_gaps levels_second_reports levels_gaps level_gap
second_alone removals s [] same n =
    record {
      reports = refl;
      gaps = ap (λ (r : CountedRun). record { before = level_run n s; after = r } ∷ []) (level_without n (now_gone removals) s);
    }
second_alone removals s (e ∷ es) same n =
    let s' = levels_without (now_gone removals) s in
    let left : (m : LevelNumber) → level_run m s' ≡ counted_without (removals m 0) (level_run m s) = λ m. level_without m (now_gone removals) s in
    let does = alone_steps s' e (rw (left one, left two) (head_same same)) in
    let after : (m : LevelNumber) → level_run m (levels_after s' e) ≡ counted_after (counted_without (removals m 0) (level_run m s)) e =
    λ m. level_after m s' e (does m) ∙ ap (λ (r : CountedRun). counted_after r e) (left m) in
    let later = second_alone (later_gone removals) (levels_after s' e) es (rw (after one, after two) (rest_same same)) n in
    record {
      reports =
          ap₂ (λ (r : Report) (rs : List Report). r ∷ rs) (level_reported n s' e (does n) ∙ ap (λ (r : CountedRun). report (counted_result r e).step) (left n))
          (later.reports ∙ ap (λ (r : CountedRun). counted_second_reports (later_gone removals n) r es) (after n));
      gaps =
          ap₂ (λ (r : CountedRun) (gs : List CountedGap). record { before = level_run n s; after = r } ∷ gs) (left n)
          (later.gaps ∙ ap (λ (r : CountedRun). counted_gaps (later_gone removals n) r es) (after n));
    }

-- ---- both

module _ (c : Context) (es : List (List ℕ)) (a b : LevelNumber → List ℕ) (h : (m : LevelNumber) → limit ≤ length (a m)) (k : (m : LevelNumber) → limit ≤ length (b m)) where
  -- demand 3 of each level as a run of one table
  demand : (n : LevelNumber) → CountedDemand3 c es (a n) (b n)
  demand n = counted_demand_3_holds c es (a n) (b n) (h n) (k n)

  module _ (n : LevelNumber) where
    -- the first run: both levels follow one book
    begun : Runs n (levels_started c a b) es
    begun =
        runs_alone (levels_started c a b) es
        (rw (level_started one c a b, level_started two c a b) (ap (map verdict) ((demand one).first_run.reports ∙ sym (demand two).first_run.reports)))
        n

    ends : level_run n (levels_of (levels_started c a b) es) ≡ counted_of (counted_started c (a n) (b n)) es
    ends = begun.ends ∙ ap (λ (r : CountedRun). counted_of r es) (level_started n c a b)

    reports : levels_reports n (levels_started c a b) es ≡ counted_reports (counted_started c (a n) (b n)) es
    reports = begun.reports ∙ ap (λ (r : CountedRun). counted_reports r es) (level_started n c a b)

    states : map (level_run n) (levels_states (levels_started c a b) es) ≡ counted_states (counted_started c (a n) (b n)) es
    states = begun.states ∙ ap (λ (r : CountedRun). counted_states r es) (level_started n c a b)

    refused : levels_refused_for_room (levels_started c a b) es ≡ counted_refused_for_room (counted_started c (a n) (b n)) es
    refused = begun.refused ∙ ap (λ (r : CountedRun). counted_refused_for_room r es) (level_started n c a b)

    first_holds : LevelFirst n c es a b
    unfolding level_run
    first_holds =
        record {
          table = ap (λ (r : CountedRun). r.run.table) ends ∙ (demand n).first_run.table;
          context = ap (λ (r : CountedRun). r.run.context) ends ∙ (demand n).first_run.context;
          reports = reports ∙ (demand n).first_run.reports;
          fresh = rw states (demand n).first_run.fresh;
        }

  module _ (removals : LevelNumber → ℕ → List Bool) (a' b' : LevelNumber → List ℕ) (h' : (m : LevelNumber) → limit ≤ length (a' m)) (k' : (m : LevelNumber) → limit ≤ length (b' m)) (room : levels_refused_for_room (levels_started c a b) es ≡ false) where
    -- the second run of each level as one of one table: its verdicts are the first run's, which are the book's
    other : (n : LevelNumber) → CountedSecond c es (a n) (b n) (removals n) (a' n) (b' n)
    other n = (demand n).second_run (removals n) (a' n) (b' n) (h' n) (k' n) (sym (refused n) ∙ room)

    by_the_book : (n : LevelNumber) → map verdict (counted_second_reports (removals n) (counted_started c (a' n) (b' n)) es) ≡ map verdict (book_reports (opened c) es)
    by_the_book n = (other n).verdicts ∙ ap (map verdict) (demand n).first_run.reports

    begun_again : (n : LevelNumber) → SecondRuns n removals (levels_started c a' b') es
    begun_again =
        second_alone removals (levels_started c a' b') es
        (rw (level_started one c a' b', level_started two c a' b') (by_the_book one ∙ sym (by_the_book two)))

    second_holds : (n : LevelNumber) → LevelSecond n c es a b removals a' b'
    second_holds n =
        let second = begun_again n in
        let gaps = second.gaps ∙ ap (λ (r : CountedRun). counted_gaps (removals n) r es) (level_started n c a' b') in
        record {
          verdicts =
              ap (map verdict) (second.reports ∙ ap (λ (r : CountedRun). counted_second_reports (removals n) r es) (level_started n c a' b'))
              ∙ (other n).verdicts
              ∙ ap (map verdict) (sym (reports n));
          usable = rw (gaps, states n) (other n).usable;
          fresh = rw gaps (other n).fresh;
        }

pub levels_demand_3_holds : LevelsDemand3
levels_demand_3_holds n c es a b h k =
    record {
      first_run = first_holds c es a b h k n;
      second_run = λ removals a' b' h' k' room. second_holds c es a b h k removals a' b' h' k' room n;
    }
