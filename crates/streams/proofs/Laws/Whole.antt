-- Fragments from any stream between two events, and from the start, give what the whole log gives, proved: first for the log in
-- one fragment, event by event.
use Rattle.std.specs.Prelude.{ℕ, zero, suc, ◌*◌, ◌/◌, ◌≤◌, ◌<◌, ◌≡◌, refl, Bool, true, cond, ◌&&◌, leb, length, take, drop}
use Rattle.std.proofs.Math.Path.{sym, ap}
use Rattle.std.proofs.Common.{ap₂, ◌∙◌, arith, le_refl, length-drop, take_all}
use Rattle.std.proofs.Math.Bool.{false}
use mathlib.Core.List.{List, [], ◌∷◌, ◌++◌, map, map-append, append-nil, append_assoc}
use borrow.Author.Tests.{ne_eqb}
use Rattle.model.specs.declared.Context.{Context}
use Rattle.model.specs.Context.{after_reset}
use Rattle.model.specs.Layouts.{kind_of, length_of}
use Rattle.model.specs.Events.{valid_event}
use Rattle.model.specs.Answers.{first, table_grounds, answer}
use Rattle.model.specs.Steps.{refusal, refused_step}
use Rattle.model.specs.Tables.{joined}
use Rattle.laws.specs.Answers.{answer_not_2, answer_not_3}
use Rattle.laws.specs.Mappings.{kind_of_take}
use Rattle.laws.specs.Rules.{rule_below_8, table_answer_below_8}
use Rattle.runs.specs.Runs.{Run, started, report}
use Rattle.runs.proofs.Laws.Steps.{by_answer, run_answer_is, linear_width_after, Tabled, tabled_started, tabled_after}
use Rattle.counted_steps.specs.Steps.{counted_answer, counted_stepped, counted_pcids, counted_written}
use Rattle.counted_steps.proofs.Laws.Steps.{counted_of_invalid}
use Rattle.counted_runs.specs.Runs.{CountedRun, Fresh, counted_started, counted_result, counted_after, counted_reports, counted_of}
use Rattle.counted_runs.proofs.Laws.Steps.{fresh_started, fresh_after, counted_after_plain, counted_report_plain, counted_answer_plain}
use Rattle.counted_runs.proofs.Laws.Demand3.{counted_reports_plain, counted_of_plain}
use Rattle.logs.specs.Logs.{known_at, event_size, events_within, events_of}
use Rattle.logs.specs.Replays.{run_line, run_lines, row_length, replayed}
use Rattle.logs.proofs.Laws.Logs.{event_size_cut, events_of_cons, events_of_end}
use Rattle.readers.specs.Readers.{held_bytes, first_size, complete, counts_as_ignoring, next_line}
use Rattle.readers.proofs.Laws.Readers.{first_size_none, first_size_positive, listens}
use Rattle.fragments.specs.Fragments.{event_taken, ignoring_after, cut_answer}
use Rattle.fragments.proofs.Laws.Calls.{cut_answer_none, cut_answer_some}
use Rattle.streams.specs.Streams.{Told, Stream, call, called, fed, fed_all, finished, begun}
use Rattle.streams.specs.Theorem.{line_of, numbers_behind, Between, AsTheWholeBetweenAlways, AsTheWholeAsLong, AsTheWholeAsLongAlways, AsTheWholeAlways}
use Rattle.streams.proofs.Laws.Calls.{width, hold, told_of, after, called_finished, hold_awake, finished_ignored, finished_none, finished_cut}
use Rattle.streams.proofs.Laws.Cuts.{fed_none, fed_first, fed_held, fed_ignored, cuts_do_not_matter_holds}
use Rattle.streams.proofs.Laws.AsLong.{as_long_lines, as_long_reports, as_long_of, as_long_run, as_long_fresh, fresh_as_long, as_long_started}

-- ---- bytes that are no valid event: 1, 2, 3, else 4, and nothing changes

module _ (c : Context) (t : List ℕ) where
  cut_answer_is : (cut_answer c t ≡ 0 → ⊥) × (cut_answer c t < 8)
  cut_answer_is =
      by_answer (first (table_grounds c t)) (λ none. let four = cut_answer_none c t none in ((λ zero. omega arith), omega arith))
      (λ some. let same = cut_answer_some c t some in ((λ zero. some (sym same ∙ zero)), rw same (table_answer_below_8 c t)))

module _ (s : CountedRun) (e : List ℕ) (invalid : valid_event s.run.context.linear_width e ≡ false) where
  abbrev c : Context
  c = s.run.context

  abbrev t : List ℕ
  t = s.run.table

  invalid_answer : (room : ℕ) → counted_answer c s.kinds s.pcids t e room ≡ cut_answer c t
  unfolding cut_answer
  invalid_answer room = counted_of_invalid c s.kinds s.pcids t e room invalid

  pub invalid_result : counted_result s e ≡ record { step = refusal (cut_answer c t) 0 c; kinds = s.kinds }
  unfolding counted_result counted_stepped refused_step
  invalid_result =
      rw (invalid_answer (length s.run.back), ne_eqb (cut_answer c t) 0 (cut_answer_is c t).0, ← (rule_below_8 c e (cut_answer c t) (cut_answer_is c t).1))

  pub invalid_after : counted_after s e ≡ s
  unfolding counted_after counted_pcids counted_written
  invalid_after =
      rw (invalid_result, invalid_answer (length s.run.back), ne_eqb (cut_answer c t) 0 (cut_answer_is c t).0)

-- what is told of them, whatever they are
pub told_invalid : (s : CountedRun) (e : List ℕ) (line : ℕ) → valid_event s.run.context.linear_width e ≡ false
    → told_of line s e
    ≡ record {
      line = next_line line;
      report = record { answer = cut_answer s.run.context s.run.table; rule = 0; dropped = 0; context = s.run.context };
      length = length s.run.table;
    }
told_invalid s e line invalid = rw (invalid_result s e invalid, invalid_after s e invalid)

-- ---- the log in one fragment

-- what is told of events one after another
unfoldable pub told_all : ℕ → CountedRun → List (List ℕ) → List Told
told_all line s [] = []
told_all line s (e ∷ es) = told_of line s e ∷ told_all (next_line line) (counted_after s e) es

-- the run of a stream between two events
tabled_between : {s : Stream} → Between s → Tabled s.run.run
tabled_between at = record { valid = at.valid; short = at.short }

-- a stream at the end, after some events
record Ends (s : Stream) (es : List (List ℕ)) (z : Stream) : Type 0 where
  run : z.run ≡ counted_of s.run es
  told : z.told ≡ s.told ++ told_all s.reader.line s.run es

-- a cut record or an unknown kind is the last event
pub cut_log : (w : ℕ) (log : List ℕ) → 0 < length log → (known_at w (kind_of log) && leb (length_of (kind_of log)) (length log)) ≡ false → events_of w log ≡ log ∷ []
cut_log w log some cut =
    let all = (event_size_cut w log cut).0 in
    events_of_cons w log some ∙ rw (all, take_all (length log) log (le_refl _), events_of_end w log (length log) (le_refl _))

pub part_cut : (w : ℕ) (log : List ℕ) → complete w log ≡ false → (known_at w (kind_of log) && leb (length_of (kind_of log)) (length log)) ≡ false
unfolding complete first_size
part_cut w log part = go (known_at w (kind_of log)) part
  where
    go : (known : Bool) → leb (cond known (length_of (kind_of log)) 1) (length log) ≡ false → (known && leb (length_of (kind_of log)) (length log)) ≡ false
    go true less = less
    go false less = refl

module _ (s : Stream) (at : Between s) where
  nothing : held_bytes s.reader ≡ []
  unfolding held_bytes
  nothing = rw at.none

  awake : counts_as_ignoring (width s) s.reader ≡ false
  unfolding complete
  awake =
      listens (width s) s.reader
      (record { flag = at.flag; few = omega (arith, at.none); begun = rw (nothing, first_size_none (width s)) })

  -- no byte
  ends_none : Ends s (events_of (width s) []) (finished (fed s []))
  unfolding events_of events_within told_all counted_of
  ends_none = rw (fed_none s, finished_none s awake at.none) (record { run = refl; told = sym (append-nil s.told) })

  module _ (b : ℕ) (bs : List ℕ) where
    abbrev log : List ℕ
    log = b ∷ bs

    abbrev w : ℕ
    w = width s

    abbrev size : ℕ
    size = first_size w log

    abbrev e : List ℕ
    e = take size log

    -- a cut record
    cut_ends : complete w log ≡ false → Ends s (events_of w log) (finished (fed s log))
    unfolding told_all counted_of
    cut_ends part =
        let part' : complete w (held_bytes s.reader ++ log) ≡ false = rw nothing part in
        let cut = part_cut w log part in
        let invalid = (event_size_cut w log cut).1 in
        let ends = finished_cut (hold s log) (hold_awake s log at.full awake part') (λ zero. omega arith) in
        rw (fed_held s b bs at.full awake part', ends, cut_log w log (omega arith) cut)
        (record {
          run = sym (invalid_after s.run log invalid);
          told = ap (λ t. s.told ++ (t ∷ [])) (sym (told_invalid s.run log s.reader.line invalid));
        })

    kind_kept : kind_of e ≡ kind_of log
    kind_kept = kind_of_take size log (λ zero. omega (arith, first_size_positive w log))

    after_full : length (after s e).reader.held ≡ 24
    unfolding after
    after_full = at.full

    -- an event, and what is left of the log
    module _ (whole : complete w log ≡ true) where
      first_called : fed s log ≡ fed (after s e) (drop size log)
      unfolding event_taken
      first_called =
          let one = called_finished s log awake (rw nothing whole) in
          let all : first_size w (held_bytes s.reader ++ log) ≡ size = rw nothing in
          let taken : (call s log).taken ≡ size = omega (arith, one.1, at.none) in
          let there : called s log ≡ after s e = one.0 ∙ rw nothing in
          fed_first s log at.full (omega arith) ∙ rw (taken, there)

      -- an unknown kind
      module _ (unknown : known_at w (kind_of log) ≡ false) where
        unknown_event : known_at w (kind_of e) ≡ false
        unknown_event = rw kind_kept unknown

        after_ignores : counts_as_ignoring (width (after s e)) (after s e).reader ≡ true
        unfolding after ignoring_after counts_as_ignoring
        after_ignores = rw unknown_event

        unknown_ends : Ends s (events_of w log) (finished (fed s log))
        unfolding told_all counted_of after
        unknown_ends =
            let all = first_called ∙ fed_ignored (after s e) (drop size log) after_full after_ignores in
            let here = (event_size_cut w e (rw unknown_event)).1 in
            let there = (event_size_cut w log (rw unknown)).1 in
            rw (all, finished_ignored (after s e) after_ignores, cut_log w log (omega arith) (rw unknown))
            (record {
              run = invalid_after s.run e here ∙ sym (invalid_after s.run log there);
              told =
                  ap (λ t. s.told ++ (t ∷ []))
                  (told_invalid s.run e s.reader.line here ∙ sym (told_invalid s.run log s.reader.line there));
            })

      -- a known one
      module _ (known : known_at w (kind_of log) ≡ true) where
        known_event : known_at w (kind_of e) ≡ true
        known_event = rw kind_kept known

        event_size_first : event_size w log ≡ size
        unfolding event_size complete first_size
        event_size_first = rw (known, (rw known at whole))

        answer_is : (counted_result s.run e).step.answer ≡ answer s.run.run.context s.run.run.table e (length s.run.run.back)
        answer_is = counted_answer_plain s.run e at.fresh ∙ run_answer_is s.run.run e

        after_flag : (after s e).reader.ignoring ≡ false
        unfolding after ignoring_after
        after_flag =
            let run = s.run.run in
            let tabled = tabled_between at in
            rw (
              known_event,
              ne_eqb (counted_result s.run e).step.answer 2 (λ two. answer_not_2 run.context run.table e (length run.back) tabled.valid tabled.short (sym answer_is ∙ two)),
              ne_eqb (counted_result s.run e).step.answer 3 (λ three. answer_not_3 run.context run.table e (length run.back) tabled.valid tabled.short (sym answer_is ∙ three)),
            )

        between_after : Between (after s e)
        unfolding after
        between_after =
            let tabled = tabled_after s.run.run e (tabled_between at) in
            record {
              full = at.full;
              flag = after_flag;
              none = refl;
              valid = rw (counted_after_plain s.run e at.fresh) tabled.valid;
              short = rw (counted_after_plain s.run e at.fresh) tabled.short;
              fresh = fresh_after s.run e at.fresh;
            }

        width_after : width (after s e) ≡ w
        unfolding after
        width_after = ap (λ (r : Run). r.context.linear_width) (counted_after_plain s.run e at.fresh) ∙ linear_width_after s.run.run e

        known_ends : Ends (after s e) (events_of (width (after s e)) (drop size log)) (finished (fed (after s e) (drop size log))) → Ends s (events_of w log) (finished (fed s log))
        unfolding told_all counted_of after
        known_ends others =
            let first = rw event_size_first at (events_of_cons w log (omega arith)) in
            let events = first ∙ ap (λ v. e ∷ events_of v (drop size log)) (sym width_after) in
            rw (first_called, events)
            (record {
              run = others.run;
              told = others.told ∙ append_assoc s.told (told_of s.reader.line s.run e ∷ []) (told_all (next_line s.reader.line) (counted_after s.run e) (events_of (width (after s e)) (drop size log)));
            })

-- the whole log
whole_log : (n : ℕ) (s : Stream) (log : List ℕ) → length log ≤ n → Between s → Ends s (events_of (width s) log) (finished (fed s log))
whole_log zero s [] h at = ends_none s at
whole_log zero s (b ∷ bs) h at = absurd (omega arith)
whole_log (suc n) s [] h at = ends_none s at
whole_log (suc n) s (b ∷ bs) h at =
    go (complete (width s) (b ∷ bs)) (known_at (width s) (kind_of (b ∷ bs))) refl refl
    (λ next. whole_log n (after s (take size log)) (drop size log) (omega (arith, length-drop size log, first_size_positive (width s) log)) next)
  where
    log : List ℕ
    log = b ∷ bs

    size : ℕ
    size = first_size (width s) log

    go : (whole known : Bool) → complete (width s) log ≡ whole → known_at (width s) (kind_of log) ≡ known
        → (Between (after s (take size log)) → Ends (after s (take size log)) (events_of (width (after s (take size log))) (drop size log)) (finished (fed (after s (take size log)) (drop size log))))
        → Ends s (events_of (width s) log) (finished (fed s log))
    go false known p q others = cut_ends s at b bs p
    go true false p q others = unknown_ends s at b bs p q
    go true true p q others = known_ends s at b bs p q (others (between_after s at b bs p q))

-- ---- what was told

told_reports : (line : ℕ) (s : CountedRun) (es : List (List ℕ)) → map (λ t. t.report) (told_all line s es) ≡ counted_reports s es
unfolding told_all counted_reports
told_reports line s [] = refl
told_reports line s (e ∷ es) = ap (λ rs. report (counted_result s e).step ∷ rs) (told_reports (next_line line) (counted_after s e) es)

told_numbers : (line : ℕ) (s : CountedRun) (es : List (List ℕ)) → map (λ t. t.line) (told_all line s es) ≡ numbers_behind line (length es)
unfolding told_all numbers_behind
told_numbers line s [] = refl
told_numbers line s (e ∷ es) = ap (λ ns. next_line line ∷ ns) (told_numbers (next_line line) (counted_after s e) es)

told_line : (line : ℕ) (s : CountedRun) (e : List ℕ) → Fresh s → line_of (told_of line s e) ≡ run_line s.run e
unfolding run_line
told_line line s e fresh =
    let told = counted_report_plain s e fresh in
    λ i. record {
      answer = counted_answer_plain s e fresh i;
      dropped = (told i).dropped;
      length = length (counted_after_plain s e fresh i).table;
    }

told_lines : (line : ℕ) (s : CountedRun) (es : List (List ℕ)) → Fresh s → map line_of (told_all line s es) ≡ run_lines s.run es
unfolding told_all run_lines
told_lines line s [] fresh = refl
told_lines line s (e ∷ es) fresh =
    ap₂ (λ l ls. l ∷ ls) (told_line line s e fresh)
    (told_lines (next_line line) (counted_after s e) es (fresh_after s e fresh) ∙ ap (λ (r : Run). run_lines r es) (counted_after_plain s e fresh))

counted_fresh : (s : CountedRun) (es : List (List ℕ)) → Fresh s → Fresh (counted_of s es)
unfolding counted_of
counted_fresh s [] fresh = fresh
counted_fresh s (e ∷ es) fresh = counted_fresh (counted_after s e) es (fresh_after s e fresh)

-- a replay with a row for each event is of all events
pub replayed_all : (w : ℕ) (log : List ℕ) (room : ℕ) → row_length * length (events_of w log) ≤ room → replayed w log room ≡ events_of w log
unfolding replayed
replayed_all w log room enough = take_all (room / row_length) (events_of w log) (omega arith)

-- ---- between two events, in any fragments

-- what is read off each of two lists, one behind the other
read_behind : {A B : Type 0} (f : A → B) (xs ys : List A) {zs : List A} {rs : List B} → zs ≡ xs ++ ys → map f ys ≡ rs → map f zs ≡ map f xs ++ rs
read_behind f xs ys both read = ap (map f) both ∙ map-append f xs ys ∙ ap (λ rs. map f xs ++ rs) read

pub as_the_whole_between_holds : AsTheWholeBetweenAlways
as_the_whole_between_holds s xs at =
    let log = joined xs in
    let es = events_of (width s) log in
    let new = told_all s.reader.line s.run es in
    let same = (cuts_do_not_matter_holds s xs at.full).after in
    let ends = whole_log (length log) s log (le_refl _) at in
    let told : (finished (fed_all s xs)).told ≡ s.told ++ new = same.told ∙ ends.told in
    let run : (finished (fed_all s xs)).run ≡ counted_of s.run es = same.run ∙ ends.run in
    record {
      lines = read_behind line_of s.told new told (told_lines s.reader.line s.run es at.fresh);
      reports = read_behind (λ t. t.report) s.told new told (told_reports s.reader.line s.run es ∙ counted_reports_plain s.run es at.fresh);
      numbers = read_behind (λ t. t.line) s.told new told (told_numbers s.reader.line s.run es);
      run = ap (λ (r : CountedRun). r.run) run ∙ counted_of_plain s.run es at.fresh;
      counted = run;
      fresh = rw run (counted_fresh s.run es at.fresh);
    }

-- the whole log given to a run with buffers of its own, as long
pub as_the_whole_as_long_holds : AsTheWholeAsLongAlways
as_the_whole_as_long_holds s r xs at k =
    let whole = as_the_whole_between_holds s xs at in
    let es = events_of (width s) (joined xs) in
    let same : es ≡ events_of r.run.context.linear_width (joined xs) = rw k.context in
    let fresh = fresh_as_long k at.fresh in
    let runs = as_long_of s.run.run r.run es (as_long_run k) in
    let ended = counted_of_plain r es fresh in
    record {
      lines = rw (← same) (whole.lines ∙ ap (λ ls. map line_of s.told ++ ls) (as_long_lines s.run.run r.run es (as_long_run k)));
      reports = rw (← same) (whole.reports ∙ ap (λ rs. map (λ t. t.report) s.told ++ rs) (as_long_reports s.run.run r.run es (as_long_run k)));
      left = rw (← same) (as_long_fresh whole.fresh (counted_fresh r es fresh) (rw (whole.run, ended) runs));
    }

-- ---- from the start, in any fragments

between_begun : (c : Context) (a b places : List ℕ) → length places ≡ 24 → Between (begun c a b places)
unfolding begun counted_started
between_begun c a b places full =
    let tabled = tabled_started c a b in
    record { full = full; flag = refl; none = refl; valid = tabled.valid; short = tabled.short; fresh = fresh_started c a b }

pub as_the_whole_holds : AsTheWholeAlways
unfolding begun counted_started started after_reset
as_the_whole_holds c a b places xs full =
    let at = between_begun c a b places full in
    let whole = as_the_whole_between_holds (begun c a b places) xs at in
    let long : (a' b' : List ℕ) → length a ≡ length a' → length b ≡ length b' → AsTheWholeAsLong (begun c a b places) (counted_started c a' b') xs =
    λ a' b' h k. as_the_whole_as_long_holds (begun c a b places) (counted_started c a' b') xs at (as_long_started c a b a' b' h k) in
    record {
      lines = whole.lines;
      reports = whole.reports;
      numbers = whole.numbers;
      run = whole.run;
      counted = whole.counted;
      fresh = whole.fresh;
      as_long = long;
      replay = λ a' b' room h k enough.
          (long a' b' h k).lines ∙ ap (run_lines (started c a' b')) (sym (replayed_all c.linear_width (joined xs) room (omega arith)));
    }
