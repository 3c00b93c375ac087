-- From any start fragments give what the counted run gives that ends after an unknown kind, an answer 2 or 3, or a cut record,
-- proved: first for the log in one fragment, with nothing held, event by event.
use Rattle.std.specs.Prelude.{ℕ, zero, suc, ◌≤◌, ◌<◌, ◌≡◌, Bool, true, cond, not, ◌||◌, leb, take, drop}
use Rattle.std.proofs.Math.Path.{refl, sym, ap}
use Rattle.std.proofs.Common.{◌∙◌, arith, le_refl, length-drop}
use Rattle.std.proofs.Math.Bool.{false}
use mathlib.Core.List.{List, [], ◌∷◌, ◌++◌, append-nil, append_assoc}
use borrow.Author.Tests.{leb-true, le-leb}
use Rattle.std.proofs.Math.ListN.{length}
use Rattle.std.proofs.Math.Seq.{length-take-le}
use Rattle.model.specs.Layouts.{kind_of, length_of}
use Rattle.model.specs.Tables.{joined}
use Rattle.counted_runs.specs.Runs.{CountedRun, counted_of}
use Rattle.counted_runs.proofs.Laws.Apart.{counted_width_after}
use Rattle.logs.specs.Logs.{known_at, event_size, events_within, events_of}
use Rattle.logs.proofs.Laws.Logs.{event_size_cut, events_of_cons}
use Rattle.readers.specs.Readers.{held_bytes, first_size, complete, counts_as_ignoring}
use Rattle.laws.specs.Mappings.{kind_of_take}
use Rattle.readers.proofs.Laws.Readers.{first_size_none, first_size_positive, listening, listens, length_held}
use Rattle.fragments.specs.Fragments.{event_taken, ignoring_after}
use Rattle.streams.specs.Streams.{Stream, call, called, fed, fed_all, finished, ignores, reset}
use Rattle.streams.specs.Theorem.{Alike}
use Rattle.streams.specs.AnyStart.{stops, until_stop, whole_event, is_stopped, reported, all_reported, events_fed, events_taken, FromAnyStartAlways}
use Rattle.streams.proofs.Laws.Calls.{width, hold, after, called_finished, held_behind, hold_full, hold_awake, same_ignoring, alike_sym, alike_trans, alike_finished, finished_ignored, finished_none, finished_cut}
use Rattle.streams.proofs.Laws.Cuts.{fed_none, fed_first, fed_held, fed_ignored, alike_fed, fed_split, cuts_do_not_matter_holds}
use Rattle.streams.proofs.Laws.Ignored.{ignored_holds}
use Rattle.streams.proofs.Laws.Whole.{invalid_after, told_invalid, cut_log, part_cut}

-- a stream whose reader holds no byte and does not ignore
record Ready (s : Stream) : Type 0 where
  full : length s.reader.held ≡ 24
  flag : s.reader.ignoring ≡ false
  none : s.reader.length ≡ 0

-- a stream after the events of a log, before the finish call
record Ends (s : Stream) (es : List (List ℕ)) (z : Stream) : Type 0 where
  run : z.run ≡ counted_of s.run (until_stop s.run es)
  told : (finished z).told ≡ s.told ++ all_reported s.reader.line s.run (until_stop s.run es)
  ignoring : ignores z ≡ is_stopped s.run es

-- the last event is taken, whether it stops the run or not
until_last : (s : CountedRun) (e : List ℕ) → until_stop s (e ∷ []) ≡ e ∷ []
unfolding until_stop
until_last s e = go (stops s e)
  where
    go : (b : Bool) → ◌≡◌ {A = List (List ℕ)} (e ∷ cond b [] []) (e ∷ [])
    go true = refl
    go false = refl

-- some bytes have all those of an event exactly if they finish it
whole_complete : (w : ℕ) (log : List ℕ) → 0 < length log → whole_event w log ≡ complete w log
unfolding whole_event complete first_size
whole_complete w log some = go (known_at w (kind_of log))
  where
    go : (known : Bool) → (not known || leb (length_of (kind_of log)) (length log)) ≡ leb (cond known (length_of (kind_of log)) 1) (length log)
    go true = refl
    go false = sym (le-leb 1 (length log) (omega arith))

module _ (s : Stream) (at : Ready s) where
  nothing : held_bytes s.reader ≡ []
  unfolding held_bytes
  nothing = rw at.none

  awake : counts_as_ignoring (width s) s.reader ≡ false
  unfolding complete
  awake =
      listens (width s) s.reader
      (record { flag = at.flag; few = omega (arith, at.none); begun = rw (nothing, first_size_none (width s)) })

  -- no byte
  ends_none : Ends s (events_of (width s) []) (fed s [])
  unfolding events_of events_within until_stop all_reported is_stopped counted_of
  ends_none = rw (fed_none s) (record { run = refl; told = rw (finished_none s awake at.none) (sym (append-nil s.told)); ignoring = awake })

  module _ (b : ℕ) (bs : List ℕ) where
    abbrev log : List ℕ
    log = b ∷ bs

    abbrev w : ℕ
    w = width s

    abbrev size : ℕ
    size = first_size w log

    abbrev e : List ℕ
    e = take size log

    -- a cut record: its bytes are held, and the finish call reports it
    cut_ends : complete w log ≡ false → Ends s (events_of w log) (fed s log)
    unfolding all_reported counted_of is_stopped
    cut_ends part =
        let part' : complete w (held_bytes s.reader ++ log) ≡ false = rw nothing part in
        let cut = part_cut w log part in
        let invalid = (event_size_cut w log cut).1 in
        let heard = hold_awake s log at.full awake part' in
        let ends = finished_cut (hold s log) heard (λ zero. omega arith) in
        rw (fed_held s b bs at.full awake part', cut_log w log (omega arith) cut)
        (record {
          run = rw (until_last s.run log) (sym (invalid_after s.run log invalid));
          told = rw (until_last s.run log, ends) (ap (λ t. s.told ++ (t ∷ [])) (sym (told_invalid s.run log s.reader.line invalid)));
          ignoring = heard ∙ rw (whole_complete w log (omega arith), part);
        })

    kind_kept : kind_of e ≡ kind_of log
    kind_kept = kind_of_take size log (λ zero. omega (arith, first_size_positive w log))

    after_full : length (after s e).reader.held ≡ 24
    unfolding after
    after_full = at.full

    -- an event, and what is left of the log
    module _ (whole : complete w log ≡ true) where
      first_called : fed s log ≡ fed (after s e) (drop size log)
      unfolding event_taken
      first_called =
          let one = called_finished s log awake (rw nothing whole) in
          let all : first_size w (held_bytes s.reader ++ log) ≡ size = rw nothing in
          let taken : (call s log).taken ≡ size = omega (arith, one.1, at.none) in
          let there : called s log ≡ after s e = one.0 ∙ rw nothing in
          fed_first s log at.full (omega arith) ∙ rw (taken, there)

      -- one that stops the run: the rest of the log is ignored
      module _ (stop : stops s.run e ≡ true) where
        stop_ignores : counts_as_ignoring (width (after s e)) (after s e).reader ≡ true
        unfolding after ignoring_after counts_as_ignoring stops
        stop_ignores = rw stop

        stopped_here : fed s log ≡ after s e
        stopped_here = first_called ∙ fed_ignored (after s e) (drop size log) after_full stop_ignores

      -- an unknown kind
      module _ (unknown : known_at w (kind_of log) ≡ false) where
        unknown_event : known_at w (kind_of e) ≡ false
        unknown_event = rw kind_kept unknown

        unknown_stops : stops s.run e ≡ true
        unfolding stops
        unknown_stops = rw unknown_event

        unknown_ends : Ends s (events_of w log) (fed s log)
        unfolding all_reported counted_of is_stopped stops whole_event after
        unknown_ends =
            let here = (event_size_cut w e (rw unknown_event)).1 in
            let there = (event_size_cut w log (rw unknown)).1 in
            rw (stopped_here unknown_stops, cut_log w log (omega arith) (rw unknown))
            (record {
              run = rw (until_last s.run log) (invalid_after s.run e here ∙ sym (invalid_after s.run log there));
              told =
                  rw (until_last s.run log, finished_ignored (after s e) (stop_ignores unknown_stops))
                  (ap (λ t. s.told ++ (t ∷ [])) (told_invalid s.run e s.reader.line here ∙ sym (told_invalid s.run log s.reader.line there)));
              ignoring = stop_ignores unknown_stops ∙ rw unknown;
            })

      -- a known one
      module _ (known : known_at w (kind_of log) ≡ true) where
        event_size_first : event_size w log ≡ size
        unfolding event_size complete first_size
        event_size_first = rw (known, (rw known at whole))

        known_events : events_of w log ≡ e ∷ events_of w (drop size log)
        known_events = rw event_size_first at (events_of_cons w log (omega arith))

        known_size : (size ≡ length_of (kind_of log)) × (length_of (kind_of log) ≤ length log)
        unfolding complete first_size
        known_size = (rw known, leb-true (length_of (kind_of log)) (length log) (rw known at whole))

        known_whole : whole_event w e ≡ true
        unfolding whole_event
        known_whole =
            let has : length e ≡ length_of (kind_of log) = length-take-le size log (omega (arith, known_size.0, known_size.1)) ∙ known_size.0 in
            rw (kind_kept, known, has) (le-leb (length_of (kind_of log)) (length_of (kind_of log)) (le_refl _))

        -- an answer 2 or 3
        known_stops : stops s.run e ≡ true → Ends s (events_of w log) (fed s log)
        unfolding all_reported counted_of is_stopped until_stop after
        known_stops stop =
            rw (stopped_here stop, known_events)
            (record {
              run = rw stop;
              told = rw (stop, finished_ignored (after s e) (stop_ignores stop));
              ignoring = stop_ignores stop ∙ rw (known_whole, stop);
            })

        -- any other
        module _ (goes : stops s.run e ≡ false) where
          ready_after : Ready (after s e)
          unfolding after ignoring_after stops
          ready_after = record { full = at.full; flag = goes; none = refl }

          width_after : width (after s e) ≡ w
          unfolding after
          width_after = counted_width_after s.run e

          known_ends : Ends (after s e) (events_of (width (after s e)) (drop size log)) (fed (after s e) (drop size log)) → Ends s (events_of w log) (fed s log)
          unfolding all_reported counted_of is_stopped until_stop after
          known_ends others =
              let events = known_events ∙ ap (λ v. e ∷ events_of v (drop size log)) (sym width_after) in
              rw (first_called, events)
              (record {
                run = rw goes others.run;
                told = rw goes (others.told ∙ append_assoc s.told (reported s.reader.line s.run e ∷ []) _);
                ignoring = rw (known_whole, goes) others.ignoring;
              })

-- the whole log
whole_log : (n : ℕ) (s : Stream) (log : List ℕ) → length log ≤ n → Ready s → Ends s (events_of (width s) log) (fed s log)
whole_log zero s [] h at = ends_none s at
whole_log zero s (b ∷ bs) h at = absurd (omega arith)
whole_log (suc n) s [] h at = ends_none s at
whole_log (suc n) s (b ∷ bs) h at =
    go (complete (width s) (b ∷ bs)) (known_at (width s) (kind_of (b ∷ bs))) (stops s.run (take size log)) refl refl refl
    (λ next. whole_log n (after s (take size log)) (drop size log) (omega (arith, length-drop size log, first_size_positive (width s) log)) next)
  where
    log : List ℕ
    log = b ∷ bs

    size : ℕ
    size = first_size (width s) log

    go : (whole known stop : Bool) → complete (width s) log ≡ whole → known_at (width s) (kind_of log) ≡ known → stops s.run (take size log) ≡ stop
        → (Ready (after s (take size log)) → Ends (after s (take size log)) (events_of (width (after s (take size log))) (drop size log)) (fed (after s (take size log)) (drop size log)))
        → Ends s (events_of (width s) log) (fed s log)
    go false known stop p q r others = cut_ends s at b bs p
    go true false stop p q r others = unknown_ends s at b bs p q
    go true true true p q r others = known_stops s at b bs p q r
    go true true false p q r others = known_ends s at b bs p q r (others (ready_after s at b bs p q r))

-- ---- bytes held are as the front of the log

module _ (s : Stream) (full : length s.reader.held ≡ 24) (awake : ignores s ≡ false) where
  ready_reset : Ready (reset s)
  unfolding reset
  ready_reset = record { full = full; flag = refl; none = refl }

  -- a reader that held nothing and was fed the bytes is as this one
  held_fed : (h : List ℕ) → held_bytes s.reader ≡ h → Alike s (fed (reset s) h)
  unfolding reset
  held_fed [] is =
      let heard = listening (width s) s.reader awake in
      let none : s.reader.length ≡ 0 = sym (length_held s.reader full heard.few) ∙ ap length is in
      rw (fed_none (reset s))
      (record { line = refl; ignoring = heard.flag; size = none; held = is ∙ sym (nothing (reset s) ready_reset); run = refl; told = refl; full = full; full' = full })
  held_fed (b ∷ bs) is =
      let heard = listening (width s) s.reader awake in
      let empty = nothing (reset s) ready_reset in
      let part : complete (width s) (held_bytes (reset s).reader ++ (b ∷ bs)) ≡ false = rw (empty, ← is) heard.begun in
      let clear : counts_as_ignoring (width (reset s)) (reset s).reader ≡ false = (ignored_holds s [] full).ends in
      let size : s.reader.length ≡ length (b ∷ bs) = sym (length_held s.reader full heard.few) ∙ ap length is in
      rw (fed_held (reset s) b bs full clear part)
      (record {
        line = refl;
        ignoring = heard.flag;
        size = omega (arith, size);
        held = is ∙ sym (held_behind (reset s) (b ∷ bs) full clear part ∙ ap (λ h. h ++ (b ∷ bs)) empty);
        run = refl;
        told = refl;
        full = full;
        full' = hold_full (reset s) (b ∷ bs) full clear part;
      })

  -- so fragments are as one, with those bytes before them
  alike_whole : (xs : List (List ℕ)) → Alike (fed_all s xs) (fed (reset s) (held_bytes s.reader ++ joined xs))
  unfolding reset
  alike_whole xs =
      let h = held_bytes s.reader in
      alike_trans (cuts_do_not_matter_holds s xs full).before
      (alike_trans (alike_fed s (fed (reset s) h) (joined xs) (held_fed h refl))
      (alike_sym (fed_split (length h) (reset s) h (joined xs) (le_refl _) full)))

pub from_any_start_holds : FromAnyStartAlways
unfolding events_taken events_fed reset finished
from_any_start_holds s xs full awake =
    let log = held_bytes s.reader ++ joined xs in
    let z = fed (reset s) log in
    let same = alike_whole s full awake xs in
    let ends : Ends (reset s) (events_of (width s) log) z = whole_log (length log) (reset s) log (le_refl _) (ready_reset s full awake) in
    record {
      before = same.run ∙ ends.run;
      run = same.run ∙ ends.run;
      told = (alike_finished (fed_all s xs) z same).told ∙ ends.told;
      ignoring = same_ignoring (fed_all s xs) z [] same ∙ ends.ignoring;
      ended = (ignored_holds (fed_all s xs) [] same.full).begins;
    }
