-- How far a replay is: the next event of the log, and loops that take one event after the other.
use Rattle.std.specs.Prelude.{ℕ, suc, ◌+◌, ◌-◌, ◌<◌, ◌≡◌, refl, Bool, true, false, cond, ◌&&◌, List, [], ◌∷◌, ◌++◌, ltb, drop}
use Rattle.std.proofs.Math.Path.{sym, ap, ap₂}
use Rattle.std.proofs.Common.{◌∙◌, arith, ltb-true, ltb-false}
use Rattle.std.proofs.Math.Bool.{and-eq-true_iff}
use Rattle.std.proofs.lemmas.Bool.{false≢true}
use Rattle.std.proofs.Math.ListN.{length, length-append}
use Rattle.model.specs.declared.Context.{Context}
use Rattle.model.specs.Tables.{joined}
use Rattle.runs.specs.Runs.{Run, started, run_after}
use Rattle.runs.specs.InPlace.{in_place_after, in_place_of}
use Rattle.runs.proofs.Laws.InPlace.{Alike, one, alike_table, in_place_alike, alike_of}
use Rattle.states.specs.declared.Applied.{Applied}
use Rattle.states.specs.States.{run_on, run_at, Applies}
use Rattle.states.proofs.Laws.States.{holds_none, tabled_at, length_run_at}
use Rattle.logs.specs.declared.Progress.{Progress}
use Rattle.logs.specs.declared.Advanced.{Advanced}
use Rattle.logs.specs.Logs.{event_size, event_at, events_from}
use Rattle.logs.specs.Replays.{Line, run_line, run_lines, side_ended}
use Rattle.logs.specs.Progress.{begun, Ready, Advances, Progresses}
use Rattle.logs.proofs.Laws.Logs.{event_size_within, events_from_cons, events_from_none, events_from_end, length_event_at}
use Rattle.logs.proofs.Laws.Lines.{run_lines_append, alike_lines}

-- the start
pub ready_begun : (c : Context) (log a b : List ℕ) → Ready (begun c) log a b
unfolding begun
ready_begun c log a b = record { holds = holds_none (begun c).state (cond (begun c).state.first a b) refl refl; inside = omega arith; few = omega arith }

pub run_at_begun : (c : Context) (a b : List ℕ) → run_at (begun c).state a b ≡ started c a b
unfolding begun run_on run_at started
run_at_begun c a b = refl

-- the event at the position, on the state
pub advances : {w : ℕ} {p : Progress} {log a b : List ℕ} {r : Applied} {a' b' : List ℕ} → Ready p log a b → p.at < length log
    → Applies p.state (event_at w log p.at) a b r a' b'
    → {end : ℕ} → end ≡ p.at + event_size w (drop p.at log)
    → Advances w p log a b
    (record { progress = record { state = r.state; at = end; count = p.count + 1 }; answer = r.answer; dropped = r.dropped })
    a'
    b'
advances {w} {p} {log} ready more done is =
    let within = event_size_within w log p.at more in
    record {
      ready = record { holds = done.holds; inside = omega (arith, within); few = omega (arith, within, ready.few) };
      run = done.run;
      side = done.side;
      at = is;
      count = refl;
      answer = done.answer;
      dropped = done.dropped;
    }

pub at_increases : {w : ℕ} {p : Progress} {log a b : List ℕ} {r : Advanced} {a' b' : List ℕ} → p.at < length log → Advances w p log a b r a' b' → p.at < r.progress.at
at_increases {w} {p} {log} more done = omega (arith, done.at, event_size_within w log p.at more)

-- a loop that takes events as long as there are some, and at most so many
pub record Going (log : List ℕ) (at count most : ℕ) : Type 0 where
  pub more : at < length log
  pub fewer : count < most

pub going : (log : List ℕ) (at count most : ℕ) → (ltb at (length log) && ltb count most) ≡ true → Going log at count most
going log at count most h =
    let both = (and-eq-true_iff (ltb at (length log)) (ltb count most)).0 h in
    record { more = ltb-true at (length log) both.0; fewer = ltb-true count most both.1 }

pub none_from : (w : ℕ) (log : List ℕ) (at count most : ℕ) → (ltb at (length log) && ltb count most) ≡ false
    → events_from w log at (most - count) ≡ []
none_from w log at count most h = go (ltb at (length log)) (ltb count most) refl refl h
  where
    go : (more fewer : Bool) → ltb at (length log) ≡ more → ltb count most ≡ fewer → (more && fewer) ≡ false
        → events_from w log at (most - count) ≡ []
    go true true p q h = absurd (false≢true (sym h))
    go true false p q h =
        let none : most - count ≡ 0 = omega (arith, ltb-false count most q) in
        rw none (events_from_none w log at)
    go false fewer p q h = events_from_end w log at (most - count) (ltb-false at (length log) p)

-- the line of an event
abbrev pub line_of : Advanced → Line
line_of r = record { answer = r.answer; dropped = r.dropped; length = r.progress.state.length }

-- what holds before each event: with the n events that are left, the replay ends where the first `most` from
-- its start end
pub record Taking (w : ℕ) (from : Progress) (log a b : List ℕ) (most : ℕ) (p : Progress) (n : ℕ) (a' b' : List ℕ) : Type 0 where
  pub ready : Ready p log a' b'
  pub first : length a' ≡ length a
  pub second : length b' ≡ length b
  pub run : in_place_of (run_at p.state a' b') (events_from w log p.at n) ≡ in_place_of (run_at from.state a b) (events_from w log from.at most)
  pub side : side_ended p.state.first (run_at p.state a' b') (events_from w log p.at n)
      ≡ side_ended from.state.first (run_at from.state a b) (events_from w log from.at most)
  pub at : p.at + length (joined (events_from w log p.at n)) ≡ from.at + length (joined (events_from w log from.at most))
  pub count : p.count + length (events_from w log p.at n) ≡ from.count + length (events_from w log from.at most)

pub taking_start : {w : ℕ} {p : Progress} {log a b : List ℕ} (most : ℕ) → Ready p log a b → Taking w p log a b most p most a b
taking_start most ready =
    record { ready = ready; first = refl; second = refl; run = refl; side = refl; at = refl; count = refl }

-- one event more, and its line
module _ {w : ℕ} {p : Progress} {log a b : List ℕ} (n : ℕ) (ready : Ready p log a b) (more : p.at < length log) {r : Advanced} {a' b' : List ℕ} (done : Advances w p log a b r a' b') where
  next : events_from w log p.at (suc n) ≡ event_at w log p.at ∷ events_from w log r.progress.at n
  next = rw done.at (events_from_cons w log p.at n more)

  -- the table after the event is the run's, in one buffer or the other
  after : Alike (in_place_after (run_at p.state a b) (event_at w log p.at)) (run_after (run_at p.state a b) (event_at w log p.at))
  after = in_place_alike (run_at p.state a b) (event_at w log p.at) (tabled_at p.state a b ready.holds)

  line_next : run_line (run_at p.state a b) (event_at w log p.at) ≡ line_of r
  unfolding run_line
  line_next =
      let size = ap length (sym (alike_table after)) ∙ ap (λ (x : Run). length x.table) (sym done.run) ∙ length_run_at r.progress.state a' b' done.ready.holds in
      λ i. record { answer = sym done.answer i; dropped = sym done.dropped i; length = size i }

  pub lines_next : run_lines (run_at p.state a b) (events_from w log p.at (suc n))
      ≡ line_of r ∷ run_lines (run_at r.progress.state a' b') (events_from w log r.progress.at n)
  unfolding run_lines
  lines_next =
      let rest = events_from w log r.progress.at n in
      ap (run_lines (run_at p.state a b)) next
      ∙ ap₂ (λ l ls. l ∷ ls) line_next (sym (alike_lines _ _ rest after) ∙ ap (λ (x : Run). run_lines x rest) (sym done.run))

  pub taking_turn : {from : Progress} {a₀ b₀ : List ℕ} {most : ℕ} → Taking w from log a₀ b₀ most p (suc n) a b → length a' ≡ length a
      → length b' ≡ length b
      → Taking w from log a₀ b₀ most r.progress n a' b'
  unfolding in_place_of side_ended joined
  taking_turn t keeps_a keeps_b =
      let rest = events_from w log r.progress.at n in
      let at = rw next at t.at in
      let count = rw next at t.count in
      record {
        ready = done.ready;
        first = keeps_a ∙ t.first;
        second = keeps_b ∙ t.second;
        run = rw done.run (rw next at t.run);
        side = rw (done.run, done.side) (rw next at t.side);
        at = omega (arith, at, done.at, length-append (event_at w log p.at) (joined rest), length_event_at w log p.at);
        count = omega (arith, count, done.count);
      }

-- the end
pub taking_end : {w : ℕ} {from p : Progress} {log a b a' b' : List ℕ} {most n : ℕ} → Taking w from log a b most p n a' b' → events_from w log p.at n ≡ []
    → Progresses w from log a b most p a' b'
unfolding in_place_of side_ended joined
taking_end t none =
    record {
      ready = t.ready;
      run = rw none at t.run;
      side = rw none at t.side;
      at = omega (arith, rw none at t.at);
      count = omega (arith, rw none at t.count);
    }

-- the lines of the events taken, and then those from there on
pub lines_progressed : {w : ℕ} {p q : Progress} {log a b a' b' : List ℕ} {n : ℕ} → Ready p log a b → Progresses w p log a b n q a' b' → (fs : List (List ℕ))
    → run_lines (run_at p.state a b) (events_from w log p.at n ++ fs)
    ≡ run_lines (run_at p.state a b) (events_from w log p.at n) ++ run_lines (run_at q.state a' b') fs
lines_progressed {w} {p} {q} {log} {a} {b} {n = n} ready done fs =
    let s = run_at p.state a b in
    let es = events_from w log p.at n in
    let after = alike_of s s es (tabled_at p.state a b ready.holds) (one refl) in
    run_lines_append s es fs
    ∙ ap (λ (ls : List Line). run_lines s es ++ ls) (sym (alike_lines _ _ fs after) ∙ ap (λ (x : Run). run_lines x fs) (sym done.run))
