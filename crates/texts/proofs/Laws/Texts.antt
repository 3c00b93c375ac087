-- The text that is left: all of it at the start, and after each piece less by that piece.
use Rattle.std.specs.Prelude.{ℕ, zero, suc, ◌+◌, ◌-◌, ◌*◌, ◌/◌, ◌≤◌, ◌<◌, Bool, true, false, cond, List, [], ◌∷◌, ◌++◌, ◌≡◌, refl, leb, ltb, length}
use Rattle.std.proofs.Common.{append_assoc, append-nil, sym, ap, ◌∙◌, add-zero, arith, leb-false, ltb-true, ltb-false, lt-ltb, le-ltb, le-leb, length-append, length-take-le}
use Rattle.std.proofs.lemmas.Bool.{lt-leb}
use Rattle.model.specs.Buffers.{put}
use Rattle.model.specs.Tables.{limit, joined}
use Rattle.laws.specs.Buffers.{put_nil, put_put_front, length_put}
use Rattle.runs.specs.Book.{opened}
use Rattle.runs.specs.Runs.{started}
use Rattle.runs.proofs.Laws.First.{follows_started}
use Rattle.logs.specs.declared.Progress.{Progress}
use Rattle.logs.specs.declared.Advanced.{Advanced}
use Rattle.logs.specs.Logs.{log_limit, program, program_width, events_of, events_from}
use Rattle.logs.specs.Replays.{Line, run_lines}
use Rattle.states.specs.States.{run_at}
use Rattle.logs.specs.Progress.{begun, Ready, Advances, Progresses}
use Rattle.logs.proofs.Laws.Logs.{events_of_end, events_of_split, events_from_cons, events_from_end, event_size_within, length_event_at}
use Rattle.logs.proofs.Laws.Lines.{length_run_lines, follows_lines}
use Rattle.logs.proofs.Laws.Progress.{ready_begun, run_at_begun, lines_next, lines_progressed, Going, Taking, taking_start, taking_turn, taking_end}
use Rattle.lines.specs.Text.{line_text, line_limit}
use Rattle.lines.proofs.Laws.Text.{length_line, line_some}
use Rattle.texts.specs.declared.Piece.{Piece}
use Rattle.texts.specs.Texts.{numbered_from, too_long, program_text, text_left, next_lines, next_text, Starts, TellsTooLong, TellsLines, Continues}

numbered_from_append : (n : ℕ) (ls ms : List Line) → numbered_from n (ls ++ ms) ≡ numbered_from n ls ++ numbered_from (n + length ls) ms
unfolding numbered_from
numbered_from_append n [] ms = rw add-zero
numbered_from_append n (l ∷ ls) ms =
    let next : n + 1 + length ls ≡ n + suc (length ls) = omega arith in
    rw (numbered_from_append (n + 1) ls ms, next, append_assoc)

numbered_some : (n : ℕ) (l : Line) (ls : List Line) → 0 < length (numbered_from n (l ∷ ls))
unfolding numbered_from
numbered_some n l ls = simp length-append (omega (arith, line_some n l.answer l.dropped l.length))

-- ---- the start

text_left_begun : (log a b : List ℕ) → limit ≤ length a → limit ≤ length b → text_left (begun program) log a b ≡ program_text log
unfolding text_left program_text begun
text_left_begun log a b h k = go (leb (length log) log_limit) refl
  where
    go : (short : Bool) → leb (length log) log_limit ≡ short → text_left (begun program) log a b ≡ program_text log
    go true s = rw (s, run_at_begun program a b) (ap (λ (ls : List Line). numbered_from 1 ls) (follows_lines (started program a b) (opened program) (events_of program_width log) (follows_started program a b h k)))
    go false s = rw (s, lt-ltb 0 (length log) (omega (arith, leb-false (length log) log_limit s)))

pub starts : {r : Progress} → r ≡ begun program → Starts r
starts is =
    record {
      begun = is;
      ready = λ log a b. rw is (ready_begun program log a b);
      all = λ log a b h k. rw is (text_left_begun log a b h k);
    }

-- ---- the lines of the next events

-- one line more
pub next_lines_cons : {p : Progress} {log a b : List ℕ} (n : ℕ) → Ready p log a b → p.at < length log → {r : Advanced} {a' b' : List ℕ} → Advances program_width p log a b r a' b'
    → next_lines p log a b (suc n)
    ≡ line_text r.progress.count r.answer r.dropped r.progress.state.length ++ next_lines r.progress log a' b' n
unfolding next_lines numbered_from
next_lines_cons n ready more done = rw (lines_next n ready more done, done.count)

-- what holds before each event: the lines written so far, with those that are left, are the lines of all
pub record Telling (from : Progress) (log a b out : List ℕ) (most : ℕ) (p : Progress) (count used : ℕ) (a' b' out' : List ℕ) : Type 0 where
  pub taking : Taking program_width from log a b most p (most - count) a' b'
  pub written : List ℕ
  pub whole : next_lines from log a b most ≡ written ++ next_lines p log a' b' (most - count)
  pub size : used ≡ length written
  pub upto : count ≤ most
  pub few : used ≤ line_limit * count
  pub buffer : out' ≡ put 0 written out
  pub same : length out' ≡ length out

pub telling_start : (p : Progress) (log a b out : List ℕ) (most : ℕ) → Ready p log a b → Telling p log a b out most p 0 0 a b out
telling_start p log a b out most ready =
    let all : most - 0 ≡ most = omega arith in
    record {
      taking = rw all (taking_start most ready);
      written = [];
      whole = rw all;
      size = refl;
      upto = omega arith;
      few = omega arith;
      buffer = sym (put_nil 0 out);
      same = refl;
    }

pub telling_turn : {from : Progress} {log a b out : List ℕ} {most : ℕ} {p : Progress} {count used : ℕ} {a' b' out' : List ℕ}
    → Telling from log a b out most p count used a' b' out'
    → line_limit * most ≤ length out
    → Going log p.at count most
    → {r : Advanced} {a'' b'' : List ℕ} → Advances program_width p log a' b' r a'' b''
    → length a'' ≡ length a'
    → length b'' ≡ length b'
    → {end : ℕ} {out'' : List ℕ}
    → (end ≡ used + length (line_text r.progress.count r.answer r.dropped r.progress.state.length))
    × (out'' ≡ put used (line_text r.progress.count r.answer r.dropped r.progress.state.length) out')
    → Telling from log a b out most r.progress (count + 1) end a'' b'' out''
telling_turn {out = out} {most} {p} {count} t room g {r} done keeps_a keeps_b {out'' = out''} told =
    let n = most - (count + 1) in
    let left : most - count ≡ suc n = omega (arith, g.fewer) in
    let line = line_text r.progress.count r.answer r.dropped r.progress.state.length in
    let short = length_line r.progress.count r.answer r.dropped r.progress.state.length in
    let buffer : out'' ≡ put 0 (t.written ++ line) out = told.1 ∙ rw (t.size, t.buffer) (put_put_front t.written line out) in
    let size = length-append t.written line in
    record {
      taking = taking_turn n t.taking.ready g.more done (rw left at t.taking) keeps_a keeps_b;
      written = t.written ++ line;
      whole = rw (left, next_lines_cons n t.taking.ready g.more done) at t.whole ∙ rw append_assoc;
      size = omega (arith, told.0, t.size, size);
      upto = omega (arith, g.fewer);
      few = omega (arith, told.0, t.few, short);
      buffer = buffer;
      same = ap length buffer ∙ length_put 0 (t.written ++ line) out (omega (arith, t.size, size, t.few, short, g.fewer));
    }

pub telling_end : {from : Progress} {log a b out : List ℕ} {p : Progress} {count used : ℕ} {a' b' out' : List ℕ}
    → Telling from log a b out (length out / line_limit) p count used a' b' out'
    → events_from program_width log p.at (length out / line_limit - count) ≡ []
    → TellsLines from log a b out (record { progress = p; length = used }) a' b' out'
unfolding next_lines run_lines numbered_from
telling_end {out = out} {used = used} {out' = out'} t none =
    let whole = rw none at t.whole ∙ append-nil t.written in
    let fits : used ≤ length out' = omega (arith, t.few, t.upto, t.same) in
    record {
      text = t.buffer ∙ ap (λ (xs : List ℕ). put 0 xs out) (sym whole);
      size = t.size ∙ sym (ap length whole);
      counts = (fits, sym (length-take-le _ out' fits));
      progress = taking_end t.taking none;
    }

-- ---- a piece

-- what is left is the lines of the next events, and then what is left after them
text_left_split : {p q : Progress} {log a b a' b' : List ℕ} {n : ℕ} → Ready p log a b → length log ≤ log_limit → Progresses program_width p log a b n q a' b'
    → text_left p log a b ≡ next_lines p log a b n ++ text_left q log a' b'
unfolding text_left next_lines
text_left_split {p} {q} {log} {a} {b} {n = n} ready short done =
    let es = events_from program_width log p.at n in
    let count : p.count + 1 + length es ≡ q.count + 1 = omega (arith, done.count) in
    rw (le-leb (length log) log_limit short, events_of_split program_width log n p.at, ← done.at, lines_progressed ready done, numbered_from_append, length_run_lines (run_at p.state a b) es, count)

-- lines are some bytes where there is an event, and none where there is none
next_lines_none : (p : Progress) (log a b : List ℕ) (n : ℕ) → length log ≤ p.at → next_lines p log a b n ≡ []
unfolding next_lines run_lines numbered_from
next_lines_none p log a b n h = rw (events_from_end program_width log p.at n h)

next_lines_some : (p : Progress) (log a b : List ℕ) (n : ℕ) → p.at < length log → 0 < length (next_lines p log a b (suc n))
unfolding next_lines run_lines
next_lines_some p log a b n more = rw (events_from_cons program_width log p.at n more) (numbered_some (p.count + 1) _ _)

-- so nothing is left where the piece is empty, and else some of the log was taken
nothing_left : (p : Progress) (log a b : List ℕ) (n : ℕ) → 0 < n → length log ≤ log_limit → length (next_lines p log a b n) ≡ 0 → text_left p log a b ≡ []
unfolding text_left run_lines numbered_from
nothing_left p log a b zero some short none = absurd (omega arith)
nothing_left p log a b (suc n) some short none = go (ltb p.at (length log)) refl
  where
    go : (more : Bool) → ltb p.at (length log) ≡ more → text_left p log a b ≡ []
    go true m = absurd (omega (arith, next_lines_some p log a b n (ltb-true p.at (length log) m)))
    go false m = rw (le-leb (length log) log_limit short, events_of_end program_width log p.at (ltb-false p.at (length log) m))

some_taken : {p q : Progress} {log a b a' b' : List ℕ} (n : ℕ) → 0 < n → Progresses program_width p log a b n q a' b' → 0 < length (next_lines p log a b n) → p.at < q.at
unfolding joined
some_taken zero some done more = absurd (omega arith)
some_taken {p} {q} {log} {a} {b} (suc n) some done more = go (ltb p.at (length log)) refl
  where
    go : (m : Bool) → ltb p.at (length log) ≡ m → p.at < q.at
    go true m =
        let here = ltb-true p.at (length log) m in
        let at = rw (events_from_cons program_width log p.at n here, length-append) at done.at in
        omega (arith, at, length_event_at program_width log p.at, event_size_within program_width log p.at here)
    go false m = absurd (omega (arith, ap length (next_lines_none p log a b (suc n) (ltb-false p.at (length log) m))))

-- a piece of lines
pub lines_told : {p : Progress} {log a b out : List ℕ} {r : Piece} {a' b' out' : List ℕ} → Ready p log a b → line_limit ≤ length out
    → length log ≤ log_limit
    → TellsLines p log a b out r a' b' out'
    → Continues p log a b out r a' b' out'
unfolding next_text
lines_told {p} {log} {a} {b} {out} {r} ready room short told =
    let n = length out / line_limit in
    let is : next_text p log a b (length out) ≡ next_lines p log a b n = rw (le-leb (length log) log_limit short) in
    record {
      text = rw is told.text;
      size = rw is told.size;
      counts = told.counts;
      short = λ h. told.progress;
      long = λ h. absurd (omega arith);
      ready = told.progress.ready;
      left = rw is (text_left_split ready short told.progress);
      ended = λ none. nothing_left p log a b n (omega arith) short (omega (arith, told.size));
      further = λ some. some_taken n (omega arith) told.progress (omega (arith, told.size));
    }

-- `too long`, unless all of the log was taken
module _ (p : Progress) (log out : List ℕ) where
  abbrev taken : Progress
  taken = record { state = p.state; at = length log; count = p.count }

  pub tells_nothing : length log ≤ p.at → TellsTooLong p log out (record { progress = taken; length = 0 }) out
  tells_nothing h =
      let over = le-ltb p.at (length log) h in
      record { text = rw over (sym (put_nil 0 out)); size = rw over; counts = (omega arith, refl); progress = refl }

  pub tells_too_long : p.at < length log → line_limit ≤ length out → {end : ℕ} {out' : List ℕ} → (end ≡ 0 + length too_long) × (out' ≡ put 0 too_long out)
      → TellsTooLong p log out (record { progress = taken; length = end }) out'
  tells_too_long h room {end} {out'} told =
      let same : length out' ≡ length out = ap length told.1 ∙ length_put 0 too_long out (omega arith) in
      let fits : end ≤ length out' = omega (arith, told.0, same) in
      let more = lt-ltb p.at (length log) h in
      record {
        text = rw more told.1;
        size = rw more told.0;
        counts = (fits, sym (length-take-le end out' fits));
        progress = refl;
      }

pub too_long_told : {p : Progress} {log a b out : List ℕ} {r : Piece} {out' : List ℕ} → Ready p log a b → log_limit < length log
    → TellsTooLong p log out r out'
    → Continues p log a b out r a b out'
unfolding next_text text_left
too_long_told {p} {log} {a} {b} {out} {r} ready long told =
    let over = lt-leb (length log) log_limit long in
    let none : ltb (length log) (length log) ≡ false = le-ltb (length log) (length log) (omega arith) in
    record {
      text = rw over told.text;
      size = rw over told.size;
      counts = told.counts;
      short = λ h. absurd (omega arith);
      long = λ h. (told.progress, (refl, refl));
      ready = rw told.progress (record { holds = ready.holds; inside = omega arith; few = omega (arith, ready.few, ready.inside) });
      left = rw (over, told.progress, none, append-nil);
      ended = λ n. rw over (go (ltb p.at (length log)) told.size n);
      further = λ some. rw told.progress (taken (ltb p.at (length log)) refl told.size some);
    }
  where
    go : (more : Bool) → r.length ≡ length (cond more too_long []) → r.length ≡ 0 → cond more too_long [] ≡ []
    go true is n = absurd (omega arith)
    go false is n = refl

    taken : (more : Bool) → ltb p.at (length log) ≡ more → r.length ≡ length (cond more too_long []) → 0 < r.length → p.at < length log
    taken true m is some = ltb-true p.at (length log) m
    taken false m is some = absurd (omega arith)
