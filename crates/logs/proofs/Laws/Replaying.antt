-- The loop of `replay`: the rows written so far, and what they are at the end.
use Rattle.std.specs.Prelude.{ℕ, suc, ◌+◌, ◌-◌, ◌*◌, ◌/◌, ◌≤◌, ◌<◌, ◌≡◌, refl, List, [], ◌++◌, length}
use Rattle.std.proofs.Common.{sym, ap, ◌∙◌, append_assoc, append-nil, arith, length-append}
use Rattle.model.specs.declared.Context.{Context}
use Rattle.model.specs.Buffers.{put}
use Rattle.laws.specs.Buffers.{put_nil, put_put_front, length_put}
use Rattle.runs.specs.Runs.{Run, started}
use Rattle.runs.proofs.Laws.InPlace.{in_place_holds}
use Rattle.states.specs.States.{run_on, run_at}
use Rattle.states.proofs.Laws.States.{length_run_at}
use Rattle.logs.specs.declared.Progress.{Progress}
use Rattle.logs.specs.declared.Advanced.{Advanced}
use Rattle.logs.specs.Logs.{events_from}
use Rattle.logs.specs.Progress.{begun, Ready, Advances, Progresses}
use Rattle.logs.specs.Replays.{row_length, row, rows, run_lines, replayed, Replays}
use Rattle.logs.proofs.Laws.Rows.{length_row}
use Rattle.logs.proofs.Laws.Lines.{length_run_lines}
use Rattle.logs.proofs.Laws.Progress.{line_of, lines_next, Going, Taking, taking_start, taking_turn}

-- the rows written so far, with those that are left, are the rows of all
pub record Written (w : ℕ) (all : List ℕ) (log out : List ℕ) (p : Progress) (n : ℕ) (a b out' : List ℕ) : Type 0 where
  pub written : List ℕ
  pub whole : all ≡ written ++ rows (run_lines (run_at p.state a b) (events_from w log p.at n))
  pub size : length written ≡ row_length * p.count
  pub fits : row_length * p.count ≤ length out
  pub buffer : out' ≡ put 0 written out

pub length_written : {w : ℕ} {all log out : List ℕ} {p : Progress} {n : ℕ} {a b out' : List ℕ} → Written w all log out p n a b out' → length out' ≡ length out
length_written {out = out} w = ap length w.buffer ∙ length_put 0 w.written out (omega (arith, w.size, w.fits))

pub written_start : (w : ℕ) (log out : List ℕ) (p : Progress) (n : ℕ) (a b : List ℕ) → p.count ≡ 0
    → Written w (rows (run_lines (run_at p.state a b) (events_from w log p.at n))) log out p n a b out
written_start w log out p n a b none =
    record { written = []; whole = refl; size = omega arith; fits = omega arith; buffer = sym (put_nil 0 out) }

-- one event, of which a row was put behind the others
pub written_turn : {w : ℕ} {all log out : List ℕ} {p : Progress} {n : ℕ} {a b out' : List ℕ} → Written w all log out p (suc n) a b out' → Ready p log a b
    → p.at < length log
    → row_length * (p.count + 1) ≤ length out
    → {r : Advanced} {a' b' : List ℕ} → Advances w p log a b r a' b'
    → {out'' : List ℕ} → out'' ≡ put (row_length * p.count) (row (line_of r)) out'
    → Written w all log out r.progress n a' b' out''
unfolding rows
written_turn {n = n} w ready more fits {r} done wrote =
    record {
      written = w.written ++ row (line_of r);
      whole = rw (lines_next n ready more done) at w.whole ∙ rw append_assoc;
      size = omega (arith, done.count, w.size, length-append w.written (row (line_of r)), length_row (line_of r));
      fits = omega (arith, done.count);
      buffer = wrote ∙ rw (w.buffer, ← w.size) (put_put_front w.written (row (line_of r)) _);
    }

-- the end
pub written_end : {w : ℕ} {all log out : List ℕ} {p : Progress} {n : ℕ} {a b out' : List ℕ} → Written w all log out p n a b out'
    → events_from w log p.at n ≡ []
    → out' ≡ put 0 all out
unfolding run_lines rows
written_end {out = out} w none =
    let whole = rw none at w.whole in
    w.buffer ∙ ap (λ (xs : List ℕ). put 0 xs out) (sym (whole ∙ append-nil w.written))

-- what holds before each event, where there is room for at most so many rows
pub record Replaying (w : ℕ) (from : Progress) (log a b out : List ℕ) (most : ℕ) (p : Progress) (a' b' out' : List ℕ) : Type 0 where
  pub taking : Taking w from log a b most p (most - p.count) a' b'
  pub rows : Written w (rows (run_lines (run_at from.state a b) (events_from w log from.at most))) log out p (most - p.count) a' b' out'

pub replaying_start : (w : ℕ) (p : Progress) (log a b out : List ℕ) (most : ℕ) → p.count ≡ 0 → Ready p log a b → Replaying w p log a b out most p a b out
replaying_start w p log a b out most none ready =
    let all : most - p.count ≡ most = omega arith in
    record { taking = rw all (taking_start most ready); rows = rw all (written_start w log out p most a b none) }

pub replaying_turn : {w : ℕ} {from : Progress} {log a b out : List ℕ} {most : ℕ} {p : Progress} {a' b' out' : List ℕ} → Replaying w from log a b out most p a' b' out'
    → row_length * most ≤ length out
    → Going log p.at p.count most
    → {r : Advanced} {a'' b'' : List ℕ} → Advances w p log a' b' r a'' b''
    → length a'' ≡ length a'
    → length b'' ≡ length b'
    → {out'' : List ℕ} → out'' ≡ put (row_length * p.count) (row (line_of r)) out'
    → Replaying w from log a b out most r.progress a'' b'' out''
replaying_turn {most = most} {p} t room g {r} done keeps_a keeps_b wrote =
    let n = most - r.progress.count in
    let left : most - p.count ≡ suc n = omega (arith, g.fewer, done.count) in
    record {
      taking = taking_turn n t.taking.ready g.more done (rw left at t.taking) keeps_a keeps_b;
      rows = written_turn (rw left at t.rows) t.taking.ready g.more (omega (arith, g.fewer)) done wrote;
    }

-- a replay from a reset, of as many events as there is room for rows
pub replays : (c : Context) (log a b out : List ℕ) {p : Progress} {a' b' out' : List ℕ}
    → Progresses c.linear_width (begun c) log a b (length out / row_length) p a' b'
    → out' ≡ put 0 (rows (run_lines (run_at (begun c).state a b) (events_from c.linear_width log (begun c).at (length out / row_length)))) out
    → Replays c log a b out
    (record { context = p.state.context; length = p.state.length; first = p.state.first; count = p.count })
    a'
    b'
    out'
unfolding begun events_from replayed run_on run_at started
replays c log a b out {p} {a'} {b'} done wrote =
    let same = in_place_holds c (replayed c.linear_width log (length out)) a b in
    record {
      context = ap (λ (x : Run). x.context) done.run ∙ same.context;
      size = sym (length_run_at p.state a' b' done.ready.holds) ∙ ap (λ (x : Run). length x.table) done.run ∙ ap length same.table;
      count = omega (arith, done.count, length_run_lines (started c a b) (replayed c.linear_width log (length out)));
      first = done.side;
      table = ap (λ (x : Run). x.table) done.run ∙ same.table;
      front = ap (λ (x : Run). x.front) done.run;
      back = ap (λ (x : Run). x.back) done.run;
      lines = wrote;
    }
