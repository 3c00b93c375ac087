-- One call, by its three ways; and two streams that are alike, called alike.
use Rattle.std.specs.Prelude.{ℕ, zero, ◌+◌, ◌-◌, ◌≤◌, ◌<◌, ◌≡◌, refl, Bool, true, false, List, [], ◌∷◌, ◌++◌, eqb, length}
use Rattle.std.proofs.Common.{sym, ap, ◌∙◌, append-nil, arith}
use borrow.Author.Tests.{leb-true, eqb-true, eqb-false, eq-eqb, ne_eqb}
use Rattle.std.proofs.Math.ListN.{length-append}
use Rattle.laws.specs.Buffers.{length_put}
use Rattle.runs.specs.Runs.{report}
use Rattle.counted_runs.specs.Runs.{CountedRun, counted_result, counted_after}
use Rattle.readers.specs.Readers.{held_bytes, first_size, complete, counts_as_ignoring, next_line, holding, read_on, ended}
use Rattle.readers.proofs.Laws.Readers.{unfinished, unfinished_most, Listening, listening, listens, length_held, held_more}
use Rattle.fragments.specs.Fragments.{finishes, event_taken, bytes_taken, ignoring_after, reader_kept, taken_of, taken_pcids, taken_written, cut_answer, finished_of}
use Rattle.streams.specs.Streams.{Told, Stream, call, run_called, called, finished}
use Rattle.streams.specs.Theorem.{Alike}

-- the linear width of a stream's context
abbrev pub width : Stream → ℕ
width s = s.run.run.context.linear_width

-- the stream behind bytes that are held, and behind an event
abbrev pub hold : Stream → List ℕ → Stream
hold s x = record { reader = holding s.reader x; run = s.run; told = s.told }

abbrev pub told_of : ℕ → CountedRun → List ℕ → Told
told_of line run e =
    record { line = next_line line; report = report (counted_result run e).step; length = length (counted_after run e).run.table }

unfoldable pub after : Stream → List ℕ → Stream
after s e =
    record {
      reader = read_on s.reader (ignoring_after (width s) e (counted_result s.run e).step.answer);
      run = counted_after s.run e;
      told = s.told ++ (told_of s.reader.line s.run e ∷ []);
    }

module _ (s : Stream) (x : List ℕ) where
  pub called_ignored : counts_as_ignoring (width s) s.reader ≡ true → (called s x ≡ s) × ((call s x).taken ≡ length x)
  unfolding call run_called called finishes taken_of taken_pcids taken_written reader_kept
  called_ignored is = (rw (is, append-nil), rw is)

  module _ (awake : counts_as_ignoring (width s) s.reader ≡ false) where
    pub called_held : complete (width s) (held_bytes s.reader ++ x) ≡ false → (called s x ≡ hold s x) × ((call s x).taken ≡ length x)
    unfolding call run_called called finishes taken_of taken_pcids taken_written reader_kept
    called_held part = (rw (awake, part, append-nil), rw (awake, part))

    pub called_finished : complete (width s) (held_bytes s.reader ++ x) ≡ true
        → (called s x ≡ after s (event_taken (width s) s.reader x))
        × ((call s x).taken ≡ first_size (width s) (held_bytes s.reader ++ x) - s.reader.length)
    unfolding call run_called called finishes taken_of taken_pcids taken_written bytes_taken after counted_result counted_after
    called_finished whole = (rw (awake, whole), rw (awake, whole))

-- ---- streams that are alike

pub alike_refl : (s : Stream) → length s.reader.held ≡ 24 → Alike s s
alike_refl s full =
    record { line = refl; ignoring = refl; size = refl; held = refl; run = refl; told = refl; full = full; full' = full }

pub alike_sym : {s s' : Stream} → Alike s s' → Alike s' s
alike_sym k =
    record {
      line = sym k.line;
      ignoring = sym k.ignoring;
      size = sym k.size;
      held = sym k.held;
      run = sym k.run;
      told = sym k.told;
      full = k.full';
      full' = k.full;
    }

pub alike_trans : {s s' s'' : Stream} → Alike s s' → Alike s' s'' → Alike s s''
alike_trans k l =
    record {
      line = k.line ∙ l.line;
      ignoring = k.ignoring ∙ l.ignoring;
      size = k.size ∙ l.size;
      held = k.held ∙ l.held;
      run = k.run ∙ l.run;
      told = k.told ∙ l.told;
      full = k.full;
      full' = l.full';
    }

-- behind an event, whatever the readers hold
pub alike_after : (s s' : Stream) (e : List ℕ) → s.reader.line ≡ s'.reader.line → s.run ≡ s'.run → s.told ≡ s'.told
    → length s.reader.held ≡ 24
    → length s'.reader.held ≡ 24
    → Alike (after s e) (after s' e)
unfolding after held_bytes
alike_after s s' e line run told full full' =
    record {
      line = ap next_line line;
      ignoring = ap (λ (r : CountedRun). ignoring_after r.run.context.linear_width e (counted_result r e).step.answer) run;
      size = refl;
      held = refl;
      run = ap (λ (r : CountedRun). counted_after r e) run;
      told = rw (line, run, told);
      full = full;
      full' = full';
    }

-- a fragment that finishes no event leaves room for its bytes
module _ (s : Stream) (x : List ℕ) (full : length s.reader.held ≡ 24) (awake : counts_as_ignoring (width s) s.reader ≡ false) where
  abbrev y : List ℕ
  y = held_bytes s.reader ++ x

  abbrev heard : Listening (width s) s.reader
  heard = listening (width s) s.reader awake

  size_held : length (held_bytes s.reader) ≡ s.reader.length
  size_held = length_held s.reader full heard.few

  module _ (part : complete (width s) y ≡ false) where
    pub room : s.reader.length + length x ≤ 24
    room = omega (arith, size_held, length-append (held_bytes s.reader) x, unfinished_most (width s) y part)

    pub held_behind : held_bytes (hold s x).reader ≡ held_bytes s.reader ++ x
    held_behind = held_more s.reader full x room

    pub hold_full : length (hold s x).reader.held ≡ 24
    hold_full = length_put s.reader.length x s.reader.held (omega (arith, room)) ∙ full

    pub hold_awake : counts_as_ignoring (width s) (hold s x).reader ≡ false
    hold_awake = listens (width s) (hold s x).reader (record { flag = heard.flag; few = room; begun = rw held_behind part })

  -- an event that a fragment finishes takes a byte of it or more, and no more than it has
  module _ (whole : complete (width s) y ≡ true) where
    pub taken_within : (s.reader.length < first_size (width s) y) × (first_size (width s) y ≤ s.reader.length + length x)
    unfolding complete
    taken_within = (
      omega (arith, size_held, unfinished (width s) (held_bytes s.reader) x heard.begun),
      omega (arith, size_held, length-append (held_bytes s.reader) x, leb-true (first_size (width s) y) (length y) whole),
    )

-- streams that are alike are called alike
module _ (s s' : Stream) (x : List ℕ) (k : Alike s s') where
  same_width : width s ≡ width s'
  same_width = ap (λ (r : CountedRun). r.run.context.linear_width) k.run

  same_bytes : held_bytes s.reader ++ x ≡ held_bytes s'.reader ++ x
  same_bytes = ap (λ h. h ++ x) k.held

  pub same_ignoring : counts_as_ignoring (width s) s.reader ≡ counts_as_ignoring (width s') s'.reader
  unfolding counts_as_ignoring
  same_ignoring = rw (same_width, k.held, k.ignoring, k.size)

  size : first_size (width s) (held_bytes s.reader ++ x) ≡ first_size (width s') (held_bytes s'.reader ++ x)
  size = rw (same_width, same_bytes)

  same_event : event_taken (width s) s.reader x ≡ event_taken (width s') s'.reader x
  unfolding event_taken
  same_event = rw (size, same_bytes)

  same_taken : first_size (width s) (held_bytes s.reader ++ x) - s.reader.length ≡ first_size (width s') (held_bytes s'.reader ++ x) - s'.reader.length
  same_taken = rw (size, k.size)

  pub alike_called : Alike (called s x) (called s' x) × ((call s x).taken ≡ (call s' x).taken)
  alike_called = go (counts_as_ignoring (width s) s.reader) (complete (width s) (held_bytes s.reader ++ x)) refl refl
    where
      go : (ignores whole : Bool) → counts_as_ignoring (width s) s.reader ≡ ignores → complete (width s) (held_bytes s.reader ++ x) ≡ whole
          → Alike (called s x) (called s' x) × ((call s x).taken ≡ (call s' x).taken)
      go true whole is done =
          let one = called_ignored s x is in
          let two = called_ignored s' x (sym same_ignoring ∙ is) in
          (rw (one.0, two.0) k, one.1 ∙ sym two.1)
      go false false is done =
          let is' = sym same_ignoring ∙ is in
          let done' = rw (same_width, same_bytes) at done in
          let one = called_held s x is done in
          let two = called_held s' x is' done' in (
            rw (one.0, two.0)
                (record {
                  line = k.line;
                  ignoring = k.ignoring;
                  size = ap (λ n. n + length x) k.size;
                  held = held_behind s x k.full is done ∙ same_bytes ∙ sym (held_behind s' x k.full' is' done');
                  run = k.run;
                  told = k.told;
                  full = hold_full s x k.full is done;
                  full' = hold_full s' x k.full' is' done';
                }),
            one.1 ∙ sym two.1,
          )
      go false true is done =
          let one = called_finished s x is done in
          let two = called_finished s' x (sym same_ignoring ∙ is) (rw (same_width, same_bytes) at done) in (
            rw (one.0, two.0, same_event) (alike_after s s' _ k.line k.run k.told k.full k.full'),
            one.1 ∙ same_taken ∙ sym two.1,
          )

-- ---- a finish call, by its three ways

-- what it reports of a cut record
abbrev pub told_cut : Stream → Told
told_cut s =
    record {
      line = next_line s.reader.line;
      report = record { answer = cut_answer s.run.run.context s.run.run.table; rule = 0; dropped = 0; context = s.run.run.context };
      length = length s.run.run.table;
    }

module _ (s : Stream) where
  pub finished_ignored : counts_as_ignoring (width s) s.reader ≡ true → finished s ≡ s
  unfolding finished finished_of
  finished_ignored is = rw (is, append-nil)

  module _ (awake : counts_as_ignoring (width s) s.reader ≡ false) where
    pub finished_none : s.reader.length ≡ 0 → finished s ≡ record { reader = ended s.reader; run = s.run; told = s.told }
    unfolding finished finished_of
    finished_none none = rw (awake, eq-eqb s.reader.length 0 none, append-nil)

    pub finished_cut : (s.reader.length ≡ 0 → ⊥) → finished s ≡ record { reader = read_on s.reader true; run = s.run; told = s.told ++ (told_cut s ∷ []) }
    unfolding finished finished_of
    finished_cut some = rw (awake, ne_eqb s.reader.length 0 some)

pub alike_finished : (s s' : Stream) → Alike s s' → Alike (finished s) (finished s')
unfolding held_bytes
alike_finished s s' k = go (counts_as_ignoring (width s) s.reader) (eqb s.reader.length 0) refl refl
  where
    go : (ignores none : Bool) → counts_as_ignoring (width s) s.reader ≡ ignores → eqb s.reader.length 0 ≡ none → Alike (finished s) (finished s')
    go true none is size = rw (finished_ignored s is, finished_ignored s' (sym (same_ignoring s s' [] k) ∙ is)) k
    go false true is size =
        let zero = eqb-true s.reader.length 0 size in
        rw (finished_none s is zero, finished_none s' (sym (same_ignoring s s' [] k) ∙ is) (sym k.size ∙ zero))
        (record { line = k.line; ignoring = refl; size = k.size; held = k.held; run = k.run; told = k.told; full = k.full; full' = k.full' })
    go false false is size =
        let some = eqb-false s.reader.length 0 size in
        rw (finished_cut s is some, finished_cut s' (sym (same_ignoring s s' [] k) ∙ is) (λ zero. some (k.size ∙ zero)))
        (record {
          line = ap next_line k.line;
          ignoring = refl;
          size = refl;
          held = refl;
          run = k.run;
          told = rw (k.told, k.line, k.run);
          full = k.full;
          full' = k.full';
        })
