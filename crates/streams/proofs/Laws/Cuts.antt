-- Where a log is cut does not matter, proved.
use Rattle.std.specs.Prelude.{ℕ, zero, suc, ◌+◌, ◌-◌, ◌≤◌, ◌<◌, ◌≡◌, refl, Bool, true, false, List, [], ◌∷◌, ◌++◌, length, drop}
use Rattle.std.proofs.Common.{sym, ap, ◌∙◌, append-nil, append_assoc, arith, le_refl, add-zero, length-append, length-drop, leb-true}
use Rattle.std.proofs.Math.Seq.{drop-length, drop-append-add}
use Rattle.std.proofs.lemmas.List.{drop-append-le, take-append-le}
use Rattle.model.specs.Tables.{joined}
use Rattle.laws.specs.Buffers.{put_nil}
use Rattle.readers.specs.Readers.{held_bytes, first_size, complete, counts_as_ignoring}
use Rattle.readers.proofs.Laws.Readers.{finished, listening}
use Rattle.fragments.specs.Fragments.{event_taken}
use Rattle.streams.specs.Streams.{Stream, call, called, fed_within, fed, fed_all}
use Rattle.streams.specs.Theorem.{Alike, CutsDoNotMatterAlways}
use Rattle.streams.proofs.Laws.Calls.{width, hold, after, called_ignored, called_held, called_finished, alike_refl, alike_sym, alike_trans, alike_after, held_behind, hold_full, hold_awake, taken_within, alike_called, alike_finished}

-- ---- calls until all is taken

-- a call with a byte takes a byte or more, and no more than there are
pub takes_some : (s : Stream) (x : List ℕ) → length s.reader.held ≡ 24 → 0 < length x → (0 < (call s x).taken) × ((call s x).taken ≤ length x)
takes_some s x full some = go (counts_as_ignoring (width s) s.reader) (complete (width s) (held_bytes s.reader ++ x)) refl refl
  where
    go : (ignores whole : Bool) → counts_as_ignoring (width s) s.reader ≡ ignores → complete (width s) (held_bytes s.reader ++ x) ≡ whole
        → (0 < (call s x).taken) × ((call s x).taken ≤ length x)
    go true whole is done = let taken = (called_ignored s x is).1 in (omega arith, omega arith)
    go false false is done = let taken = (called_held s x is done).1 in (omega arith, omega arith)
    go false true is done =
        let taken = (called_finished s x is done).1 in
        let within = taken_within s x full is done in
        (omega arith, omega arith)

-- a call keeps the 24 places
pub called_full : (s : Stream) (x : List ℕ) → length s.reader.held ≡ 24 → length (called s x).reader.held ≡ 24
called_full s x full = (alike_called s s x (alike_refl s full)).0.full

-- any number that is at least the fragment's length allows all calls
pub fed_enough : (n m : ℕ) (s : Stream) (x : List ℕ) → length s.reader.held ≡ 24 → length x ≤ n → length x ≤ m → fed_within n s x ≡ fed_within m s x
unfolding fed_within
fed_enough zero zero s x full h k = refl
fed_enough zero (suc m) s [] full h k = refl
fed_enough (suc n) zero s [] full h k = refl
fed_enough (suc n) (suc m) s [] full h k = refl
fed_enough zero (suc m) s (b ∷ bs) full h k = absurd (omega arith)
fed_enough (suc n) zero s (b ∷ bs) full h k = absurd (omega arith)
fed_enough (suc n) (suc m) s (b ∷ bs) full h k =
    let some = takes_some s (b ∷ bs) full (omega arith) in
    let left = length-drop (call s (b ∷ bs)).taken (b ∷ bs) in
    fed_enough n m (called s (b ∷ bs)) (drop (call s (b ∷ bs)).taken (b ∷ bs)) (called_full s (b ∷ bs) full) (omega arith) (omega arith)

-- the first call, and the others
pub fed_none : (s : Stream) → fed s [] ≡ s
unfolding fed fed_within
fed_none s = refl

pub fed_first : (s : Stream) (x : List ℕ) → length s.reader.held ≡ 24 → 0 < length x → fed s x ≡ fed (called s x) (drop (call s x).taken x)
unfolding fed fed_within
fed_first s [] full some = absurd (omega arith)
fed_first s (b ∷ bs) full some =
    let taken = takes_some s (b ∷ bs) full some in
    let left = length-drop (call s (b ∷ bs)).taken (b ∷ bs) in
    fed_enough (length bs) (length (drop (call s (b ∷ bs)).taken (b ∷ bs))) (called s (b ∷ bs)) (drop (call s (b ∷ bs)).taken (b ∷ bs)) (called_full s (b ∷ bs) full) (omega arith) (le_refl _)

-- a call that takes all is the last
pub fed_once : (s : Stream) (x : List ℕ) → length s.reader.held ≡ 24 → 0 < length x → (call s x).taken ≡ length x → fed s x ≡ called s x
fed_once s x full some all = fed_first s x full some ∙ rw (all, drop-length x) (fed_none (called s x))

-- streams that are alike are fed alike
pub alike_within : (n : ℕ) (s s' : Stream) (x : List ℕ) → Alike s s' → Alike (fed_within n s x) (fed_within n s' x)
unfolding fed_within
alike_within zero s s' x k = k
alike_within (suc n) s s' [] k = k
alike_within (suc n) s s' (b ∷ bs) k =
    let next = alike_called s s' (b ∷ bs) k in
    rw next.1 (alike_within n (called s (b ∷ bs)) (called s' (b ∷ bs)) (drop (call s' (b ∷ bs)).taken (b ∷ bs)) next.0)

pub alike_fed : (s s' : Stream) (x : List ℕ) → Alike s s' → Alike (fed s x) (fed s' x)
unfolding fed
alike_fed s s' x k = alike_within (length x) s s' x k

pub fed_full : (s : Stream) (x : List ℕ) → length s.reader.held ≡ 24 → length (fed s x).reader.held ≡ 24
fed_full s x full = (alike_fed s s x (alike_refl s full)).full

-- a reader that ignores stays as it is
pub fed_ignored : (s : Stream) (x : List ℕ) → length s.reader.held ≡ 24 → counts_as_ignoring (width s) s.reader ≡ true → fed s x ≡ s
fed_ignored s [] full is = fed_none s
fed_ignored s (b ∷ bs) full is =
    let one = called_ignored s (b ∷ bs) is in fed_once s (b ∷ bs) full (omega arith) one.1 ∙ one.0

-- bytes that finish no event are held
pub fed_held : (s : Stream) (b : ℕ) (bs : List ℕ) → length s.reader.held ≡ 24 → counts_as_ignoring (width s) s.reader ≡ false
    → complete (width s) (held_bytes s.reader ++ (b ∷ bs)) ≡ false
    → fed s (b ∷ bs) ≡ hold s (b ∷ bs)
fed_held s b bs full is part =
    let one = called_held s (b ∷ bs) is part in fed_once s (b ∷ bs) full (omega arith) one.1 ∙ one.0

-- ---- two fragments are one

-- bytes that are held, and more behind them
module _ (s : Stream) (b : ℕ) (bs : List ℕ) (full : length s.reader.held ≡ 24) (awake : counts_as_ignoring (width s) s.reader ≡ false)
    (part : complete (width s) (held_bytes s.reader ++ (b ∷ bs)) ≡ false) where
  abbrev x : List ℕ
  x = b ∷ bs

  bytes : (y : List ℕ) → held_bytes s.reader ++ (x ++ y) ≡ held_bytes (hold s x).reader ++ y
  bytes y = sym (append_assoc (held_bytes s.reader) x y) ∙ ap (λ h. h ++ y) (sym (held_behind s x full awake part))

  event_same : (y : List ℕ) → event_taken (width s) s.reader (x ++ y) ≡ event_taken (width s) (hold s x).reader y
  unfolding event_taken
  event_same y = rw (bytes y)

  held_first : (y : List ℕ) → Alike (fed s (x ++ y)) (fed (hold s x) y)
  held_first [] =
      let kept = hold_full s x full awake part in
      rw (append-nil x, fed_held s b bs full awake part, fed_none (hold s x)) (alike_refl (hold s x) kept)
  held_first (d ∷ ds) = go (complete (width s) (held_bytes s.reader ++ (x ++ y))) refl
    where
      y : List ℕ
      y = d ∷ ds

      kept : length (hold s x).reader.held ≡ 24
      kept = hold_full s x full awake part

      awake' : counts_as_ignoring (width s) (hold s x).reader ≡ false
      awake' = hold_awake s x full awake part

      go : (whole : Bool) → complete (width s) (held_bytes s.reader ++ (x ++ y)) ≡ whole → Alike (fed s (x ++ y)) (fed (hold s x) y)
      go false done =
          let done' = rw (bytes y) at done in
          rw (fed_held s b (bs ++ y) full awake done, fed_held (hold s x) d ds kept awake' done')
          (record {
            line = refl;
            ignoring = refl;
            size = omega (arith, length-append x y);
            held = held_behind s (x ++ y) full awake done ∙ bytes y ∙ sym (held_behind (hold s x) y kept awake' done');
            run = refl;
            told = refl;
            full = hold_full s (x ++ y) full awake done;
            full' = hold_full (hold s x) y kept awake' done';
          })
      go true done =
          let done' = rw (bytes y) at done in
          let one = called_finished s (x ++ y) awake done in
          let two = called_finished (hold s x) y awake' done' in
          let within = taken_within (hold s x) y kept awake' done' in
          let size : first_size (width s) (held_bytes s.reader ++ (x ++ y)) ≡ first_size (width s) (held_bytes (hold s x).reader ++ y) = ap (first_size (width s)) (bytes y) in
          let more : (call s (x ++ y)).taken ≡ length x + (call (hold s x) y).taken = omega (arith, one.1, two.1, within.0, size) in
          let rest : drop (call s (x ++ y)).taken (x ++ y) ≡ drop (call (hold s x) y).taken y = rw more (drop-append-add x y (call (hold s x) y).taken) in
          rw (fed_first s (x ++ y) full (omega arith), fed_first (hold s x) y kept (omega arith), rest, one.0, two.0, event_same y)
          (alike_fed (after s (event_taken (width s) (hold s x).reader y)) (after (hold s x) (event_taken (width s) (hold s x).reader y)) (drop (call (hold s x) y).taken y)
          (alike_after s (hold s x) (event_taken (width s) (hold s x).reader y) refl refl refl full kept))

-- an event that a fragment finishes is the same with more bytes behind it
module _ (s : Stream) (x y : List ℕ) (full : length s.reader.held ≡ 24) (awake : counts_as_ignoring (width s) s.reader ≡ false)
    (whole : complete (width s) (held_bytes s.reader ++ x) ≡ true) where
  more_bytes : held_bytes s.reader ++ (x ++ y) ≡ (held_bytes s.reader ++ x) ++ y
  more_bytes = sym (append_assoc (held_bytes s.reader) x y)

  size_more : first_size (width s) (held_bytes s.reader ++ (x ++ y)) ≡ first_size (width s) (held_bytes s.reader ++ x)
  size_more = ap (first_size (width s)) more_bytes ∙ (finished (width s) (held_bytes s.reader ++ x) y whole).1

  whole_more : complete (width s) (held_bytes s.reader ++ (x ++ y)) ≡ true
  whole_more = rw more_bytes (finished (width s) (held_bytes s.reader ++ x) y whole).0

  event_more : event_taken (width s) s.reader (x ++ y) ≡ event_taken (width s) s.reader x
  unfolding event_taken complete
  event_more =
      rw (size_more, more_bytes)
      (take-append-le (first_size (width s) (held_bytes s.reader ++ x)) (held_bytes s.reader ++ x) y (leb-true (first_size (width s) (held_bytes s.reader ++ x)) (length (held_bytes s.reader ++ x)) whole))

  called_more : (called s (x ++ y) ≡ called s x) × ((call s (x ++ y)).taken ≡ (call s x).taken)
  called_more =
      let one = called_finished s x awake whole in
      let two = called_finished s (x ++ y) awake whole_more in
      (two.0 ∙ ap (after s) event_more ∙ sym one.0, two.1 ∙ ap (λ n. n - s.reader.length) size_more ∙ sym one.1)

pub fed_split : (n : ℕ) (s : Stream) (x y : List ℕ) → length x ≤ n → length s.reader.held ≡ 24 → Alike (fed s (x ++ y)) (fed (fed s x) y)
fed_split zero s [] y h full = rw (fed_none s) (alike_fed s s y (alike_refl s full))
fed_split zero s (b ∷ bs) y h full = absurd (omega arith)
fed_split (suc n) s [] y h full = rw (fed_none s) (alike_fed s s y (alike_refl s full))
fed_split (suc n) s (b ∷ bs) y h full =
    go (counts_as_ignoring (width s) s.reader) (complete (width s) (held_bytes s.reader ++ x)) refl refl
    (λ fewer. fed_split n (called s x) (drop (call s x).taken x) y fewer (called_full s x full))
  where
    x : List ℕ
    x = b ∷ bs

    go : (ignores whole : Bool) → counts_as_ignoring (width s) s.reader ≡ ignores → complete (width s) (held_bytes s.reader ++ x) ≡ whole
        → (length (drop (call s x).taken x) ≤ n → Alike (fed (called s x) (drop (call s x).taken x ++ y)) (fed (fed (called s x) (drop (call s x).taken x)) y))
        → Alike (fed s (x ++ y)) (fed (fed s x) y)
    go true whole is done others = rw (fed_ignored s (x ++ y) full is, fed_ignored s x full is, fed_ignored s y full is) (alike_refl s full)
    go false false is done others = rw (fed_held s b bs full is done) (held_first s b bs full is done y)
    go false true is done others =
        let some = takes_some s x full (omega arith) in
        let same = called_more s x y full is done in
        let left = length-drop (call s x).taken x in
        let rest : drop (call s (x ++ y)).taken (x ++ y) ≡ drop (call s x).taken x ++ y = rw same.1 (drop-append-le (call s x).taken x y some.1) in
        rw (fed_first s (x ++ y) full (omega arith), rest, same.0, fed_first s x full (omega arith))
        (others (omega arith))

-- ---- any list of fragments

all_joined : (s : Stream) (xs : List (List ℕ)) → length s.reader.held ≡ 24 → Alike (fed_all s xs) (fed s (joined xs))
unfolding fed_all joined
all_joined s [] full = rw (fed_none s) (alike_refl s full)
all_joined s (x ∷ xs) full =
    alike_trans (all_joined (fed s x) xs (fed_full s x full)) (alike_sym (fed_split (length x) s x (joined xs) (le_refl _) full))

-- a call with no byte
none_called : (s : Stream) → length s.reader.held ≡ 24 → called s [] ≡ s
none_called s full = go (counts_as_ignoring (width s) s.reader) refl
  where
    go : (ignores : Bool) → counts_as_ignoring (width s) s.reader ≡ ignores → called s [] ≡ s
    go true is = (called_ignored s [] is).0
    go false is =
        (called_held s [] is (rw append-nil (listening (width s) s.reader is).begun)).0
        ∙ rw (put_nil s.reader.length s.reader.held, add-zero)

pub cuts_do_not_matter_holds : CutsDoNotMatterAlways
cuts_do_not_matter_holds s xs full =
    let all = all_joined s xs full in
    record { before = all; after = alike_finished _ _ all; none = none_called s full }
