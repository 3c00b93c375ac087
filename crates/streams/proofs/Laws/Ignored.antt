-- What a reader ignores, proved; and that no call leaves more than 24 bytes held.
use Rattle.std.specs.Prelude.{ℕ, zero, suc, ◌≤◌, Bool, true, false, List, [], ◌∷◌, ◌++◌, ◌≡◌, refl, eqb, length, drop}
use Rattle.std.proofs.Common.{ap, ◌∙◌, arith, eqb-true}
use Rattle.std.proofs.lemmas.Bool.{eqb-false}
use Rattle.readers.specs.Readers.{held_bytes, complete, counts_as_ignoring}
use Rattle.readers.proofs.Laws.Readers.{first_size_none}
use Rattle.streams.specs.Streams.{Stream, call, called, fed_within, fed, fed_all, finished, ignores, reset}
use Rattle.streams.specs.Theorem.{IgnoredAlways}
use Rattle.streams.proofs.Laws.Calls.{width, after, called_ignored, called_held, called_finished, room, finished_ignored, finished_none, finished_cut}
use Rattle.streams.proofs.Laws.Cuts.{called_full, fed_full, fed_ignored}

all_ignored : (s : Stream) (xs : List (List ℕ)) → length s.reader.held ≡ 24 → ignores s ≡ true → fed_all s xs ≡ s
unfolding fed_all
all_ignored s [] full is = refl
all_ignored s (x ∷ xs) full is = ap (λ s. fed_all s xs) (fed_ignored s x full is) ∙ all_ignored s xs full is

begins : (s : Stream) → ignores (finished s) ≡ true
unfolding counts_as_ignoring
begins s = go (ignores s) (eqb s.reader.length 0) refl refl
  where
    go : (is none : Bool) → ignores s ≡ is → eqb s.reader.length 0 ≡ none → ignores (finished s) ≡ true
    go true none is size = rw (finished_ignored s is) is
    go false true is size = rw (finished_none s is (eqb-true s.reader.length 0 size))
    go false false is size = rw (finished_cut s is (eqb-false s.reader.length 0 size))

ends : (s : Stream) → ignores (reset s) ≡ false
unfolding reset counts_as_ignoring held_bytes complete
ends s = rw (first_size_none (width s))

-- ---- at most 24 bytes

called_few : (s : Stream) (x : List ℕ) → length s.reader.held ≡ 24 → s.reader.length ≤ 24 → (called s x).reader.length ≤ 24
unfolding after
called_few s x full few = go (ignores s) (complete (width s) (held_bytes s.reader ++ x)) refl refl
  where
    go : (is whole : Bool) → ignores s ≡ is → complete (width s) (held_bytes s.reader ++ x) ≡ whole → (called s x).reader.length ≤ 24
    go true whole is done = rw (called_ignored s x is).0 few
    go false false is done = rw (called_held s x is done).0 (room s x full is done)
    go false true is done = rw (called_finished s x is done).0 (omega arith)

within_few : (n : ℕ) (s : Stream) (x : List ℕ) → length s.reader.held ≡ 24 → s.reader.length ≤ 24 → (fed_within n s x).reader.length ≤ 24
unfolding fed_within
within_few zero s x full few = few
within_few (suc n) s [] full few = few
within_few (suc n) s (b ∷ bs) full few =
    within_few n (called s (b ∷ bs)) (drop (call s (b ∷ bs)).taken (b ∷ bs)) (called_full s (b ∷ bs) full) (called_few s (b ∷ bs) full few)

fed_few : (s : Stream) (x : List ℕ) → length s.reader.held ≡ 24 → s.reader.length ≤ 24 → (fed s x).reader.length ≤ 24
unfolding fed
fed_few s x = within_few (length x) s x

all_few : (s : Stream) (xs : List (List ℕ)) → length s.reader.held ≡ 24 → s.reader.length ≤ 24 → (fed_all s xs).reader.length ≤ 24
unfolding fed_all
all_few s [] full few = few
all_few s (x ∷ xs) full few = all_few (fed s x) xs (fed_full s x full) (fed_few s x full few)

finished_few : (s : Stream) → s.reader.length ≤ 24 → (finished s).reader.length ≤ 24
finished_few s few = go (ignores s) (eqb s.reader.length 0) refl refl
  where
    go : (is none : Bool) → ignores s ≡ is → eqb s.reader.length 0 ≡ none → (finished s).reader.length ≤ 24
    go true none is size = rw (finished_ignored s is) few
    go false true is size = rw (finished_none s is (eqb-true s.reader.length 0 size)) few
    go false false is size = rw (finished_cut s is (eqb-false s.reader.length 0 size)) (omega arith)

pub ignored_holds : IgnoredAlways
ignored_holds s xs full =
    record {
      fragments = all_ignored s xs full;
      finish = finished_ignored s;
      begins = begins s;
      ends = ends s;
      few = λ few. (all_few s xs full few, finished_few s few);
    }
