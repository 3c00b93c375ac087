-- The first event of some bytes: how long it is, and that bytes behind it do not matter; and the bytes that a reader holds.
use Rattle.std.specs.Prelude.{ℕ, zero, suc, min, ◌+◌, ◌-◌, ◌≤◌, ◌<◌, ◌≡◌, refl, Bool, true, false, cond, not, ◌&&◌, ◌||◌, List, [], ◌∷◌, ◌++◌, Some, None, leb, ltb, length, take}
use Rattle.std.proofs.Math.Path.{sym, ap}
use Rattle.std.proofs.Common.{◌∙◌, arith, length-append, length-take, take_all, take-take, leb-true, leb-false, ltb-false, le-leb, le-ltb}
use Rattle.std.proofs.lemmas.Bool.{false≢true}
use Rattle.std.proofs.Math.Seq.{length-take-le, take-length, take-append-add}
use Rattle.model.specs.Buffers.{put}
use Rattle.model.specs.Layouts.{kind_of, event_kind, body_of, length_of}
use Rattle.laws.specs.Buffers.{take_put, take_put_front, length_put_least}
use Rattle.laws.specs.Layouts.{of_event_kind, length_of_positive}
use Rattle.logs.specs.Logs.{known_at, told_length}
use Rattle.model.specs.Mappings.{other_width}
use Rattle.readers.specs.declared.Reader.{Reader}
use Rattle.readers.specs.Readers.{most_held, held_bytes, first_size, complete, counts_as_ignoring, holding, First, Together}

-- ---- the first event

-- from the length that its kind tells
pub first_unknown : (w : ℕ) (bytes : List ℕ) → told_length w bytes ≡ 0 → First w bytes None
unfolding told_length first_size
first_unknown w bytes none = go (known_at w (kind_of bytes)) refl none
  where
    go : (known : Bool) → known_at w (kind_of bytes) ≡ known → cond known (length_of (kind_of bytes)) 0 ≡ 0 → First w bytes None
    go true is zero_told = absurd (omega (arith, length_of_positive (kind_of bytes)))
    go false is zero_told = record { size = rw is; known = sym is }

pub first_known : (w : ℕ) (bytes : List ℕ) → (told_length w bytes ≡ 0 → ⊥) → First w bytes (Some (told_length w bytes))
unfolding told_length first_size
first_known w bytes some = go (known_at w (kind_of bytes)) refl some
  where
    go : (known : Bool) → known_at w (kind_of bytes) ≡ known → (cond known (length_of (kind_of bytes)) 0 ≡ 0 → ⊥)
        → First w bytes (Some (cond (known_at w (kind_of bytes)) (length_of (kind_of bytes)) 0))
    go true is told = record { size = rw is; known = sym is }
    go false is told = absurd (told refl)

-- it has a byte at least, and 25 at most
pub first_size_positive : (w : ℕ) (bytes : List ℕ) → 0 < first_size w bytes
unfolding first_size
first_size_positive w bytes = go (known_at w (kind_of bytes))
  where
    go : (known : Bool) → 0 < cond known (length_of (kind_of bytes)) 1
    go true = length_of_positive (kind_of bytes)
    go false = omega arith

length_most : (k : ℕ) → event_kind k ≡ true → length_of k ≤ 25
unfolding length_of body_of
length_most k known = leb-true (length_of k) 25 (of_event_kind (λ k. leb (length_of k) 25) refl k known)

pub first_size_most : (w : ℕ) (bytes : List ℕ) → first_size w bytes ≤ 25
unfolding first_size
first_size_most w bytes = go (event_kind (kind_of bytes)) (other_width w (kind_of bytes)) refl
  where
    go : (known other : Bool) → event_kind (kind_of bytes) ≡ known → cond (known && not other) (length_of (kind_of bytes)) 1 ≤ 25
    go true true is = omega arith
    go true false is = length_most (kind_of bytes) is
    go false other is = omega arith

-- bytes behind a byte do not matter
pub kind_of_append : (a b : List ℕ) → 0 < length a → kind_of (a ++ b) ≡ kind_of a
unfolding kind_of
kind_of_append [] b some = absurd (omega arith)
kind_of_append (x ∷ a) b some = refl

pub first_size_append : (w : ℕ) (a b : List ℕ) → 0 < length a → first_size w (a ++ b) ≡ first_size w a
unfolding first_size
first_size_append w a b some = rw (kind_of_append a b some)

pub kind_of_take : (n : ℕ) (y : List ℕ) → 0 < n → kind_of (take n y) ≡ kind_of y
unfolding kind_of
kind_of_take zero y some = absurd (omega arith)
kind_of_take (suc n) [] some = refl
kind_of_take (suc n) (x ∷ y) some = refl

pub kind_of_front : (y : List ℕ) → kind_of (take 25 y) ≡ kind_of y
kind_of_front y = kind_of_take 25 y (omega arith)

pub first_size_front : (w : ℕ) (y : List ℕ) → first_size w (take 25 y) ≡ first_size w y
unfolding first_size
first_size_front w y = rw (kind_of_front y)

-- of no byte, one byte more is wanted
pub first_size_none : (w : ℕ) → first_size w [] ≡ 1
unfolding first_size kind_of event_kind
first_size_none w = refl

-- bytes that finish no event are fewer than it has, whatever is behind them
pub unfinished : (w : ℕ) (a b : List ℕ) → complete w a ≡ false → length a < first_size w (a ++ b)
unfolding complete
unfinished w [] b none = first_size_positive w b
unfinished w (x ∷ a) b none = rw (first_size_append w (x ∷ a) b (omega arith)) (leb-false (first_size w (x ∷ a)) (length (x ∷ a)) none)

pub unfinished_most : (w : ℕ) (a : List ℕ) → complete w a ≡ false → length a ≤ 24
unfolding complete
unfinished_most w a none = omega (arith, leb-false (first_size w a) (length a) none, first_size_most w a)

pub finished : (w : ℕ) (a b : List ℕ) → complete w a ≡ true → (complete w (a ++ b) ≡ true) × (first_size w (a ++ b) ≡ first_size w a)
unfolding complete
finished w [] b whole = absurd (omega (arith, leb-true (first_size w []) 0 whole, first_size_positive w []))
finished w (x ∷ a) b whole =
    let same = first_size_append w (x ∷ a) b (omega arith) in
    (rw same (le-leb (first_size w (x ∷ a)) (length ((x ∷ a) ++ b)) (omega (arith, leb-true (first_size w (x ∷ a)) (length (x ∷ a)) whole, length-append (x ∷ a) b))), same)

-- ---- the bytes held

-- what it is that a reader does not ignore
pub record Listening (w : ℕ) (r : Reader) : Type 0 where
  pub flag : r.ignoring ≡ false
  pub few : r.length ≤ 24
  pub begun : complete w (held_bytes r) ≡ false

pub listening : (w : ℕ) (r : Reader) → counts_as_ignoring w r ≡ false → Listening w r
unfolding counts_as_ignoring
listening w r h =
    go r.ignoring (ltb most_held r.length) (complete w (held_bytes r)) refl refl refl h
  where
    go : (flag many done : Bool) → r.ignoring ≡ flag → ltb most_held r.length ≡ many → complete w (held_bytes r) ≡ done
        → (flag || (many || done)) ≡ false → Listening w r
    go true many done p q s h = absurd (false≢true (sym h))
    go false true done p q s h = absurd (false≢true (sym h))
    go false false true p q s h = absurd (false≢true (sym h))
    go false false false p q s h = record { flag = p; few = ltb-false most_held r.length q; begun = s }

pub listens : (w : ℕ) (r : Reader) → Listening w r → counts_as_ignoring w r ≡ false
unfolding counts_as_ignoring
listens w r l = rw (l.begun, le-ltb most_held r.length l.few, l.flag)

-- the front of a list, no longer than it
take_fewer : (n : ℕ) (x : List ℕ) → take (min n (length x)) x ≡ take n x
take_fewer n x = go (leb n (length x)) refl
  where
    go : (b : Bool) → leb n (length x) ≡ b → take (min n (length x)) x ≡ take n x
    go true h = let low : min n (length x) ≡ n = omega (arith, leb-true n (length x) h) in rw low
    go false h =
        let high : min n (length x) ≡ length x = omega (arith, leb-false n (length x) h) in
        rw (high, take-length x) (sym (take_all n x (omega (arith, leb-false n (length x) h))))

-- a buffer is not shorter than what is put at its front
length_put_front : (xs b : List ℕ) → length xs ≤ length (put 0 xs b)
length_put_front xs b = omega (arith, ap length (take_put_front xs b), length-take (length xs) (put 0 xs b))

module _ (r : Reader) (full : length r.held ≡ 24) where
  pub length_held : r.length ≤ 24 → length (held_bytes r) ≡ r.length
  unfolding held_bytes
  length_held few = length-take-le r.length r.held (omega arith)

  -- at the front of a buffer that the 24 places are put into
  held_put : (b : List ℕ) → r.length ≤ 24 → take r.length (put 0 r.held b) ≡ held_bytes r
  unfolding held_bytes
  held_put b few = sym (take-take r.length (length r.held) (put 0 r.held b) (omega arith)) ∙ ap (take r.length) (take_put_front r.held b)

  -- with more bytes behind them
  pub held_more : (x : List ℕ) → r.length + length x ≤ 24 → held_bytes (holding r x) ≡ held_bytes r ++ x
  unfolding held_bytes
  held_more x fits = take_put r.length x r.held (omega arith)

  -- the bytes put together: the 24 places, and from the end of those held on the front of a fragment
  pub together : (x : List ℕ) (more n : ℕ) (one two three : List ℕ) → r.length ≤ 24 → more ≡ min (25 - r.length) (length x)
      → two ≡ put 0 r.held one
      → n ≡ r.length + length (take more x)
      → three ≡ put r.length (take more x) two
      → Together r x (record { bytes = three; length = n })
  together x more n one two three few is p q s =
      let size = length_held few in
      let here : length (take more x) ≡ more = length-take-le more x (omega arith) in
      let all : 25 ≡ length (held_bytes r) + (25 - r.length) = omega arith in
      let front : take r.length two ≡ held_bytes r = rw p (held_put one few) in
      let long : r.length ≤ length two = rw p (omega (arith, length_put_least 0 r.held one, length_put_front r.held one)) in
      record {
        size = omega (arith, length-append (held_bytes r) x);
        bytes = rw (q, s, take_put r.length (take more x) two long, front, all, take-append-add (held_bytes r) x (25 - r.length), ← (take_fewer (25 - r.length) x), is);
        held = size;
      }
