-- The events of a log: how long the first one is, and the events behind it.
use Rattle.std.specs.Prelude.{ℕ, zero, suc, min, ◌+◌, ◌≤◌, ◌<◌, ◌≡◌, refl, Bool, true, false, cond, not, ◌&&◌, ◌||◌, List, [], ◌∷◌, ◌++◌, eqb, leb, ltb, length, take, drop}
use Rattle.std.proofs.Common.{sym, ap, ◌∙◌, arith, le_refl, add-zero, length-append, length-drop, drop_of_length-le, drop-drop, length-take-le, leb-true, leb-false, ltb-true, ltb-false, ne_eqb, lt-ltb, le-ltb}
use Rattle.std.proofs.Math.Bool.{and-false}
use Rattle.std.proofs.lemmas.Bool.{false≢true}
use Rattle.std.proofs.Math.Seq.{take-nil}
use Rattle.model.specs.Layouts.{kind_of, event_kind, length_of}
use Rattle.model.specs.Tables.{joined}
use Rattle.model.specs.Events.{event, event_in_range, valid_event}
use Rattle.model.specs.Mappings.{other_width}
use Rattle.laws.specs.Layouts.{length_of_positive}
use Rattle.laws.specs.Events.{other_width_invalid}
use Rattle.logs.specs.Logs.{known_at, told_length, event_size, events_within, events_of, event_at, events_from}

-- where there is no byte, no length is told
pub told_length_none : (w : ℕ) (log : List ℕ) → length log ≡ 0 → told_length w log ≡ 0
unfolding told_length kind_of event_kind
told_length_none w [] h = refl
told_length_none w (b ∷ bs) h = absurd (omega arith)

-- the first event has as many bytes as its kind says, or all of the log where these are fewer
pub event_size_min : (w : ℕ) (log : List ℕ)
    → event_size w log ≡ min (cond (known_at w (kind_of log)) (length_of (kind_of log)) (length log)) (length log)
unfolding event_size
event_size_min w log = go (known_at w (kind_of log)) (leb (length_of (kind_of log)) (length log)) refl
  where
    go : (known fits : Bool) → leb (length_of (kind_of log)) (length log) ≡ fits
        → cond (known && fits) (length_of (kind_of log)) (length log) ≡ min (cond known (length_of (kind_of log)) (length log)) (length log)
    go true true h = omega (arith, leb-true (length_of (kind_of log)) (length log) h)
    go true false h = omega (arith, leb-false (length_of (kind_of log)) (length log) h)
    go false fits h = omega arith

-- the same, from the length that is told
pub event_size_told : (w : ℕ) (log : List ℕ)
    → event_size w log ≡ cond (eqb (told_length w log) 0 || ltb (length log) (told_length w log)) (length log) (told_length w log)
unfolding event_size told_length
event_size_told w log =
    (go (known_at w (kind_of log)) (leb (length_of (kind_of log)) (length log)) refl)
  where
    some : length_of (kind_of log) ≡ 0 → ⊥
    some h = omega (arith, length_of_positive (kind_of log))

    go : (known fits : Bool) → leb (length_of (kind_of log)) (length log) ≡ fits
        → cond (known && fits) (length_of (kind_of log)) (length log)
        ≡ cond (eqb (cond known (length_of (kind_of log)) 0) 0 || ltb (length log) (cond known (length_of (kind_of log)) 0)) (length log) (cond known (length_of (kind_of log)) 0)
    go true true h = rw (ne_eqb (length_of (kind_of log)) 0 some, le-ltb (length log) (length_of (kind_of log)) (leb-true _ _ h))
    go true false h = rw (ne_eqb (length_of (kind_of log)) 0 some, lt-ltb (length log) (length_of (kind_of log)) (leb-false _ _ h))
    go false fits h = refl

pub event_size_le : (w : ℕ) (log : List ℕ) → event_size w log ≤ length log
event_size_le w log = omega (arith, event_size_min w log)

pub event_size_positive : (w : ℕ) (log : List ℕ) → 0 < length log → 0 < event_size w log
event_size_positive w log some = rw event_size_min (go (known_at w (kind_of log)))
  where
    go : (known : Bool) → 0 < min (cond known (length_of (kind_of log)) (length log)) (length log)
    go true = omega (arith, length_of_positive (kind_of log))
    go false = omega arith

-- an unknown kind or a cut record takes all that is left, and is not a valid event
pub event_size_cut : (w : ℕ) (log : List ℕ) → (known_at w (kind_of log) && leb (length_of (kind_of log)) (length log)) ≡ false
    → (event_size w log ≡ length log) × (valid_event w log ≡ false)
unfolding event_size valid_event
event_size_cut w log h =
    (rw h, go (event_kind (kind_of log)) (other_width w (kind_of log)) (leb (length_of (kind_of log)) (length log)) refl refl refl h)
  where
    go : (known other fits : Bool) → event_kind (kind_of log) ≡ known → other_width w (kind_of log) ≡ other → leb (length_of (kind_of log)) (length log) ≡ fits
        → (known && not other && fits) ≡ false
        → (event_kind (kind_of log) && eqb (length log) (length_of (kind_of log)) && event_in_range w (event log)) ≡ false
    go true false true k o p q = absurd (false≢true (sym q))
    go true false false k o p q =
        rw (ne_eqb (length log) (length_of (kind_of log)) (λ same. omega (arith, leb-false (length_of (kind_of log)) (length log) p)), and-false)
    go true true fits k o p q = other_width_invalid w log o
    go false other fits k o p q = rw k

-- from a position of the log on, it is some bytes of what is left
pub event_size_within : (w : ℕ) (log : List ℕ) (at : ℕ) → at < length log
    → (0 < event_size w (drop at log)) × (at + event_size w (drop at log) ≤ length log)
event_size_within w log at h =
    let left = length-drop at log in
    (event_size_positive w (drop at log) (omega arith), omega (arith, event_size_le w (drop at log)))

-- any number of events that is at least the log's length allows all
pub events_within_enough : (w : ℕ) (n m : ℕ) (log : List ℕ) → length log ≤ n → length log ≤ m → events_within w n log ≡ events_within w m log
unfolding events_within
events_within_enough w zero zero log h k = refl
events_within_enough w zero (suc m) [] h k = refl
events_within_enough w (suc n) zero [] h k = refl
events_within_enough w (suc n) (suc m) [] h k = refl
events_within_enough w zero (suc m) (b ∷ bs) h k = absurd (omega arith)
events_within_enough w (suc n) zero (b ∷ bs) h k = absurd (omega arith)
events_within_enough w (suc n) (suc m) (b ∷ bs) h k =
    let some = event_size_positive w (b ∷ bs) (omega arith) in
    let left = length-drop (event_size w (b ∷ bs)) (b ∷ bs) in
    ap (λ es. take (event_size w (b ∷ bs)) (b ∷ bs) ∷ es)
    (events_within_enough w n m (drop (event_size w (b ∷ bs)) (b ∷ bs)) (omega arith) (omega arith))

-- the first event, and those behind it
pub events_of_cons : (w : ℕ) (log : List ℕ) → 0 < length log
    → events_of w log ≡ take (event_size w log) log ∷ events_of w (drop (event_size w log) log)
unfolding events_of events_within
events_of_cons w [] some = absurd (omega arith)
events_of_cons w (b ∷ bs) some =
    let more = event_size_positive w (b ∷ bs) some in
    let left = length-drop (event_size w (b ∷ bs)) (b ∷ bs) in
    ap (λ es. take (event_size w (b ∷ bs)) (b ∷ bs) ∷ es)
    (events_within_enough w (length bs) (length (drop (event_size w (b ∷ bs)) (b ∷ bs))) (drop (event_size w (b ∷ bs)) (b ∷ bs)) (omega arith) (le_refl _))

-- the same from a position of the log on
pub events_of_drop : (w : ℕ) (log : List ℕ) (at : ℕ) → at < length log
    → events_of w (drop at log) ≡ take (event_size w (drop at log)) (drop at log) ∷ events_of w (drop (at + event_size w (drop at log)) log)
events_of_drop w log at h = events_of_cons w (drop at log) (omega (arith, length-drop at log)) ∙ rw drop-drop

pub events_of_end : (w : ℕ) (log : List ℕ) (at : ℕ) → length log ≤ at → events_of w (drop at log) ≡ []
unfolding events_of events_within
events_of_end w log at h = rw (drop_of_length-le log h)

-- at most n events from a position on: the one there and the others, or none
pub events_from_cons : (w : ℕ) (log : List ℕ) (at n : ℕ) → at < length log
    → events_from w log at (suc n) ≡ event_at w log at ∷ events_from w log (at + event_size w (drop at log)) n
unfolding events_from
events_from_cons w log at n h = rw (events_of_drop w log at h)

pub events_from_none : (w : ℕ) (log : List ℕ) (at : ℕ) → events_from w log at 0 ≡ []
unfolding events_from
events_from_none w log at = refl

pub events_from_end : (w : ℕ) (log : List ℕ) (at n : ℕ) → length log ≤ at → events_from w log at n ≡ []
unfolding events_from
events_from_end w log at n h = rw (events_of_end w log at h) (take-nil n)

pub length_event_at : (w : ℕ) (log : List ℕ) (at : ℕ) → length (event_at w log at) ≡ event_size w (drop at log)
length_event_at w log at = length-take-le (event_size w (drop at log)) (drop at log) (event_size_le w (drop at log))

-- the events from a position on: the next n and the others
pub events_of_split : (w : ℕ) (log : List ℕ) (n at : ℕ)
    → events_of w (drop at log) ≡ events_from w log at n ++ events_of w (drop (at + length (joined (events_from w log at n))) log)
unfolding joined
events_of_split w log zero at = rw (events_from_none w log at, add-zero)
events_of_split w log (suc n) at = go (ltb at (length log)) refl (events_of_split w log n (at + event_size w (drop at log)))
  where
    next : ℕ
    next = at + event_size w (drop at log)

    go : (more : Bool) → ltb at (length log) ≡ more
        → events_of w (drop next log) ≡ events_from w log next n ++ events_of w (drop (next + length (joined (events_from w log next n))) log)
        → events_of w (drop at log) ≡ events_from w log at (suc n) ++ events_of w (drop (at + length (joined (events_from w log at (suc n)))) log)
    go true h others =
        let here = ltb-true at (length log) h in
        let end : at + length (event_at w log at ++ joined (events_from w log next n)) ≡ next + length (joined (events_from w log next n)) =
        omega (arith, length-append (event_at w log at) (joined (events_from w log next n)), length_event_at w log at) in
        rw (events_from_cons w log at n here, end, events_of_drop w log at here) (ap (λ es. event_at w log at ∷ es) others)
    go false h others = rw (events_from_end w log at (suc n) (ltb-false at (length log) h), add-zero)
