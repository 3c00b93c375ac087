-- One call, by its three ways: ignored, held, and with an event that it finishes.
use Rattle.std.specs.Prelude.{ℕ, ◌+◌, ◌-◌, ◌≤◌, ◌<◌, ◌≡◌, Bool, true, false, not, ◌||◌, List, [], ◌∷◌, ◌++◌, Option, is_some, eqb, length, unwrap_or}
use Rattle.std.proofs.Math.Path.{refl, sym, ap}
use Rattle.std.proofs.Common.{◌∙◌, arith, length-append, length-take, length-take-le}
use Rattle.std.proofs.Math.ListN.{take}
use Rattle.std.proofs.Math.Seq.{take-take}
use borrow.Author.Tests.{le-leb, lt-leb}
use Rattle.model.specs.declared.Context.{Context}
use Rattle.model.specs.Layouts.{kind_of}
use Rattle.model.specs.Answers.{first, table_grounds}
use Rattle.laws.specs.Answers.{first_append_some, first_append_none}
use Rattle.laws.specs.Mappings.{kind_of_take}
use Rattle.tally_rows.specs.declared.KindCounts.{KindCounts}
use Rattle.counted_steps.specs.declared.CountedStep.{CountedStep}
use Rattle.counted_steps.specs.Steps.{counted_stepped, counted_pcids, counted_written}
use Rattle.logs.specs.Logs.{known_at}
use Rattle.readers.specs.declared.Reader.{Reader}
use Rattle.readers.specs.declared.Gathered.{Gathered}
use Rattle.readers.specs.Readers.{held_bytes, first_size, complete, counts_as_ignoring, holding, read_on, First, Together}
use Rattle.readers.proofs.Laws.Readers.{first_size_positive, first_size_most, kind_of_front, first_size_front, unfinished, unfinished_most, listening}
use Rattle.fragments.specs.declared.Taken.{Taken}
use Rattle.fragments.specs.Fragments.{finishes, event_taken, bytes_taken, ignoring_after, untaken, reader_kept, taken_of, taken_pcids, taken_written, cut_answer}

-- what is told of the bytes put together
module _ (w : ℕ) (r : Reader) (x : List ℕ) (all : Gathered) (got : Together r x all) where
  abbrev all_bytes : List ℕ
  all_bytes = held_bytes r ++ x

  count_within : all.length ≤ length all.bytes
  count_within = omega (arith, ap length got.bytes, length-take all.length all.bytes, length-take 25 all_bytes, got.size)

  pub length_gathered : (all.length ≤ length all.bytes) × (all.length ≡ length (take all.length all.bytes))
  length_gathered = (count_within, sym (length-take-le all.length all.bytes count_within))

  module _ (first : Option ℕ) (told : First w (take all.length all.bytes) first) (size : ℕ) (its_size : size ≡ unwrap_or first 1) where
    pub size_told : size ≡ first_size w all_bytes
    size_told = its_size ∙ told.size ∙ ap (first_size w) got.bytes ∙ first_size_front w all_bytes

    pub known_told : is_some first ≡ known_at w (kind_of all_bytes)
    known_told = told.known ∙ ap (λ bytes. known_at w (kind_of bytes)) got.bytes ∙ ap (known_at w) (kind_of_front all_bytes)

    -- too few bytes
    module _ (few : all.length < size) where
      pub not_complete : complete w all_bytes ≡ false
      unfolding complete
      not_complete = lt-leb (first_size w all_bytes) (length all_bytes) (omega (arith, size_told, got.size, first_size_most w all_bytes))

      pub room_to_hold : r.length + length x ≤ 24
      room_to_hold = omega (arith, unfinished_most w all_bytes not_complete, length-append (held_bytes r) x, got.held)

    -- enough bytes
    module _ (enough : size ≤ all.length) where
      pub is_complete : complete w all_bytes ≡ true
      unfolding complete
      is_complete = le-leb (first_size w all_bytes) (length all_bytes) (omega (arith, size_told, got.size))

      pub event_within : (size ≤ length all.bytes) × (size ≡ length (take size all.bytes))
      event_within =
          let within : size ≤ length all.bytes = omega (arith, count_within) in
          (within, sym (length-take-le size all.bytes within))

      pub event_told : take size all.bytes ≡ event_taken w r x
      unfolding event_taken
      event_told =
          sym (take-take size all.length all.bytes enough)
          ∙ ap (take size) got.bytes
          ∙ take-take size 25 all_bytes (omega (arith, size_told, first_size_most w all_bytes))
          ∙ ap (λ n. take n all_bytes) size_told

      event_is : take (first_size w all_bytes) all_bytes ≡ event_taken w r x
      unfolding event_taken
      event_is = refl

      kind_told : is_some first ≡ known_at w (kind_of (take size all.bytes))
      kind_told =
          known_told
          ∙ ap (known_at w) (sym (kind_of_take (first_size w all_bytes) all_bytes (λ zero. omega (arith, first_size_positive w all_bytes))))
          ∙ ap (λ bytes. known_at w (kind_of bytes)) (event_is ∙ sym event_told)

      pub unknown_told : (unknown : Bool) → is_some first ≡ not unknown → unknown ≡ not (known_at w (kind_of (take size all.bytes)))
      unknown_told true is = ap not (sym is ∙ kind_told)
      unknown_told false is = ap not (sym is ∙ kind_told)

      pub held_within : counts_as_ignoring w r ≡ false → r.length ≤ size
      held_within is = omega (arith, size_told, got.held, unfinished w (held_bytes r) x (listening w r is).begun)

module _ (r : Reader) (c : Context) (kinds : List KindCounts) (pcids t x b : List ℕ) where
  abbrev w : ℕ
  w = c.linear_width

  abbrev y : List ℕ
  y = held_bytes r ++ x

  -- what a call hands back and writes
  abbrev pub Takes : Taken → List ℕ → List ℕ → Type 0
  Takes taken pcids' b' =
      (taken ≡ taken_of r c kinds pcids t x (length b))
      × ((pcids' ≡ taken_pcids r c kinds pcids t x (length b)) × (b' ≡ taken_written r c kinds pcids t x b))

  pub take_ignored : counts_as_ignoring w r ≡ true → {taken : Taken} → taken ≡ untaken r c kinds (length x) → Takes taken pcids b
  unfolding finishes taken_of taken_pcids taken_written reader_kept
  take_ignored is told = (told ∙ rw is, (rw is, rw is))

  pub take_held : counts_as_ignoring w r ≡ false → complete w y ≡ false → {taken : Taken} → taken ≡ untaken (holding r x) c kinds (length x) → Takes taken pcids b
  unfolding finishes taken_of taken_pcids taken_written reader_kept
  take_held is part told = (told ∙ rw (is, part), (rw (is, part), rw (is, part)))

  pub take_finished : counts_as_ignoring w r ≡ false → complete w y ≡ true
      → {e : List ℕ} {size : ℕ} {unknown : Bool} {counted : CountedStep} {pcids' b' : List ℕ} {reader : Reader}
      → e ≡ event_taken w r x
      → size ≡ first_size w y
      → unknown ≡ not (known_at w (kind_of e))
      → (counted ≡ counted_stepped c kinds pcids t e (length b)) × ((pcids' ≡ counted_pcids c kinds pcids t e (length b)) × (b' ≡ counted_written c kinds pcids t e b))
      → reader ≡ read_on r (unknown || (eqb counted.step.answer 2 || eqb counted.step.answer 3))
      → Takes (record { reader = reader; taken = size - r.length; finished = true; step = counted.step; kinds = counted.kinds }) pcids' b'
  unfolding finishes taken_of taken_pcids taken_written bytes_taken ignoring_after
  take_finished is whole event told kind step read =
      let stepped = rw event at step.0 in
      (rw (is, whole, read, told, kind, event, stepped), (step.1.0 ∙ rw (is, whole, event), step.1.1 ∙ rw (is, whole, event)))

-- ---- a cut record

pub cut_answer_none : (c : Context) (t : List ℕ) → first (table_grounds c t) ≡ 0 → cut_answer c t ≡ 4
unfolding cut_answer table_grounds first
cut_answer_none c t passes = first_append_none (table_grounds c t) ((4, true) ∷ []) refl passes

pub cut_answer_some : (c : Context) (t : List ℕ) → (first (table_grounds c t) ≡ 0 → ⊥) → cut_answer c t ≡ first (table_grounds c t)
unfolding cut_answer
cut_answer_some c t refuses = first_append_some (table_grounds c t) ((4, true) ∷ []) refuses
