-- Document 02, Ask 3: "Let the replay take a log in fragments of any length, none included, cut anywhere." What a call and a
-- finish call give.
use Rattle.std.specs.Prelude.{ℕ, ◌-◌, Bool, true, false, cond, not, ◌&&◌, ◌||◌, List, [], ◌∷◌, ◌++◌, eqb, length, take}
use Rattle.model.specs.declared.Context.{Context}
use Rattle.model.specs.Layouts.{kind_of}
use Rattle.model.specs.Answers.{first, table_grounds}
use Rattle.model.specs.Steps.{refusal}
use Rattle.tally_rows.specs.declared.KindCounts.{KindCounts}
use Rattle.counted_steps.specs.Steps.{counted_stepped, counted_pcids, counted_written}
use Rattle.logs.specs.Logs.{known_at}
use Rattle.readers.specs.declared.Reader.{Reader}
use Rattle.readers.specs.Readers.{held_bytes, first_size, complete, counts_as_ignoring, holding, read_on, ended}
use Rattle.fragments.specs.declared.Taken.{Taken}
use Rattle.fragments.specs.declared.Finished.{Finished}

-- a call finishes an event, at a linear width: the reader does not ignore, and the bytes held and those of the fragment finish one
unfoldable pub finishes : ℕ → Reader → List ℕ → Bool
finishes width r x = not (counts_as_ignoring width r) && complete width (held_bytes r ++ x)

-- the event that it finishes; an unknown kind byte is one alone
unfoldable pub event_taken : ℕ → Reader → List ℕ → List ℕ
event_taken width r x = take (first_size width (held_bytes r ++ x)) (held_bytes r ++ x)

-- "A call stops after the first event it finishes and tells how many bytes it took": those of the event that were not held,
-- or the whole fragment
unfoldable pub bytes_taken : ℕ → Reader → List ℕ → ℕ
bytes_taken width r x = cond (finishes width r x) (first_size width (held_bytes r ++ x) - r.length) (length x)

-- "After an unknown kind, an answer 2 or 3 .. later fragments are taken whole and ignored"
unfoldable pub ignoring_after : ℕ → List ℕ → ℕ → Bool
ignoring_after width e answer = not (known_at width (kind_of e)) || (eqb answer 2 || eqb answer 3)

-- a call that finishes no event tells nothing of a step, and keeps context and tally
abbrev pub untaken : Reader → Context → List KindCounts → ℕ → Taken
untaken r c kinds taken = record { reader = r; taken = taken; finished = false; step = refusal 0 0 c; kinds = kinds }

-- the reader after such a call: an ignored fragment leaves it as it came, else the bytes are held
unfoldable pub reader_kept : ℕ → Reader → List ℕ → Reader
reader_kept width r x = cond (counts_as_ignoring width r) r (holding r x)

-- what a call hands back; the event that it finishes is one step beside the tally (Ask 7: "Fragmented replay carries the tally
-- too"), read at the context's linear width (Ask 12)
unfoldable pub taken_of : Reader → Context → List KindCounts → List ℕ → List ℕ → List ℕ → ℕ → Taken
taken_of r c kinds pcids t x room =
    let width = c.linear_width in
    let e = event_taken width r x in
    let counted = counted_stepped c kinds pcids t e room in
    cond (finishes width r x)
    (record {
      reader = read_on r (ignoring_after width e counted.step.answer);
      taken = bytes_taken width r x;
      finished = true;
      step = counted.step;
      kinds = counted.kinds;
    })
    (untaken (reader_kept width r x) c kinds (length x))

-- the counts by PCID after it, and the new buffer
unfoldable pub taken_pcids : Reader → Context → List KindCounts → List ℕ → List ℕ → List ℕ → ℕ → List ℕ
taken_pcids r c kinds pcids t x room =
    let width = c.linear_width in
    cond (finishes width r x) (counted_pcids c kinds pcids t (event_taken width r x) room) pcids

unfoldable pub taken_written : Reader → Context → List KindCounts → List ℕ → List ℕ → List ℕ → List ℕ → List ℕ
taken_written r c kinds pcids t x buffer =
    let width = c.linear_width in
    cond (finishes width r x) (counted_written c kinds pcids t (event_taken width r x) buffer) buffer

-- "A finish call reports a cut record as answer 4 .. For a cut record and an unknown kind, answers 1 to 3 go first, as in any
-- step."
unfoldable pub cut_answer : Context → List ℕ → ℕ
cut_answer c t = first (table_grounds c t ++ ((4, true) ∷ []))

-- what a finish call hands back: "or nothing if no byte is held"; the ignoring begins, "as are finish calls" ignored
unfoldable pub finished_of : Reader → Context → List ℕ → Finished
finished_of r c t =
    cond (counts_as_ignoring c.linear_width r)
    (record { reader = r; finished = false; answer = 0 })
    (cond (eqb r.length 0)
    (record { reader = ended r; finished = false; answer = 0 })
    (record { reader = read_on r true; finished = true; answer = cut_answer c t }))
