-- Readers and the calls on fragments (document 02, Ask 3) as flat structs of numbers, for callers in other languages.
use Rattle.std.specs.Prelude.{ℕ, Bool, cond, not, List, eqb}
use Rattle.model.specs.declared.Context.{Context}
use Rattle.model.specs.declared.Step.{Step}
use Rattle.readers.specs.declared.Reader.{Reader}
use Rattle.readers.specs.Readers.{emptied}
use Rattle.fragments.specs.declared.Taken.{Taken}
use Rattle.fragments.specs.declared.Finished.{Finished}
use Rattle.fragments.specs.Fragments.{taken_of, taken_pcids, taken_written, finished_of}
use Rattle.flat_contexts.specs.declared.FlatContext.{FlatContext}
use Rattle.flat_contexts.specs.Contexts.{is_known, unflatten}
use Rattle.flat_steps.specs.declared.FlatStep.{FlatStep}
use Rattle.flat_steps.specs.declared.FlatKinds.{FlatKinds}
use Rattle.flat_steps.specs.Steps.{refused, flat_result}
use Rattle.flat_fragments.specs.declared.FlatReader.{FlatReader}
use Rattle.flat_fragments.specs.declared.FlatTaken.{FlatTaken}
use Rattle.flat_fragments.specs.declared.FlatFinished.{FlatFinished}

-- the reader that numbers stand for: it ignores unless the flag is 0
unfoldable pub reader_of : FlatReader → Reader
reader_of r = record { line = r.line; ignoring = not (eqb r.ignoring 0); length = r.length; held = r.held }

-- a reader after a call; a flag that stays set keeps its number, so that a reader that is handed back as it came has it too
unfoldable pub flat_reader : FlatReader → Reader → FlatReader
flat_reader before r =
    record { line = r.line; ignoring = cond r.ignoring (cond (eqb before.ignoring 0) 1 before.ignoring) 0; length = r.length; held = r.held }

-- the context that numbers stand for. Where they stand for nothing it is one out of its ranges, CPL 4, with the same linear width:
-- every event is then answered 1.
unfoldable pub as_read : FlatContext → Context
as_read c =
    cond (is_known c) (unflatten c)
    (record {
      capability = c.capability;
      width = c.width;
      linear_width = c.linear_width;
      pcid = c.pcid;
      cpl = 4;
      place = (unflatten c).place;
    })

-- what is told of a step; where no event is finished, numbers 0 and the context as it came
unfoldable pub flat_told : FlatContext → Bool → Step → FlatStep
flat_told c finished s = cond finished (flat_result c s) (refused 0 0 c)

-- what a call hands back
abbrev pub taken_as : FlatReader → FlatContext → Taken → FlatTaken
taken_as r c taken =
    record {
      reader = flat_reader r taken.reader;
      taken = taken.taken;
      finished = cond taken.finished 1 0;
      step = flat_told c taken.finished taken.step;
      kinds = record { rows = taken.kinds };
    }

unfoldable pub flat_taken : FlatReader → FlatContext → FlatKinds → List ℕ → List ℕ → List ℕ → ℕ → FlatTaken
flat_taken r c kinds pcids t x room = taken_as r c (taken_of (reader_of r) (as_read c) kinds.rows pcids t x room)

-- the counts by PCID after it, and the new buffer
unfoldable pub flat_taken_pcids : FlatReader → FlatContext → FlatKinds → List ℕ → List ℕ → List ℕ → ℕ → List ℕ
flat_taken_pcids r c kinds pcids t x room = taken_pcids (reader_of r) (as_read c) kinds.rows pcids t x room

unfoldable pub flat_taken_written : FlatReader → FlatContext → FlatKinds → List ℕ → List ℕ → List ℕ → List ℕ → List ℕ
flat_taken_written r c kinds pcids t x buffer = taken_written (reader_of r) (as_read c) kinds.rows pcids t x buffer

-- a finish call, and a reset of the reader
abbrev pub finished_as : FlatReader → Finished → FlatFinished
finished_as r f = record { reader = flat_reader r f.reader; finished = cond f.finished 1 0; answer = f.answer }

unfoldable pub flat_finished : FlatReader → FlatContext → List ℕ → FlatFinished
flat_finished r c t = finished_as r (finished_of (reader_of r) (as_read c) t)

unfoldable pub flat_emptied : FlatReader → FlatReader
flat_emptied r = flat_reader r (emptied (reader_of r))
