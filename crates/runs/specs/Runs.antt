-- Document 01, "Whole runs": the first run, the second run with its removals, and how the two are compared.
use Rattle.std.specs.Prelude.{ℕ, suc, Bool, false, cond, ◌&&◌, ◌||◌, List, [], ◌∷◌, ◌≡◌, eqb, length, take}
use Rattle.model.specs.Buffers.{put}
use Rattle.model.specs.declared.Context.{Context}
use Rattle.model.specs.declared.Step.{Step}
use Rattle.model.specs.declared.Address.{Address}
use Rattle.model.specs.Context.{after_reset}
use Rattle.model.specs.Layouts.{kind_of, mapping_kind}
use Rattle.model.specs.Tables.{joined, records}
use Rattle.model.specs.Steps.{stepped, written}
use Rattle.model.specs.Lookups.{usable_records}
use Rattle.runs.specs.Book.{Report}

-- the context and table in force, the buffer that holds the table, and the other one
pub record Run : Type 0 where
  pub context : Context
  pub table : List ℕ
  pub front : List ℕ
  pub back : List ℕ

-- "A run starts with the context after a reset, any capability and N, an empty table and two buffers"
unfoldable pub started : Context → List ℕ → List ℕ → Run
started c a b = record { context = after_reset c; table = []; front = a; back = b }

-- "Each event, valid or any other bytes, is one step on the context and table in force, and writes
-- into the other buffer."
unfoldable pub run_answer : Run → List ℕ → ℕ
run_answer s e = (stepped s.context s.table e (length s.back)).answer

unfoldable pub run_written : Run → List ℕ → List ℕ
run_written s e = written s.context s.table e s.back

-- the run after a step, by what the step handed back and the buffer that it wrote into: a new table is in force, and
-- the buffers change places
abbrev pub moved : Run → Step → List ℕ → Run
moved s r b =
    cond (eqb r.answer 0)
    (record { context = r.context; table = take r.length b; front = b; back = s.front })
    (record { context = r.context; table = s.table; front = s.front; back = b })

unfoldable pub run_after : Run → List ℕ → Run
run_after s e = moved s (stepped s.context s.table e (length s.back)) (run_written s e)

-- what is told of a step
abbrev pub report : Step → Report
report r = record { answer = r.answer; rule = r.rule; dropped = r.dropped; context = r.context }

unfoldable pub run_report : Run → List ℕ → Report
run_report s e = report (stepped s.context s.table e (length s.back))

unfoldable pub run_reports : Run → List (List ℕ) → List Report
run_reports s [] = []
run_reports s (e ∷ es) = run_report s e ∷ run_reports (run_after s e) es

unfoldable pub run_of : Run → List (List ℕ) → Run
run_of s [] = s
run_of s (e ∷ es) = run_of (run_after s e) es

-- the runs before the first event and after each one
unfoldable pub run_states : Run → List (List ℕ) → List Run
run_states s [] = s ∷ []
run_states s (e ∷ es) = s ∷ run_states (run_after s e) es

-- "any whole records, none and all included, are taken out of its table": a removal says of each
-- record, by its place, whether it goes; records past its end stay
unfoldable pub without : List Bool → List (List ℕ) → List (List ℕ)
without [] rs = rs
without (gone ∷ more) [] = []
without (gone ∷ more) (r ∷ rs) = cond gone (without more rs) (r ∷ without more rs)

unfoldable pub run_without : List Bool → Run → Run
run_without gone s =
    record {
      context = s.context;
      table = joined (without gone (records s.table));
      front = put 0 (joined (without gone (records s.table))) s.front;
      back = s.back;
    }

-- "An in-order part is what such a removal leaves."
unfoldable pub InOrderPart : List (List ℕ) → List (List ℕ) → Type 0
InOrderPart part rs = (gone : List Bool) × (part ≡ without gone rs)

-- the second run at one gap: before and after the removal there
pub record Gap : Type 0 where
  pub before : Run
  pub after : Run

-- the second run: a removal before each event and after the last, the n-th gap's given by removals n
unfoldable pub second_gaps : (ℕ → List Bool) → Run → List (List ℕ) → List Gap
second_gaps removals s [] = record { before = s; after = run_without (removals 0) s } ∷ []
second_gaps removals s (e ∷ es) =
    record { before = s; after = run_without (removals 0) s }
    ∷ second_gaps (λ n. removals (suc n)) (run_after (run_without (removals 0) s) e) es

unfoldable pub second_reports : (ℕ → List Bool) → Run → List (List ℕ) → List Report
second_reports removals s [] = []
second_reports removals s (e ∷ es) =
    run_report (run_without (removals 0) s) e
    ∷ second_reports (λ n. removals (suc n)) (run_after (run_without (removals 0) s) e) es

-- the run refuses a creation for room: "Refused for room means answer 12."
unfoldable pub refused_for_room : Run → List (List ℕ) → Bool
refused_for_room s [] = false
refused_for_room s (e ∷ es) = (mapping_kind (kind_of e) && eqb (run_answer s e) 12) || refused_for_room (run_after s e) es

-- a run's usable records are an in-order part of the other's, whatever address is looked up
unfoldable pub UsableWithin : Run → Run → Type 0
UsableWithin s full =
    (a : Address) → InOrderPart (usable_records s.context a s.table) (usable_records full.context a full.table)

-- the second run compared with the first after the same events, at every gap: the same context, and
-- usable records within the first run's both before and after the removal
pub data Compared : List Gap → List Run → Type 0 where
  none : Compared [] []
  more : {g : Gap} {gs : List Gap} {s : Run} {ss : List Run}
      → g.before.context ≡ s.context
      → UsableWithin g.before s
      → UsableWithin g.after s
      → Compared gs ss
      → Compared (g ∷ gs) (s ∷ ss)

-- the answer number, with its rule, and the context of a report
pub record Verdict : Type 0 where
  pub answer : ℕ
  pub rule : ℕ
  pub context : Context

unfoldable pub verdict : Report → Verdict
verdict r = record { answer = r.answer; rule = r.rule; context = r.context }
