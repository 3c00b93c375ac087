-- Document 02, Ask 12: "new kinds are created, dropped, explained, looked up and, in the same six rows, counted as their
-- 48-bit siblings." One claim: widening is a simulation. A step at width 57, on the widened table and event, does what the
-- step at width 48 does on the table and event.
use Rattle.std.specs.Prelude.{ℕ, ◌≤◌, Bool, true, cond, List, map, ◌≡◌, eqb, length, take}
use Rattle.model.specs.declared.Context.{Context}
use Rattle.model.specs.declared.Event.{Event}
use Rattle.model.specs.declared.Event.TheVariants.{Creation, Invvpid, Invept, Invlpg, EptViolation, Entry, Exit, Vmxon, Vmxoff, NewPcid, Reset, Invpcid, MovToCr3}
use Rattle.model.specs.declared.Address.{Address}
use Rattle.model.specs.declared.Step.{Step}
use Rattle.model.specs.Layouts.{kind_of, mapping_kind}
use Rattle.model.specs.Tables.{limit}
use Rattle.model.specs.Events.{canonical, event, valid_event}
use Rattle.model.specs.Answers.{no_room, valid_table}
use Rattle.model.specs.Lookups.{usable_records}
use Rattle.model.specs.Reasons.{one_record, explanation}
use Rattle.tally_rows.specs.declared.KindCounts.{KindCounts}
use Rattle.counted_steps.specs.Steps.{counted_stepped, counted_pcids, counted_written}
use Rattle.widening.specs.Widening.{widened, widened_table}
use Rattle.widening.specs.Theorem.{with_width}

-- a creation is widened as a stored record is; any other event stays as it is
unfoldable pub widened_event : List ℕ → List ℕ
widened_event e = cond (mapping_kind (kind_of e)) (widened e) e

-- The linear address that an event looks at is canonical at 48 bits. These events look at one: INVVPID of type 0 ("a
-- non-canonical address with type 0" is answer 8), INVLPG ("A non-canonical address has nothing in scope"), an EPT
-- violation with linear flag 1 ("with flag 1 the linear address is canonical", else answer 4) and INVPCID of type 0
-- ("type 0 with a non-canonical address is answer 7", Ask 5). An address that is not canonical at 48 bits may be so at 57.
-- Of an EPT violation that is valid at width 48 the condition holds by itself.
unfoldable pub canonical_where_looked_at : Event → Bool
canonical_where_looked_at (Creation m) = true
canonical_where_looked_at (Invvpid o) = cond (eqb o.type_number 0) (canonical 48 o.high) true
canonical_where_looked_at (Invept o) = true
canonical_where_looked_at (Invlpg address) = canonical 48 address
canonical_where_looked_at (EptViolation v) = cond (eqb v.flag 1) (canonical 48 v.linear) true
canonical_where_looked_at (Entry n) = true
canonical_where_looked_at (Exit pcid) = true
canonical_where_looked_at Vmxon = true
canonical_where_looked_at Vmxoff = true
canonical_where_looked_at (NewPcid n) = true
canonical_where_looked_at Reset = true
canonical_where_looked_at (Invpcid o) = cond (eqb o.type_number 0) (canonical 48 o.high) true
canonical_where_looked_at (MovToCr3 pcid) = true

-- "every valid table and event", and the two conditions. Room is judged by bytes, of which the widened table and creation
-- have more: the widened table is within the limit (else answer 2), and both steps have room, each in its own buffer, or
-- neither has. With buffers as long, room at width 57 is enough (`widenable-with-room`).
pub record Widenable (t e : List ℕ) (room room' : ℕ) : Type 0 where
  pub table : valid_table 48 t ≡ true
  pub valid : valid_event 48 e ≡ true
  pub looked_at : canonical_where_looked_at (event e) ≡ true
  pub short : length (widened_table t) ≤ limit
  pub same_room : no_room room' (widened_table t) (widened_event e) ≡ no_room room t e

-- What the step that users call (`counted_steps::counted_step`) hands back and leaves: its report, the tally, and the new
-- table at the front of the buffer, which is empty with a refusal, since that reports length 0. With a tally that matches
-- it is document 01's plain step (`counted-stepped-matching`).
pub record Result : Type 0 where
  pub step : Step
  pub rows : List KindCounts
  pub by_pcid : List ℕ
  pub table : List ℕ

unfoldable pub result : Context → List KindCounts → List ℕ → List ℕ → List ℕ → List ℕ → Result
result c kinds pcids t e b =
    record {
      step = (counted_stepped c kinds pcids t e (length b)).step;
      rows = (counted_stepped c kinds pcids t e (length b)).kinds;
      by_pcid = counted_pcids c kinds pcids t e (length b);
      table = take (counted_stepped c kinds pcids t e (length b)).step.length (counted_written c kinds pcids t e b);
    }

-- a result at width 57 is that at width 48, widened
pub record Alike (narrow wide : Result) : Type 0 where
  -- the same answer, the same rule of the EPTP with it, and the same context but for the width
  pub answer : wide.step.answer ≡ narrow.step.answer
  pub rule : wide.step.rule ≡ narrow.step.rule
  pub context : wide.step.context ≡ with_width 57 narrow.step.context
  -- "created, dropped": the widened new table, and as many records dropped
  pub table : wide.table ≡ widened_table narrow.table
  pub dropped : wide.step.dropped ≡ narrow.step.dropped
  -- "looked up": at every address the same records of it are usable then, in the same order
  pub looked_up : (a : Address)
      → usable_records wide.step.context a wide.table ≡ map widened (usable_records narrow.step.context a narrow.table)
  -- "in the same six rows, counted": every count of the tally, by kind and span, and by PCID
  pub rows : wide.rows ≡ narrow.rows
  pub by_pcid : wide.by_pcid ≡ narrow.by_pcid

-- Of a step in a context at width 48, with a table and an event, and in its twin at width 57, with the widened ones. Both
-- have the same tally, which may match or not (answer 13), and each its own buffer. The context is any but for the width:
-- out of its ranges both answer 1.
pub record Simulates (c : Context) (kinds : List KindCounts) (pcids t e b b' : List ℕ) : Type 0 where
  pub step : Alike (result (with_width 48 c) kinds pcids t e b) (result (with_width 57 c) kinds pcids (widened_table t) (widened_event e) b')
  -- "explained": of every record the same reason, or the same refusal (Ask 1)
  pub explained : (r : List ℕ) → one_record 48 r ≡ true
      → explanation (with_width 57 c) (widened r) (widened_event e) ≡ explanation (with_width 48 c) r e

abbrev pub WideningSimulates : Type 0
WideningSimulates =
    (c : Context) (kinds : List KindCounts) (pcids t e b b' : List ℕ) → Widenable t e (length b) (length b') → Simulates c kinds pcids t e b b'
