-- The simulation, proved: the answer, and by it the step; and the reason of a record.
use Rattle.std.specs.Prelude.{ℕ, min, ◌+◌, ◌≤◌, Bool, List, [], ◌∷◌, ◌++◌, map, ◌≡◌}
use Rattle.std.proofs.Math.Bool.{true, false, not}
use Rattle.std.proofs.Math.Path.{refl, sym, ap}
use Rattle.std.proofs.Common.{◌∙◌, arith}
use borrow.Author.Tests.{ne_eqb, eq-eqb, ltb-false}
use Rattle.std.proofs.Math.ListN.{length}
use Rattle.model.specs.declared.Context.{Context}
use Rattle.model.specs.declared.Address.{Address}
use Rattle.model.specs.Context.{in_range}
use Rattle.model.specs.Layouts.{kind_of, length_of}
use Rattle.model.specs.Tables.{limit, joined, records, only}
use Rattle.model.specs.Events.{event, valid_event}
use Rattle.model.specs.Scopes.{next_context}
use Rattle.model.specs.Answers.{valid_here, created, no_room, valid_table, table_grounds, event_grounds, event_answer, rule_with}
use Rattle.model.specs.Steps.{in_scope, new_table, accepted_step, refused_step, new_records}
use Rattle.model.specs.Lookups.{usable_records}
use Rattle.model.specs.Reasons.{one_record, explained_answer, explanation}
use Rattle.laws.specs.Buffers.{take_put_front}
use Rattle.laws.specs.Lists.{Every, every_head, every_append, every_append_back}
use Rattle.laws.specs.Context.{linear_width_next}
use Rattle.laws.specs.Mappings.{valid_starts, record_length_starts}
use Rattle.laws.specs.Tables.{records_nil, every_only}
use Rattle.laws.specs.Answers.{first_zero, valid_table_parts, valid_table_made, stored_valid, table_grounds_whole}
use Rattle.laws.specs.Steps.{records_new_table, new_table_whole, creation_of_width, length_new_table}
use Rattle.laws.specs.Reasons.{one_record_parts, explained_out_of_range, explained_event, explained_accepted}
use Rattle.tallies.specs.Tallies.{pcid_counts}
use Rattle.tally_rows.specs.declared.KindCounts.{KindCounts}
use Rattle.tally_rows.specs.Rows.{kind_counts, matching}
use Rattle.counted_steps.specs.Steps.{counted_grounds, counted_answer, counted_stepped, counted_pcids, counted_written}
use Rattle.runs.proofs.Laws.Steps.{by_answer}
use Rattle.widening.specs.Widening.{widened, widened_table}
use Rattle.widening.specs.Theorem.{with_width}
use Rattle.widening.proofs.Laws.Tables.{widened_valid, widened_of_width}
use Rattle.widening_runs.specs.Simulation.{widened_event, canonical_where_looked_at, Widenable, result, Alike, WideningSimulates}
use Rattle.widening_runs.proofs.Laws.Grounds.{twin_events, widened_event_valid, event_grounds_alike, own_rule_alike, next_context_alike, reason_of_twin}
use Rattle.widening_runs.proofs.Laws.Tables.{Narrow, narrow_sibling, records_narrow, length_widened_table, table_widens, kind_counts_widened, pcid_counts_widened, room_at_48, new_table_widened, dropped_count_widened}

-- ---- the conditions

-- with buffers as long, room at width 57 is all the room that is asked for
pub widenable_with_room : (t e : List ℕ) (room : ℕ) → valid_table 48 t ≡ true → valid_event 48 e ≡ true
    → canonical_where_looked_at (event e) ≡ true → no_room room (widened_table t) (widened_event e) ≡ false
    → Widenable t e room room
unfolding no_room
widenable_with_room t e room table valid here enough =
    record {
      table = table;
      valid = valid;
      looked_at = here;
      short = omega (arith, ltb-false (min room limit) (length (widened_table t) + length (created (widened_event e))) enough);
      same_room = enough ∙ sym (room_at_48 e valid t table room enough);
    }

-- ---- a result, by its answer

module _ (c : Context) (kinds : List KindCounts) (pcids t e b : List ℕ) where
  pub result_accepted : counted_answer c kinds pcids t e (length b) ≡ 0
      → result c kinds pcids t e b
      ≡ record {
        step = accepted_step c t e;
        rows = kind_counts (records (new_table c t e));
        by_pcid = pcid_counts (records (new_table c t e));
        table = new_table c t e;
      }
  unfolding result counted_stepped counted_pcids counted_written accepted_step
  result_accepted none = rw (none, take_put_front)

  pub result_refused : (n : ℕ) → counted_answer c kinds pcids t e (length b) ≡ n → (n ≡ 0 → ⊥)
      → result c kinds pcids t e b ≡ record { step = refused_step n c e; rows = kinds; by_pcid = pcids; table = [] }
  unfolding result counted_stepped counted_pcids counted_written refused_step
  result_refused n is some = rw (is, ne_eqb n 0 some)

  -- there was room
  accepted_room : (room : ℕ) → counted_answer c kinds pcids t e room ≡ 0 → length t + length (created e) ≤ limit
  unfolding counted_answer counted_grounds table_grounds event_grounds no_room
  accepted_room room none =
      let all = first_zero (counted_grounds c kinds pcids t e room) refl none in
      let last =
      every_append_back (table_grounds c t ++ ((4, not (valid_here c e)) ∷ (13, not (matching kinds pcids (records t))) ∷ []) ++ event_grounds c (event e)) ((12, no_room room t e) ∷ []) all in
      omega (arith, ltb-false (min room limit) (length t + length (created e)) (every_head last))

usable_none : (c : Context) (a : Address) → usable_records c a [] ≡ []
unfolding usable_records only
usable_none c a = rw records_nil

pub widened_table_none : widened_table [] ≡ []
unfolding widened_table joined
widened_table_none = rw records_nil

-- the width is 48 where it was
pub at_48 : (c : Context) → c.linear_width ≡ 48 → with_width 48 c ≡ c
at_48 c is =
    λ i. record {
      capability = c.capability;
      width = c.width;
      linear_width = sym is i;
      pcid = c.pcid;
      cpl = c.cpl;
      place = c.place;
    }

-- ---- the answer and the step

module _ (c : Context) (t e : List ℕ) (room room' : ℕ) (w : Widenable t e room room') where
  in_range_alike : in_range (with_width 57 c) ≡ in_range (with_width 48 c)
  unfolding in_range
  in_range_alike = refl

  table_grounds_alike : table_grounds (with_width 57 c) (widened_table t) ≡ table_grounds (with_width 48 c) t
  table_grounds_alike =
      let wide = (stored_valid 57 (widened_table t) (table_widens t w.table w.short).valid).1 in
      table_grounds_whole (with_width 57 c) (widened_table t) wide w.short
      ∙ rw in_range_alike (sym (table_grounds_whole (with_width 48 c) t w.table (omega (arith, length_widened_table t w.table, w.short))))

  matching_alike : (kinds : List KindCounts) (pcids : List ℕ) → matching kinds pcids (records (widened_table t)) ≡ matching kinds pcids (records t)
  unfolding matching
  matching_alike kinds pcids =
      rw ((table_widens t w.table w.short).each, kind_counts_widened (records_narrow t w.table), pcid_counts_widened (records_narrow t w.table))

  answer_alike : (kinds : List KindCounts) (pcids : List ℕ)
      → counted_answer (with_width 57 c) kinds pcids (widened_table t) (widened_event e) room' ≡ counted_answer (with_width 48 c) kinds pcids t e room
  unfolding counted_answer counted_grounds
  answer_alike kinds pcids =
      rw (table_grounds_alike, widened_event_valid e w.valid, w.valid, matching_alike kinds pcids, event_grounds_alike c (twin_events e w.valid) w.looked_at, w.same_room)

  rule_alike : (n : ℕ) → rule_with (with_width 57 c) (widened_event e) n ≡ rule_with (with_width 48 c) e n
  unfolding rule_with
  rule_alike n = rw (own_rule_alike c (twin_events e w.valid))

  -- the table after an accepted event
  new_valid : valid_table 48 (new_table (with_width 48 c) t e) ≡ true
  unfolding new_records
  new_valid =
      let kept = every_only (λ r. not (in_scope (with_width 48 c) e r)) (valid_table_parts 48 t w.table).1 in
      valid_table_made 48 (new_table (with_width 48 c) t e) (new_table_whole 48 (with_width 48 c) t e w.valid)
      (rw (records_new_table 48 (with_width 48 c) t e w.valid) (every_append kept (creation_of_width 48 e w.valid)))

  new_is : new_table (with_width 57 c) (widened_table t) (widened_event e) ≡ widened_table (new_table (with_width 48 c) t e)
  new_is = new_table_widened c e w.valid w.looked_at t w.table w.short

  context_is : next_context (with_width 57 c) (event (widened_event e)) ≡ with_width 57 (next_context (with_width 48 c) (event e))
  context_is = next_context_alike c (twin_events e w.valid)

module _ (c : Context) (kinds : List KindCounts) (pcids t e b b' : List ℕ) (w : Widenable t e (length b) (length b')) where
  refused_alike : (n : ℕ) → counted_answer (with_width 48 c) kinds pcids t e (length b) ≡ n → (n ≡ 0 → ⊥)
      → Alike (result (with_width 48 c) kinds pcids t e b) (result (with_width 57 c) kinds pcids (widened_table t) (widened_event e) b')
  unfolding refused_step
  refused_alike n is some =
      rw (
        result_refused (with_width 48 c) kinds pcids t e b n is some,
        result_refused (with_width 57 c) kinds pcids (widened_table t) (widened_event e) b' n (answer_alike c t e (length b) (length b') w kinds pcids ∙ is) some,
      )
      (record {
        answer = refl;
        rule = rule_alike c t e (length b) (length b') w n;
        context = refl;
        table = sym widened_table_none;
        dropped = refl;
        looked_up = λ a. usable_none _ a ∙ ap (map widened) (sym (usable_none _ a));
        rows = refl;
        by_pcid = refl;
      })

  module _ (none : counted_answer (with_width 48 c) kinds pcids t e (length b) ≡ 0) where
    accepted_57 : counted_answer (with_width 57 c) kinds pcids (widened_table t) (widened_event e) (length b') ≡ 0
    accepted_57 = answer_alike c t e (length b) (length b') w kinds pcids ∙ none

    new_57 : new_table (with_width 57 c) (widened_table t) (widened_event e) ≡ widened_table (new_table (with_width 48 c) t e)
    new_57 = new_is c t e (length b) (length b') w

    new_short : length (widened_table (new_table (with_width 48 c) t e)) ≤ limit
    new_short =
        omega (
          arith,
          accepted_room (with_width 57 c) kinds pcids (widened_table t) (widened_event e) b' (length b') accepted_57,
          length_new_table (with_width 57 c) (widened_table t) (widened_event e),
          ap length new_57,
        )

    looked_up : (a : Address)
        → usable_records (next_context (with_width 57 c) (event (widened_event e))) a (new_table (with_width 57 c) (widened_table t) (widened_event e))
        ≡ map widened (usable_records (next_context (with_width 48 c) (event e)) a (new_table (with_width 48 c) t e))
    looked_up a =
        let next = next_context (with_width 48 c) (event e) in
        rw (context_is c t e (length b) (length b') w, new_57)
        ((table_widens (new_table (with_width 48 c) t e) (new_valid c t e (length b) (length b') w) new_short).usable next a
        ∙ ap (λ (d : Context). map widened (usable_records d a (new_table (with_width 48 c) t e))) (at_48 next (linear_width_next (with_width 48 c) (event e))))

    records_57 : records (new_table (with_width 57 c) (widened_table t) (widened_event e)) ≡ map widened (records (new_table (with_width 48 c) t e))
    records_57 = rw new_57 (table_widens (new_table (with_width 48 c) t e) (new_valid c t e (length b) (length b') w) new_short).each

    new_narrow : Every Narrow (records (new_table (with_width 48 c) t e))
    new_narrow = records_narrow (new_table (with_width 48 c) t e) (new_valid c t e (length b) (length b') w)

    accepted_alike : Alike (result (with_width 48 c) kinds pcids t e b) (result (with_width 57 c) kinds pcids (widened_table t) (widened_event e) b')
    unfolding accepted_step
    accepted_alike =
        rw (
          result_accepted (with_width 48 c) kinds pcids t e b none,
          result_accepted (with_width 57 c) kinds pcids (widened_table t) (widened_event e) b' accepted_57,
        )
        (record {
          answer = refl;
          rule = refl;
          context = context_is c t e (length b) (length b') w;
          table = new_57;
          dropped = dropped_count_widened c e w.valid w.looked_at t w.table w.short;
          looked_up = looked_up;
          rows = rw records_57 (kind_counts_widened new_narrow);
          by_pcid = rw records_57 (pcid_counts_widened new_narrow);
        })

-- ---- the reason of a record

module _ (c : Context) (r e : List ℕ) (one : one_record 48 r ≡ true) (valid : valid_event 48 e ≡ true) (here : canonical_where_looked_at (event e) ≡ true) where
  narrow : Narrow r
  narrow = let parts = one_record_parts 48 r one in record { valid = parts.valid; own = parts.width }

  one_57 : one_record 57 (widened r) ≡ true
  unfolding one_record
  one_57 =
      let v = widened_valid r narrow.valid narrow.own in
      let starts = valid_starts (widened r) v in
      let exact : length (widened r) ≡ length_of (kind_of (widened r)) = sym v.exact ∙ record_length_starts (widened r) starts in
      rw (starts, eq-eqb (length (widened r)) (length_of (kind_of (widened r))) exact, widened_of_width r narrow.valid narrow.own)

  event_answer_alike : event_answer (with_width 57 c) (event (widened_event e)) ≡ event_answer (with_width 48 c) (event e)
  unfolding event_answer
  event_answer_alike = rw (event_grounds_alike c (twin_events e valid) here)

  explained_alike : explained_answer (with_width 57 c) (widened r) (widened_event e) ≡ explained_answer (with_width 48 c) r e
  unfolding in_range
  explained_alike = go (in_range (with_width 48 c)) refl
    where
      go : (b : Bool) → in_range (with_width 48 c) ≡ b
          → explained_answer (with_width 57 c) (widened r) (widened_event e) ≡ explained_answer (with_width 48 c) r e
      go false out =
          explained_out_of_range (with_width 57 c) (widened r) (widened_event e) out ∙ sym (explained_out_of_range (with_width 48 c) r e out)
      go true fit =
          by_answer (event_answer (with_width 48 c) (event e))
          (λ none.
          explained_accepted (with_width 57 c) (widened r) (widened_event e) fit one_57 (widened_event_valid e valid) (event_answer_alike ∙ none)
          ∙ sym (explained_accepted (with_width 48 c) r e fit one valid none))
          (λ some.
          explained_event (with_width 57 c) (widened r) (widened_event e) fit one_57 (widened_event_valid e valid) (λ none. some (sym event_answer_alike ∙ none))
          ∙ event_answer_alike
          ∙ sym (explained_event (with_width 48 c) r e fit one valid some))

  explanation_alike : explanation (with_width 57 c) (widened r) (widened_event e) ≡ explanation (with_width 48 c) r e
  unfolding explanation rule_with
  explanation_alike =
      rw (explained_alike, own_rule_alike c (twin_events e valid), reason_of_twin c (narrow_sibling r narrow) (twin_events e valid) here)

-- ---- the claim

pub widening_simulates_holds : WideningSimulates
widening_simulates_holds c kinds pcids t e b b' w =
    record {
      step =
          by_answer (counted_answer (with_width 48 c) kinds pcids t e (length b))
          (accepted_alike c kinds pcids t e b b' w)
          (refused_alike c kinds pcids t e b b' w _ refl);
      explained = λ r one. explanation_alike c r e one w.valid w.looked_at;
    }
